use Rattle.std.proofs.Common.{sym, ◌∙◌}
use Rattle.bd_bson_view.specs.Sound.{meaning_is}
use Rattle.bd_bson_view.proofs.SoundLemmas.{pairs_make_document}
use Rattle.bd_bson_view.proofs.raw.RawDoc.value.Goals as goal

pub returns-clause-value : goal.returns-clause-value
returns-clause-value c = meaning_is _ c.args.self.sound ∙ sym (meaning_is c.args.self.sound c.args.self.sound)

pub returns-clause-document : goal.returns-clause-document
returns-clause-document c = meaning_is _ c.args.self.sound ∙ sym (meaning_is c.args.self.sound c.args.self.sound) ∙ pairs_make_document _ c.args.self.sound
