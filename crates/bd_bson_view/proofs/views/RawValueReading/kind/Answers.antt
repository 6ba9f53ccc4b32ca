use Rattle.std.proofs.Common.{◌∙◌, sym, ap}
use Rattle.bd_value.specs.View.{kind_of}
use Rattle.bd_bson_view.specs.Sound.{meaning_is}
use Rattle.bd_bson_view.proofs.ValueAtLemmas.{kind_is}
use Rattle.bd_bson_view.proofs.views.RawValueReading.kind.Goals as goal

pub returns : goal.returns
returns c = sym (ap kind_of (meaning_is c.args.self.sound c.args.self.sound) ∙ kind_is c.args.self.kind _ c.args.self.sound)
