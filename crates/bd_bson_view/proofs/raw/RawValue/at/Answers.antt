use Rattle.bd_bson_view.proofs.SoundLemmas.{located}
use Rattle.bd_bson_view.proofs.raw.RawValue.at.Goals as goal

pub returns-clause-meaning : goal.returns-clause-meaning
returns-clause-meaning c = located c.args.self.bytes.now c.args.self.start c.type_byte.result c.args.self.kind c.args.self.sound c.args.self.inside c.type_byte.ensures
