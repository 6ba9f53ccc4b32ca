use Rattle.bd_bson_view.proofs.SoundLemmas.{same_tree}
use Rattle.bd_bson_view.proofs.raw.RawValue.there.Goals as goal

pub returns-clause-meaning : goal.returns-clause-meaning
returns-clause-meaning c = λ sound. same_tree _ sound
