use Rattle.bd_bson_view.proofs.SoundLemmas.{null_there}
use Rattle.bd_bson_view.proofs.views.At.null.Goals as goal

pub returns : goal.returns
returns c = null_there
