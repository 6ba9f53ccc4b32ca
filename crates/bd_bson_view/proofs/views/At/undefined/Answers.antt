use Rattle.bd_bson_view.proofs.SoundLemmas.{undefined_there}
use Rattle.bd_bson_view.proofs.views.At.undefined.Goals as goal

pub returns : goal.returns
returns c = undefined_there
