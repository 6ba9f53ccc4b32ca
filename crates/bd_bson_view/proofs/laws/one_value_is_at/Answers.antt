use Rattle.bd_bson_view.specs.Sound.{one_is_at}
use Rattle.bd_bson_view.proofs.laws.one_value_is_at.Goals as goal

pub returns : goal.returns
returns c = one_is_at
