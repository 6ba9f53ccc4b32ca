use Rattle.bd_wide_number.specs.Value.{nan}
use Rattle.bd_wide_rank.specs.Worth.{value_worth}
use Rattle.bd_wide_query.proofs.RelateLemmas.{number_passes}
use Rattle.bd_wide_query.proofs.laws.numbers_relate_beside_nan.Goals as goal

pub returns : goal.returns
returns c = λ table r m n found least. number_passes table (value_worth nan) r m n found least
