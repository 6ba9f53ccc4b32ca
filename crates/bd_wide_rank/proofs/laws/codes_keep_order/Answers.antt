use Rattle.bd_wide_rank.proofs.OrderLemmas.{codes_rise}
use Rattle.bd_wide_rank.proofs.laws.codes_keep_order.Goals as goal

pub returns : goal.returns
returns c = λ worths m n found. codes_rise worths m n found
