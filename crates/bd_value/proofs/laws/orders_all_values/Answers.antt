use Rattle.bd_value.proofs.OrderLemmas.{cmp_total}
use Rattle.bd_value.proofs.laws.orders_all_values.Goals as goal

pub returns : goal.returns
returns c = cmp_total
