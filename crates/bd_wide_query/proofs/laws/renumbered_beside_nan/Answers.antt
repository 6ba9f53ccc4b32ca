use Rattle.bd_wide_rank.specs.Table.{worths}
use Rattle.bd_wide_rank.proofs.NanLemmas.{nan_is_alone}
use Rattle.bd_wide_query.proofs.NanLemmas.{all_coded}
use Rattle.bd_wide_query.proofs.laws.renumbered_beside_nan.Goals as goal

pub returns : goal.returns
returns c = λ f. all_coded (worths c.args.table.now) (nan_is_alone c.args.table.now) f
