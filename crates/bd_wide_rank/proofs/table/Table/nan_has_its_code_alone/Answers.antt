use Rattle.bd_wide_rank.proofs.NanLemmas.{nan_is_alone}
use Rattle.bd_wide_rank.proofs.table.Table.nan_has_its_code_alone.Goals as goal

pub returns : goal.returns
returns c = λ w e. nan_is_alone c.args.self.now w e
