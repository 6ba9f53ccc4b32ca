use Rattle.bd_wide_read.proofs.DoubleLemmas.{nan_read, same_read}
use Rattle.bd_wide_read.proofs.laws.double_text_is_read.Goals as goal

pub returns-clause-same : goal.returns-clause-same
returns-clause-same c = same_read

pub returns-clause-nan : goal.returns-clause-nan
returns-clause-nan c = nan_read
