use Rattle.bd_wide_dump.proofs.RelaxedLemmas.{one_date}
use Rattle.bd_wide_dump.proofs.laws.one_date_text.Goals as goal

pub returns : goal.returns
returns c = one_date
