use Rattle.bd_wide_dump.proofs.ReadBackLemmas.{rows_read}
use Rattle.bd_wide_dump.proofs.laws.csv_rows_read_back.Goals as goal

pub returns : goal.returns
returns c = rows_read
