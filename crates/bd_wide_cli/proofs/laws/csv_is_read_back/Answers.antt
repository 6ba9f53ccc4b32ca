use Rattle.bd_wide_cli.proofs.CsvLemmas.{header_and_rows}
use Rattle.bd_wide_cli.proofs.laws.csv_is_read_back.Goals as goal

pub returns : goal.returns
returns c = header_and_rows
