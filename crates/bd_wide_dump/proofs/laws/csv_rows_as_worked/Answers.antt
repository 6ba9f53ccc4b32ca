use Rattle.std.proofs.Common.{refl}
use Rattle.csv.specs.Writing.{escaped, fields_text, is_blank}
use Rattle.bd_wide_dump.proofs.laws.csv_rows_as_worked.Goals as goal

pub returns : goal.returns
unfolding escaped fields_text is_blank
returns c = refl
