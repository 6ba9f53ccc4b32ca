use Rattle.std.proofs.Common.{◌≡◌, length}
use Rattle.csv.specs.Writing.{default_writer, needs_quotes}
use Rattle.bd_wide_dump.proofs.csv_row.needs_quotes.Given as goal

abbrev pub invariant-loop-rest : goal.invariant-loop-rest
invariant-loop-rest l = needs_quotes default_writer l.rest ≡ needs_quotes default_writer l.field

abbrev pub decreases-loop-rest : goal.decreases-loop-rest
decreases-loop-rest l = length l.rest
