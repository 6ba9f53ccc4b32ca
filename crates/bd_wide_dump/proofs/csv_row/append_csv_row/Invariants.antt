use Rattle.std.proofs.Common.{length}
use Rattle.bd_wide_dump.specs.Fields.{requested}
use Rattle.bd_wide_dump.proofs.RowLemmas.{RowGoes}
use Rattle.bd_wide_dump.proofs.csv_row.append_csv_row.Given as goal

abbrev pub invariant-loop-rest : goal.invariant-loop-rest
invariant-loop-rest l = RowGoes l.bytes (requested l.paths) l.fn.buffer.items l.end l.buffer.items l.at l.later (requested l.rest)

abbrev pub decreases-loop-rest : goal.decreases-loop-rest
decreases-loop-rest l = length l.rest
