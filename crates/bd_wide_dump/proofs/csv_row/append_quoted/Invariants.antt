use Rattle.std.proofs.Common.{◌∷◌, [], ◌++◌, length}
use Rattle.csv.specs.Writing.{default_writer, escaped, quoted}
use Rattle.bd_wide_dump.proofs.GoingLemmas.{Going}
use Rattle.bd_wide_dump.proofs.csv_row.append_quoted.Given as goal

abbrev pub invariant-loop-rest : goal.invariant-loop-rest
invariant-loop-rest l =
    Going l.fn.out.items l.end (quoted default_writer l.field) l.out.items l.at (escaped default_writer l.rest ++ 34 ∷ [])

abbrev pub decreases-loop-rest : goal.decreases-loop-rest
decreases-loop-rest l = length l.rest
