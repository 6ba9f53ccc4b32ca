use Rattle.std.proofs.Common.{length, map}
use Rattle.csv.specs.Writing.{default_writer, row_body}
use Rattle.bd_path.specs.PathNames.{path_text}
use Rattle.bd_wide_dump.proofs.{GoingLemmas.Going, RowLemmas.to_come}
use Rattle.bd_wide_dump.proofs.csv_row.append_csv_header.Given as goal

abbrev pub invariant-loop-rest : goal.invariant-loop-rest
invariant-loop-rest l =
    Going l.fn.buffer.items l.end (row_body default_writer (map path_text l.paths)) l.buffer.items l.at (to_come l.later (map path_text l.rest))

abbrev pub decreases-loop-rest : goal.decreases-loop-rest
decreases-loop-rest l = length l.rest
