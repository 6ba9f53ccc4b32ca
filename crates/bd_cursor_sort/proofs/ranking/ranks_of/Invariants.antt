use Rattle.std.proofs.Common.{◌≡◌, ◌≤◌, ◌++◌, drop, map, None}
use Rattle.std.specs.Option.{option_map}
use Rattle.bd_cursor_sort.specs.inside.Ranking.{keyed_row, ranks_from}
use Rattle.bd_cursor_sort.proofs.ranking.ranks_of.Given as goal

abbrev pub invariant-loop-row : goal.invariant-loop-row
invariant-loop-row l = record {
  fact : l.ranked.items ++ ranks_from l.dir l.rank (option_map keyed_row l.last) (map keyed_row (drop l.row-index l.rows)) ≡ ranks_from l.dir 0 None (map keyed_row l.rows);
  low : l.rank ≤ l.row-index;
}
