use Rattle.std.proofs.Common.{◌+◌, ◌≤◌, length, replicate}
use Rattle.bd_wide_dump.proofs.GoingLemmas.{Going}
use Rattle.bd_wide_dump.specs.Pretty.{line_end}
use Rattle.bd_wide_dump.proofs.pretty.append_tabs.Given as goal

abbrev pub invariant-loop-rest_count : goal.invariant-loop-rest_count
invariant-loop-rest_count l = record {
  going : Going l.fn.out.items l.end (line_end l.tabs) l.out.items l.at (replicate l.rest_count 9);
  space : l.at + 80 ≤ length l.out.items;
}

abbrev pub decreases-loop-rest_count : goal.decreases-loop-rest_count
decreases-loop-rest_count l = l.rest_count
