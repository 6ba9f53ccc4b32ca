use Rattle.std.proofs.Common.{◌≡◌, map, take}
use Rattle.bd_cursor_sort.proofs.RankingLemmas.{of_rank_0}
use Rattle.bd_cursor_sort.proofs.ranking.unranked.Given as goal

abbrev pub invariant-loop-place : goal.invariant-loop-place
invariant-loop-place l = l.ranked.items ≡ map of_rank_0 (take l.place-index l.all)
