use Rattle.std.proofs.Common.{◌≡◌, length}
use Rattle.std.specs.Prelude.{is_some}
use Rattle.bd_cursor_request.specs.Request.{sort_pairs}
use Rattle.bd_cursor_request.proofs.request.are_sort_pairs.Given as goal

-- the remaining pairs decide
abbrev pub invariant-loop-next : goal.invariant-loop-next
invariant-loop-next g l = is_some (sort_pairs (g.N.Reading.remaining l.remaining)) ≡ is_some (sort_pairs (g.N.Reading.remaining l.fn.pairs))

abbrev pub decreases-loop-next : goal.decreases-loop-next
decreases-loop-next g l = length (g.N.Reading.remaining l.remaining)
