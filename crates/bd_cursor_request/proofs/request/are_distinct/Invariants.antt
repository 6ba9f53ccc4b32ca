use Rattle.std.proofs.Common.{◌≡◌, length}
use Rattle.bd_cursor_request.specs.Request.{are_distinct, pair_names}
use Rattle.bd_cursor_request.proofs.request.are_distinct.Given as goal

-- the remaining names decide
abbrev pub invariant-loop-next : goal.invariant-loop-next
invariant-loop-next g l = are_distinct (pair_names (g.N.Reading.remaining l.remaining)) ≡ are_distinct (pair_names (g.N.Reading.remaining l.fn.pairs))

abbrev pub decreases-loop-next : goal.decreases-loop-next
decreases-loop-next g l = length (g.N.Reading.remaining l.remaining)
