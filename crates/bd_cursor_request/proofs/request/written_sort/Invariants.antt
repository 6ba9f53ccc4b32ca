use Rattle.std.proofs.Common.{◌≡◌, ◌++◌, length}
use Rattle.bd_value.specs.{View.node_parts, View.pairs}
use Rattle.bd_cursor_request.specs.Request.{sort_written}
use Rattle.bd_cursor_request.proofs.request.written_sort.Given as goal

-- the pairs written so far, with the remaining ones, are all
abbrev pub invariant-loop-next : goal.invariant-loop-next
invariant-loop-next l = pairs l.written ++ sort_written (node_parts l.remaining) ≡ sort_written (pairs l.fn.sort)

abbrev pub decreases-loop-next : goal.decreases-loop-next
decreases-loop-next l = length (node_parts l.remaining)
