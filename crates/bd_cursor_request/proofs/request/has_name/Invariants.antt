use Rattle.std.proofs.Common.{◌≡◌, length}
use Rattle.std.specs.{List.list_any, Str.bytes_eq}
use Rattle.bd_cursor_request.specs.Request.{pair_names}
use Rattle.bd_cursor_request.proofs.request.has_name.Given as goal

-- the remaining names decide
abbrev pub invariant-loop-next : goal.invariant-loop-next
invariant-loop-next g l = list_any (bytes_eq l.name) (pair_names (g.N.Reading.remaining l.remaining)) ≡ list_any (bytes_eq l.name) (pair_names (g.N.Reading.remaining l.fn.pairs))

abbrev pub decreases-loop-next : goal.decreases-loop-next
decreases-loop-next g l = length (g.N.Reading.remaining l.remaining)
