use Rattle.std.proofs.Common.{◌≡◌, length}
use Rattle.bd_path.specs.Sort.{sort_paths}
use Rattle.bd_cursor_request.specs.Request.{sort_pairs}
use Rattle.bd_cursor_request.proofs.RequestLemmas.{joined}
use Rattle.bd_cursor_request.proofs.request.read_pairs.Given as goal

-- the paths read so far, with the remaining ones, are all
abbrev pub invariant-loop-next : goal.invariant-loop-next
invariant-loop-next g l = joined (sort_paths l.sort.items) (sort_pairs (g.N.Reading.remaining l.remaining)) ≡ sort_pairs (g.N.Reading.remaining l.fn.pairs)

abbrev pub decreases-loop-next : goal.decreases-loop-next
decreases-loop-next g l = length (g.N.Reading.remaining l.remaining)
