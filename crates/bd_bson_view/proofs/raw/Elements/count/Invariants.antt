use Rattle.std.proofs.Common.{◌≡◌, ◌+◌, length}
use Rattle.bd_bson_view.specs.Sound.{elements_remaining}
use Rattle.bd_bson_view.proofs.raw.Elements.count.Given as goal

abbrev pub invariant-loop-after : goal.invariant-loop-after
invariant-loop-after l = l.n + length (elements_remaining l.rest.remaining) ≡ length (elements_remaining l.initial.rest.remaining)

abbrev pub decreases-loop-after : goal.decreases-loop-after
decreases-loop-after l = length (elements_remaining l.rest.remaining)
