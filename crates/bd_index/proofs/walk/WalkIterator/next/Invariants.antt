use Rattle.std.proofs.Common.{◌≡◌, length}
use Rattle.bd_index.specs.{Walk.places_ahead, WalkRemaining.walk_remaining}
use Rattle.bd_index.proofs.walk.WalkIterator.next.Given as goal

abbrev pub invariant-loop-place : goal.invariant-loop-place
invariant-loop-place l = walk_remaining l.self ≡ walk_remaining l.fn.self

abbrev pub decreases-loop-place : goal.decreases-loop-place
decreases-loop-place l = length (places_ahead l.self.order)
