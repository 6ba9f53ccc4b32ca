use Rattle.std.proofs.Common.{◌≡◌, ◌-◌, ◌≤◌, drop}
use Rattle.bd_bson_view.specs.Sound.{elements_remaining}
use Rattle.bd_bson_view.proofs.raw.Elements.nth.Given as goal

abbrev pub invariant-loop-k : goal.invariant-loop-k
invariant-loop-k l = record { inside : l.k ≤ l.i; splits : elements_remaining l.rest.remaining ≡ drop l.k (elements_remaining l.initial.rest.remaining); same_source : l.rest.bytes.now ≡ l.initial.rest.bytes.now }

abbrev pub decreases-loop-k : goal.decreases-loop-k
decreases-loop-k l = l.i - l.k
