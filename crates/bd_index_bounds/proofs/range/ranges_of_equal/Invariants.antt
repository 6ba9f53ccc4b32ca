use Rattle.std.proofs.Common.{◌≡◌, map, take}
use Rattle.bd_value.specs.View.{tree_of}
use Rattle.bd_index_bounds.specs.{Bounds.keys_equal_to, BoundsView.keys_within}
use Rattle.bd_index_bounds.proofs.range.ranges_of_equal.Given as goal

abbrev pub invariant-loop-value : goal.invariant-loop-value
invariant-loop-value l = map keys_within l.parts.items ≡ map keys_equal_to (map tree_of (take l.value-index l.values))
