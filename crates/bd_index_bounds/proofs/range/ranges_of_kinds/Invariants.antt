use Rattle.std.proofs.Common.{◌≡◌, map, take}
use Rattle.bd_value.specs.Order.{class_of_kind}
use Rattle.bd_index_bounds.specs.{Bounds.is_of_class, BoundsView.keys_within}
use Rattle.bd_index_bounds.proofs.range.ranges_of_kinds.Given as goal

abbrev pub invariant-loop-kind : goal.invariant-loop-kind
invariant-loop-kind l = map keys_within l.parts.items ≡ map (λ kind. is_of_class (class_of_kind kind)) (take l.kind-index l.kinds)
