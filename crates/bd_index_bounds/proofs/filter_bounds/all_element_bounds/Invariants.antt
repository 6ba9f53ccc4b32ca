use Rattle.std.proofs.Common.{◌≡◌, false, drop, map}
use Rattle.bd_query_filter.specs.Filter.{operators_from, operator_tree}
use Rattle.bd_index_bounds.specs.{Bounds.all_element_bounds, Bounds.conjunction, inside.BoundsView.parts_bounds}
use Rattle.bd_index_bounds.proofs.filter_bounds.all_element_bounds.Given as goal

-- the bounds so far, and those of the remaining operators
abbrev pub invariant-loop-operator : goal.invariant-loop-operator
invariant-loop-operator l =
    conjunction false (parts_bounds l.parts.items) (all_element_bounds (operators_from (map operator_tree (drop l.operator-index l.operators))))
    ≡ all_element_bounds (operators_from (map operator_tree l.operators))
