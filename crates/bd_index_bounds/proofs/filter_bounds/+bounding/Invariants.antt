use Rattle.std.proofs.Common.{◌≡◌, drop, map, Some}
use Rattle.bd_path.specs.Path.{component_names}
use Rattle.bd_query_filter.specs.Filter.{filters_from, operators_from, filter_tree, operator_tree}
use Rattle.bd_index_bounds.specs.Bounds.{all_bounds, conjunction, disjunction, operator_bounds, some_bounds}
use Rattle.bd_index_bounds.specs.inside.BoundsView.{parts_bounds}
use Rattle.bd_index_bounds.proofs.FilterBoundsLemmas.{some_parts}
use Rattle.bd_index_bounds.proofs.filter_bounds.+bounding.Given as goal

-- the bounds so far, and those of the remaining members
abbrev pub invariant-all_bounds-loop-filter : goal.invariant-all_bounds-loop-filter
invariant-all_bounds-loop-filter l =
    conjunction l.index.multikey (parts_bounds l.parts.items) (all_bounds (filters_from (map filter_tree (drop l.filter-index l.filters))) (component_names l.index.path.now) l.index.multikey)
    ≡ all_bounds (filters_from (map filter_tree l.filters)) (component_names l.index.path.now) l.index.multikey

abbrev pub invariant-some_bounds-loop-filter : goal.invariant-some_bounds-loop-filter
invariant-some_bounds-loop-filter l =
    disjunction (some_parts l.parts.items) (some_bounds (filters_from (map filter_tree (drop l.filter-index l.filters))) (component_names l.index.path.now) l.index.multikey)
    ≡ some_bounds (filters_from (map filter_tree l.filters)) (component_names l.index.path.now) l.index.multikey

abbrev pub invariant-operator_bounds-loop-operator : goal.invariant-operator_bounds-loop-operator
invariant-operator_bounds-loop-operator l =
    conjunction l.index.multikey (parts_bounds l.parts.items)
    (operator_bounds (operators_from (map operator_tree (drop l.operator-index l.operators)))
    (Some (component_names l.index.path.now)) l.index.multikey)
    ≡ operator_bounds (operators_from (map operator_tree l.operators)) (Some (component_names l.index.path.now)) l.index.multikey
