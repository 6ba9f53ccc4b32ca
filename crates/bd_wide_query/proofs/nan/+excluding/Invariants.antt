use Rattle.std.proofs.Common.{◌≡◌, ◌<◌, ℕ, get_or}
use Rattle.bd_query_filter.specs.Filter.{filter_tree, operator_tree}
use Rattle.bd_query_filter.specs.declared.filter.{Filter.Filter, Operator.Operator}
use Rattle.bd_wide_query.specs.Nan.{filter_beside_nan, operator_beside_nan}
use Rattle.bd_wide_query.proofs.nan.+excluding.Given as goal

-- those before the index are as they shall be, and the others as they were
abbrev pub invariant-exclude_in_filters-loop-i : goal.invariant-exclude_in_filters-loop-i
invariant-exclude_in_filters-loop-i l = record {
  unvisited : goal.unvisited-exclude_in_filters-loop-i l;
  visited : (k : ℕ) (d : Filter) → k < l.i
      → filter_tree (get_or l.filters.items k d) ≡ filter_beside_nan l.codes l.nan (filter_tree (get_or l.initial.filters.items k d));
}

abbrev pub invariant-exclude_in_operators-loop-i : goal.invariant-exclude_in_operators-loop-i
invariant-exclude_in_operators-loop-i l = record {
  unvisited : goal.unvisited-exclude_in_operators-loop-i l;
  visited : (k : ℕ) (d : Operator) → k < l.i
      → operator_tree (get_or l.operators.items k d) ≡ operator_beside_nan l.codes l.nan (operator_tree (get_or l.initial.operators.items k d));
}
