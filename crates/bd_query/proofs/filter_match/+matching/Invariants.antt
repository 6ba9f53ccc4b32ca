use Rattle.std.proofs.Common.{◌≡◌, ◌≤◌, ◌<◌, ◌+◌, ◌*◌, drop, length, map}
use Rattle.std.specs.List.{list_any}
use Rattle.bd_value.specs.Tree.{elements_in, values_of, fields_of, fields_size, items_of, tree_size}
use Rattle.bd_path.specs.{PathNames.names_of, Path.component_names, Reach.each_collecting, Reach.ends, Reach.reach}
use Rattle.bd_query.specs.inside.FilterMatch.{is_matching, matches_element}
use Rattle.bd_query_filter.specs.Filter.{filters_from, operators_from, filter_tree, operator_tree}
use Rattle.bd_query_filter.specs.FilterMatch.{all_accept, all_hold, all_match, some_match}
use Rattle.bd_query.proofs.FilterMatchLemmas.{body_size, filter_size, filters_size, operator_size, operators_size}
use Rattle.bd_query.proofs.filter_match.+matching.Given as goal

-- the filter and the value both count, since one of them gets smaller
abbrev pub decreases-matches : goal.decreases-matches
decreases-matches g l = 5 * (filter_size (filter_tree l.filter.now) + tree_size (g.N.Reading.tree l.node))

abbrev pub decreases-all_match : goal.decreases-all_match
decreases-all_match g l = 5 * (filters_size (filters_from (map filter_tree l.filters.now)) + tree_size (g.N.Reading.tree l.node))

abbrev pub decreases-some_match : goal.decreases-some_match
decreases-some_match g l = 5 * (filters_size (filters_from (map filter_tree l.filters.now)) + tree_size (g.N.Reading.tree l.node))

abbrev pub decreases-all_hold : goal.decreases-all_hold
decreases-all_hold g l = 5 * (operators_size (operators_from (map operator_tree l.operators.now)) + tree_size (g.N.Reading.tree l.node))

abbrev pub decreases-holds : goal.decreases-holds
decreases-holds g l = 5 * (operator_size (operator_tree l.operator.now) + tree_size (g.N.Reading.tree l.node))

abbrev pub decreases-reaches_match : goal.decreases-reaches_match
decreases-reaches_match g l = 5 * (body_size l.body.now + tree_size (g.N.Reading.tree l.node)) + 4

abbrev pub decreases-any_end_matches : goal.decreases-any_end_matches
decreases-any_end_matches g l = 5 * (body_size l.path_walk.now.body.now + tree_size (g.N.Reading.tree l.node)) + 3

abbrev pub decreases-any_end_matches_in_field : goal.decreases-any_end_matches_in_field
decreases-any_end_matches_in_field g l = 5 * (body_size l.path_walk.now.body.now + tree_size (g.N.Reading.tree l.node)) + 2

abbrev pub decreases-any_end_matches_in_documents : goal.decreases-any_end_matches_in_documents
decreases-any_end_matches_in_documents g l = 5 * (body_size l.path_walk.now.body.now + tree_size (g.N.Reading.tree l.node)) + 2

abbrev pub decreases-any_end_matches_at_index : goal.decreases-any_end_matches_at_index
decreases-any_end_matches_at_index g l = 5 * (body_size l.path_walk.now.body.now + tree_size (g.N.Reading.tree l.node)) + 2

abbrev pub decreases-any_matches_element : goal.decreases-any_matches_element
decreases-any_matches_element g l = 5 * (body_size l.body.now + tree_size (g.N.Reading.tree l.node)) + 2

abbrev pub decreases-matches_element : goal.decreases-matches_element
decreases-matches_element g l = 5 * (body_size l.body.now + tree_size (g.N.Reading.tree l.element)) + 1

abbrev pub decreases-all_accept : goal.decreases-all_accept
decreases-all_accept g l = 5 * (operators_size (operators_from (map operator_tree l.operators.now)) + tree_size (g.N.Reading.tree l.element))

abbrev pub decreases-accepts : goal.decreases-accepts
decreases-accepts g l = 5 * (operator_size (operator_tree l.operator.now) + tree_size (g.N.Reading.tree l.element))

-- the rest decides
abbrev pub invariant-all_match-loop-filter : goal.invariant-all_match-loop-filter
invariant-all_match-loop-filter g l = record {
  so_far : all_match (filters_from (map filter_tree (drop l.filter-index l.filters))) (g.N.Reading.tree l.node)
      ≡ all_match (filters_from (map filter_tree l.filters)) (g.N.Reading.tree l.node);
  smaller : filters_size (filters_from (map filter_tree (drop l.filter-index l.filters))) ≤ filters_size (filters_from (map filter_tree l.filters));
}

abbrev pub invariant-some_match-loop-filter : goal.invariant-some_match-loop-filter
invariant-some_match-loop-filter g l = record {
  so_far : some_match (filters_from (map filter_tree (drop l.filter-index l.filters))) (g.N.Reading.tree l.node)
      ≡ some_match (filters_from (map filter_tree l.filters)) (g.N.Reading.tree l.node);
  smaller : filters_size (filters_from (map filter_tree (drop l.filter-index l.filters))) ≤ filters_size (filters_from (map filter_tree l.filters));
}

abbrev pub invariant-all_hold-loop-operator : goal.invariant-all_hold-loop-operator
invariant-all_hold-loop-operator g l = record {
  so_far : all_hold (operators_from (map operator_tree (drop l.operator-index l.operators))) (reach (g.N.Reading.tree l.node) (names_of l.path))
      ≡ all_hold (operators_from (map operator_tree l.operators)) (reach (g.N.Reading.tree l.node) (names_of l.path));
  smaller : operators_size (operators_from (map operator_tree (drop l.operator-index l.operators))) ≤ operators_size (operators_from (map operator_tree l.operators));
}

abbrev pub invariant-all_accept-loop-operator : goal.invariant-all_accept-loop-operator
invariant-all_accept-loop-operator g l = record {
  so_far : all_accept (operators_from (map operator_tree (drop l.operator-index l.operators))) (g.N.Reading.tree l.element)
      ≡ all_accept (operators_from (map operator_tree l.operators)) (g.N.Reading.tree l.element);
  smaller : operators_size (operators_from (map operator_tree (drop l.operator-index l.operators))) ≤ operators_size (operators_from (map operator_tree l.operators));
}

-- no end matches in the documents before those that remain
abbrev pub invariant-any_end_matches_in_documents-loop-i : goal.invariant-any_end_matches_in_documents-loop-i
invariant-any_end_matches_in_documents-loop-i g l = record {
  remaining : values_of (g.N.Reading.remaining l.remaining) ≡ drop l.i (elements_in (g.N.Reading.tree l.fn.node));
  so_far : list_any (is_matching l.path_walk.body.now) (each_collecting ends (items_of (values_of (g.N.Reading.remaining l.remaining))) (drop l.k (component_names l.path_walk.path.now)))
      ≡ list_any (is_matching l.path_walk.body.now) (each_collecting ends (items_of (elements_in (g.N.Reading.tree l.fn.node))) (drop l.k (component_names l.path_walk.path.now)));
  smaller : fields_size (fields_of (g.N.Reading.remaining l.remaining)) < tree_size (g.N.Reading.tree l.fn.node);
}

abbrev pub invariant-any_matches_element-loop-next : goal.invariant-any_matches_element-loop-next
invariant-any_matches_element-loop-next g l = record {
  so_far : list_any (matches_element l.body) (values_of (g.N.Reading.remaining l.remaining)) ≡ list_any (matches_element l.body) (elements_in (g.N.Reading.tree l.fn.node));
  smaller : fields_size (fields_of (g.N.Reading.remaining l.remaining)) < tree_size (g.N.Reading.tree l.fn.node);
}

abbrev pub decreases-any_matches_element-loop-next : goal.decreases-any_matches_element-loop-next
decreases-any_matches_element-loop-next g l = length (g.N.Reading.remaining l.remaining)
