use Rattle.std.proofs.Common.{◌+◌, ◌*◌, ◌≡◌, ◌≤◌, length}
use Rattle.bd_value.specs.Tree.{fields_of, fields_size, items_of, tree_size, values_of}
use Rattle.bd_value.specs.View.{node_parts, node_tree}
use Rattle.bd_wide_query.specs.Types.{fields_are_alike, items_are_alike}
use Rattle.bd_wide_query.proofs.types.+types.Given as goal

abbrev pub decreases-is_alike : goal.decreases-is_alike
decreases-is_alike l = 2 * tree_size (node_tree l.value)

abbrev pub decreases-pairs_are_alike : goal.decreases-pairs_are_alike
decreases-pairs_are_alike l = 2 * fields_size (fields_of (node_parts l.parts)) + 1

abbrev pub decreases-items_are_alike : goal.decreases-items_are_alike
decreases-items_are_alike l = 2 * fields_size (fields_of (node_parts l.parts)) + 1

-- those before are alike
abbrev pub invariant-pairs_are_alike-loop-name : goal.invariant-pairs_are_alike-loop-name
invariant-pairs_are_alike-loop-name l = record {
  so_far : fields_are_alike l.one l.other (fields_of (node_parts l.rest)) ≡ fields_are_alike l.fn.one l.fn.other (fields_of (node_parts l.fn.parts));
  fewer : fields_size (fields_of (node_parts l.rest)) ≤ fields_size (fields_of (node_parts l.fn.parts));
}

abbrev pub decreases-pairs_are_alike-loop-name : goal.decreases-pairs_are_alike-loop-name
decreases-pairs_are_alike-loop-name l = length (node_parts l.rest)

-- those before are alike
abbrev pub invariant-items_are_alike-loop-value : goal.invariant-items_are_alike-loop-value
invariant-items_are_alike-loop-value l = record {
  so_far : items_are_alike l.one l.other (items_of (values_of (node_parts l.rest))) ≡ items_are_alike l.fn.one l.fn.other (items_of (values_of (node_parts l.fn.parts)));
  fewer : fields_size (fields_of (node_parts l.rest)) ≤ fields_size (fields_of (node_parts l.fn.parts));
}

abbrev pub decreases-items_are_alike-loop-value : goal.decreases-items_are_alike-loop-value
decreases-items_are_alike-loop-value l = length (node_parts l.rest)
