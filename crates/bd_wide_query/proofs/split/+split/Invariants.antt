use Rattle.std.proofs.Common.{◌+◌, ◌*◌, ◌≡◌, ◌≤◌, length}
use Rattle.bd_value.specs.Tree.{fields_of, fields_size, items_of, tree_size, values_of}
use Rattle.bd_value.specs.View.{node_parts, node_tree}
use Rattle.bd_wide_query.specs.Split.{first_split, split_in_items}
use Rattle.bd_wide_query.proofs.split.+split.Given as goal

abbrev pub decreases-split_in : goal.decreases-split_in
decreases-split_in l = 3 * tree_size (node_tree l.value)

abbrev pub decreases-split_at : goal.decreases-split_at
decreases-split_at l = 3 * tree_size (node_tree l.value) + 1

abbrev pub decreases-split_in_pairs : goal.decreases-split_in_pairs
decreases-split_in_pairs l = 3 * fields_size (fields_of (node_parts l.parts)) + 2

abbrev pub decreases-split_in_items : goal.decreases-split_in_items
decreases-split_in_items l = 3 * fields_size (fields_of (node_parts l.parts)) + 2

-- none of those before
abbrev pub invariant-split_in_pairs-loop-name : goal.invariant-split_in_pairs-loop-name
invariant-split_in_pairs-loop-name l = record {
  so_far : first_split l.classes (fields_of (node_parts l.rest)) ≡ first_split l.fn.classes (fields_of (node_parts l.fn.parts));
  fewer : fields_size (fields_of (node_parts l.rest)) ≤ fields_size (fields_of (node_parts l.fn.parts));
}

abbrev pub decreases-split_in_pairs-loop-name : goal.decreases-split_in_pairs-loop-name
decreases-split_in_pairs-loop-name l = length (node_parts l.rest)

-- none of those before
abbrev pub invariant-split_in_items-loop-value : goal.invariant-split_in_items-loop-value
invariant-split_in_items-loop-value l = record {
  so_far : split_in_items l.classes l.index (items_of (values_of (node_parts l.rest)))
      ≡ split_in_items l.fn.classes 0 (items_of (values_of (node_parts l.fn.parts)));
  fewer : fields_size (fields_of (node_parts l.rest)) ≤ fields_size (fields_of (node_parts l.fn.parts));
  counted : l.index + length (node_parts l.rest) ≤ l.fn.most;
}

abbrev pub decreases-split_in_items-loop-value : goal.decreases-split_in_items-loop-value
decreases-split_in_items-loop-value l = length (node_parts l.rest)
