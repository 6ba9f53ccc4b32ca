use Rattle.std.proofs.Common.{◌+◌, ◌*◌, ◌++◌, ◌≡◌, ◌≤◌, drop, length, map}
use Rattle.bd_value.specs.Tree.{fields_of, fields_size, items_of, list_of, pairs_of, tree_size, values_of}
use Rattle.bd_value.specs.View.{node_parts, node_tree, pairs, tree_of}
use Rattle.bd_wide_rank.specs.Table.{worths}
use Rattle.bd_wide_query.specs.Tagged.{fields_count, items_count, tagged_fields, tagged_items}
use Rattle.bd_wide_query.specs.inside.Coding.{codes_of_tags}
use Rattle.bd_wide_query.specs.inside.Role.{items_at, pairs_at}
use Rattle.bd_wide_query.proofs.coded.+coding.Given as goal

abbrev pub decreases-code_value : goal.decreases-code_value
decreases-code_value l = 4 * tree_size (node_tree l.whole) + 1

abbrev pub decreases-code_document : goal.decreases-code_document
decreases-code_document l = 4 * tree_size (node_tree l.whole)

abbrev pub decreases-code_array : goal.decreases-code_array
decreases-code_array l = 4 * tree_size (node_tree l.whole)

abbrev pub decreases-code_scoped : goal.decreases-code_scoped
decreases-code_scoped l = 4 * tree_size (node_tree l.whole)

abbrev pub decreases-code_pairs : goal.decreases-code_pairs
decreases-code_pairs l = 4 * fields_size (fields_of (node_parts l.wholes)) + 2

abbrev pub decreases-code_items : goal.decreases-code_items
decreases-code_items l = 4 * fields_size (fields_of (node_parts l.wholes)) + 2

-- the pairs so far and those that remain are together all
abbrev pub invariant-code_pairs-loop-name : goal.invariant-code_pairs-loop-name
invariant-code_pairs-loop-name l = record {
  so_far : pairs l.coded ++ pairs_of (pairs_at l.longs (codes_of_tags (worths l.table)) l.kind (tagged_fields l.rest.numbers.now (fields_of (node_parts l.whole_rest)) (fields_of (node_parts l.text_rest))))
      ≡ pairs_of (pairs_at l.longs (codes_of_tags (worths l.table)) l.kind (tagged_fields l.fn.rest.numbers.now (fields_of (node_parts l.fn.wholes)) (fields_of (node_parts l.fn.texts))));
  taken : drop (fields_count (fields_of (node_parts l.whole_rest)) (fields_of (node_parts l.text_rest))) l.rest.numbers.now
      ≡ drop (fields_count (fields_of (node_parts l.fn.wholes)) (fields_of (node_parts l.fn.texts))) l.fn.rest.numbers.now;
  fewer : fields_size (fields_of (node_parts l.whole_rest)) ≤ fields_size (fields_of (node_parts l.fn.wholes));
}

abbrev pub decreases-code_pairs-loop-name : goal.decreases-code_pairs-loop-name
decreases-code_pairs-loop-name l = length (node_parts l.whole_rest)

-- the elements so far and those that remain are together all
abbrev pub invariant-code_items-loop-whole : goal.invariant-code_items-loop-whole
invariant-code_items-loop-whole l = record {
  so_far : map tree_of l.coded.items ++ list_of (items_at l.longs (codes_of_tags (worths l.table)) l.role (tagged_items l.rest.numbers.now (items_of (values_of (node_parts l.whole_rest))) (items_of (values_of (node_parts l.text_rest)))))
      ≡ list_of (items_at l.longs (codes_of_tags (worths l.table)) l.role (tagged_items l.fn.rest.numbers.now (items_of (values_of (node_parts l.fn.wholes))) (items_of (values_of (node_parts l.fn.texts)))));
  taken : drop (items_count (items_of (values_of (node_parts l.whole_rest))) (items_of (values_of (node_parts l.text_rest)))) l.rest.numbers.now
      ≡ drop (items_count (items_of (values_of (node_parts l.fn.wholes))) (items_of (values_of (node_parts l.fn.texts)))) l.fn.rest.numbers.now;
  fewer : fields_size (fields_of (node_parts l.whole_rest)) ≤ fields_size (fields_of (node_parts l.fn.wholes));
}

abbrev pub decreases-code_items-loop-whole : goal.decreases-code_items-loop-whole
decreases-code_items-loop-whole l = length (node_parts l.whole_rest)
