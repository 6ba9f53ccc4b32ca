use Rattle.std.proofs.Common.{◌≡◌, ◌+◌, ◌*◌, ◌≤◌, length}
use Rattle.bd_value.specs.{Tree.fields_of, Tree.items_of, Tree.tree_size, Tree.fields_size, Tree.values_of}
use Rattle.bd_bson_view.specs.Spelling.{framed}
use Rattle.bd_bson_write.specs.TreeBytes.{fields_bytes, items_bytes}
use Rattle.bd_bson_write.proofs.counting.+counting.Given as goal

abbrev pub decreases-remaining_after : goal.decreases-remaining_after
decreases-remaining_after g l = 4 * tree_size (g.N.Reading.tree l.node) + 2

abbrev pub decreases-after_leaf : goal.decreases-after_leaf
decreases-after_leaf g l = 4 * tree_size (g.N.Reading.tree l.node) + 1

abbrev pub decreases-after_element : goal.decreases-after_element
decreases-after_element g l = 4 * tree_size (g.N.Reading.tree l.node) + 3

abbrev pub decreases-after_fields : goal.decreases-after_fields
decreases-after_fields g l = 4 * fields_size (fields_of (g.N.Reading.remaining l.fields))

abbrev pub decreases-after_items : goal.decreases-after_items
decreases-after_items g l = 4 * fields_size (fields_of (g.N.Reading.remaining l.items))

abbrev pub invariant-after_fields-loop-next : goal.invariant-after_fields-loop-next
invariant-after_fields-loop-next g l = record {
  whole : l.remaining + length (framed (fields_bytes (fields_of (g.N.Reading.remaining l.fn.fields)))) ≡ l.limit + length (fields_bytes (fields_of (g.N.Reading.remaining l.rest)));
  fewer : fields_size (fields_of (g.N.Reading.remaining l.rest)) ≤ fields_size (fields_of (g.N.Reading.remaining l.fn.fields));
}

abbrev pub decreases-after_fields-loop-next : goal.decreases-after_fields-loop-next
decreases-after_fields-loop-next g l = length (g.N.Reading.remaining l.rest)

abbrev pub invariant-after_items-loop-next : goal.invariant-after_items-loop-next
invariant-after_items-loop-next g l = record {
  whole : l.remaining + length (framed (items_bytes 0 (items_of (values_of (g.N.Reading.remaining l.fn.items))))) ≡ l.limit + length (items_bytes l.index (items_of (values_of (g.N.Reading.remaining l.rest))));
  fewer : fields_size (fields_of (g.N.Reading.remaining l.rest)) ≤ fields_size (fields_of (g.N.Reading.remaining l.fn.items));
  few : l.index + l.remaining ≤ l.limit;
}

abbrev pub decreases-after_items-loop-next : goal.decreases-after_items-loop-next
decreases-after_items-loop-next g l = length (g.N.Reading.remaining l.rest)
