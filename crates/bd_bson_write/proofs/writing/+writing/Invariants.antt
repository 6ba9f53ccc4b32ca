use Rattle.std.proofs.Common.{◌≡◌, ◌+◌, ◌*◌, ◌≤◌, ◌++◌, length, false}
use Rattle.std.specs.Io.{StartsWith}
use Rattle.bd_value.specs.{Tree.fields_of, Tree.items_of, Tree.tree_size, Tree.fields_size, Tree.values_of, Fits.zero_in_fields, Fits.zero_in_items}
use Rattle.bd_bson_view.specs.Spelling.{number, AreFields, AreItems}
use Rattle.bd_bson_write.specs.TreeBytes.{fields_bytes, items_bytes}
use Rattle.bd_bson_write.proofs.writing.+writing.Given as goal

abbrev pub decreases-put_value : goal.decreases-put_value
decreases-put_value g l = 4 * tree_size (g.N.Reading.tree l.node) + 2

abbrev pub decreases-append_leaf : goal.decreases-append_leaf
decreases-append_leaf g l = 4 * tree_size (g.N.Reading.tree l.node) + 1

abbrev pub decreases-append_element : goal.decreases-append_element
decreases-append_element g l = 4 * tree_size (g.N.Reading.tree l.node) + 3

abbrev pub decreases-append_fields : goal.decreases-append_fields
decreases-append_fields g l = 4 * fields_size (fields_of (g.N.Reading.remaining l.fields))

abbrev pub decreases-append_items : goal.decreases-append_items
decreases-append_items g l = 4 * fields_size (fields_of (g.N.Reading.remaining l.items))

-- what was written and what remains are together all; if what remains is spelled, all is
abbrev pub invariant-append_fields-loop-next : goal.invariant-append_fields-loop-next
invariant-append_fields-loop-next g l = record {
  whole : l.out.items ++ fields_bytes (fields_of (g.N.Reading.remaining l.rest)) ≡ (l.fn.out.items ++ number 0) ++ fields_bytes (fields_of (g.N.Reading.remaining l.fn.fields));
  spelled : AreFields (fields_of (g.N.Reading.remaining l.rest)) (fields_bytes (fields_of (g.N.Reading.remaining l.rest)))
      → AreFields (fields_of (g.N.Reading.remaining l.fn.fields)) (fields_bytes (fields_of (g.N.Reading.remaining l.fn.fields)));
  prefix : StartsWith l.out.items l.fn.out.items;
  zero : zero_in_fields (fields_of (g.N.Reading.remaining l.rest)) ≡ false;
  fewer : fields_size (fields_of (g.N.Reading.remaining l.rest)) ≤ fields_size (fields_of (g.N.Reading.remaining l.fn.fields));
}

abbrev pub decreases-append_fields-loop-next : goal.decreases-append_fields-loop-next
decreases-append_fields-loop-next g l = length (g.N.Reading.remaining l.rest)

abbrev pub invariant-append_items-loop-next : goal.invariant-append_items-loop-next
invariant-append_items-loop-next g l = record {
  whole : l.out.items ++ items_bytes l.index (items_of (values_of (g.N.Reading.remaining l.rest))) ≡ (l.fn.out.items ++ number 0) ++ items_bytes 0 (items_of (values_of (g.N.Reading.remaining l.fn.items)));
  spelled : AreItems (items_of (values_of (g.N.Reading.remaining l.rest))) (items_bytes l.index (items_of (values_of (g.N.Reading.remaining l.rest))))
      → AreItems (items_of (values_of (g.N.Reading.remaining l.fn.items))) (items_bytes 0 (items_of (values_of (g.N.Reading.remaining l.fn.items))));
  prefix : StartsWith l.out.items l.fn.out.items;
  zero : zero_in_items (items_of (values_of (g.N.Reading.remaining l.rest))) ≡ false;
  fewer : fields_size (fields_of (g.N.Reading.remaining l.rest)) ≤ fields_size (fields_of (g.N.Reading.remaining l.fn.items));
  few : l.index ≤ length l.out.items;
}

abbrev pub decreases-append_items-loop-next : goal.decreases-append_items-loop-next
decreases-append_items-loop-next g l = length (g.N.Reading.remaining l.rest)
