use Rattle.std.proofs.Common.{◌≡◌, ◌≤◌, ◌+◌, ◌*◌, ◌++◌, length, map}
use Rattle.bd_value.specs.Tree.{tree_size, fields_size, fields_of, values_of}
use Rattle.bd_value.specs.View.{tree_of, pairs}
use Rattle.bd_value.proofs.document.+copying.Given as goal

abbrev pub decreases-to_value : goal.decreases-to_value
decreases-to_value g l = 3 * tree_size (g.N.Reading.tree l.node) + 2

abbrev pub decreases-leaf_value : goal.decreases-leaf_value
decreases-leaf_value g l = 3 * tree_size (g.N.Reading.tree l.node) + 1

abbrev pub decreases-to_document : goal.decreases-to_document
decreases-to_document g l = 3 * fields_size (fields_of (g.N.Reading.remaining l.fields)) + 3

abbrev pub decreases-to_items : goal.decreases-to_items
decreases-to_items g l = 3 * fields_size (fields_of (g.N.Reading.remaining l.items)) + 3

-- what was copied and what remains are together all
abbrev pub invariant-to_document-loop-name : goal.invariant-to_document-loop-name
invariant-to_document-loop-name g l = record {
  so_far : pairs l.copied ++ g.N.Reading.remaining l.rest ≡ g.N.Reading.remaining l.fn.fields;
  fewer : fields_size (fields_of (g.N.Reading.remaining l.rest)) ≤ fields_size (fields_of (g.N.Reading.remaining l.fn.fields));
}

abbrev pub decreases-to_document-loop-name : goal.decreases-to_document-loop-name
decreases-to_document-loop-name g l = length (g.N.Reading.remaining l.rest)

abbrev pub invariant-to_items-loop-node : goal.invariant-to_items-loop-node
invariant-to_items-loop-node g l = record {
  so_far : map tree_of l.copied.items ++ values_of (g.N.Reading.remaining l.rest) ≡ values_of (g.N.Reading.remaining l.fn.items);
  fewer : fields_size (fields_of (g.N.Reading.remaining l.rest)) ≤ fields_size (fields_of (g.N.Reading.remaining l.fn.items));
}

abbrev pub decreases-to_items-loop-node : goal.decreases-to_items-loop-node
decreases-to_items-loop-node g l = length (g.N.Reading.remaining l.rest)
