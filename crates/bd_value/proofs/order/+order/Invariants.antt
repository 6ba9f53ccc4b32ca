use Rattle.std.proofs.Common.{◌≡◌, ◌≤◌, ◌+◌, ◌*◌, length}
use Rattle.bd_value.specs.Tree.{fields_of, fields_size, items_of, tree_size, values_of}
use Rattle.bd_value.specs.Order.{fields_cmp, items_cmp}
use Rattle.bd_value.proofs.order.+order.Given as goal

abbrev pub decreases-compare_nodes : goal.decreases-compare_nodes
decreases-compare_nodes g l = 3 * tree_size (g.M.Reading.tree l.a) + 2

abbrev pub decreases-compare_within : goal.decreases-compare_within
decreases-compare_within g l = 3 * tree_size (g.M.Reading.tree l.a) + 1

abbrev pub decreases-compare_pairs : goal.decreases-compare_pairs
decreases-compare_pairs g l = 3 * tree_size (g.M.Reading.tree l.a) + 2

abbrev pub decreases-compare_scopes : goal.decreases-compare_scopes
decreases-compare_scopes g l = 3 * tree_size (g.M.Reading.tree l.a)

abbrev pub decreases-compare_documents : goal.decreases-compare_documents
decreases-compare_documents g l = 3 * fields_size (fields_of (g.M.Reading.remaining l.first)) + 3

abbrev pub decreases-compare_arrays : goal.decreases-compare_arrays
decreases-compare_arrays g l = 3 * fields_size (fields_of (g.M.Reading.remaining l.first)) + 3

-- what remains decides the order
abbrev pub invariant-compare_documents-loop-m : goal.invariant-compare_documents-loop-m
invariant-compare_documents-loop-m g l = record {
  so_far : fields_cmp (fields_of (g.M.Reading.remaining l.remaining)) (fields_of (g.N.Reading.remaining l.right))
      ≡ fields_cmp (fields_of (g.M.Reading.remaining l.fn.first)) (fields_of (g.N.Reading.remaining l.fn.second));
  fewer : fields_size (fields_of (g.M.Reading.remaining l.remaining)) ≤ fields_size (fields_of (g.M.Reading.remaining l.fn.first));
}

abbrev pub decreases-compare_documents-loop-m : goal.decreases-compare_documents-loop-m
decreases-compare_documents-loop-m g l = length (g.M.Reading.remaining l.remaining)

abbrev pub invariant-compare_arrays-loop-a : goal.invariant-compare_arrays-loop-a
invariant-compare_arrays-loop-a g l = record {
  so_far : items_cmp (items_of (values_of (g.M.Reading.remaining l.remaining))) (items_of (values_of (g.N.Reading.remaining l.right)))
      ≡ items_cmp (items_of (values_of (g.M.Reading.remaining l.fn.first))) (items_of (values_of (g.N.Reading.remaining l.fn.second)));
  fewer : fields_size (fields_of (g.M.Reading.remaining l.remaining)) ≤ fields_size (fields_of (g.M.Reading.remaining l.fn.first));
}

abbrev pub decreases-compare_arrays-loop-a : goal.decreases-compare_arrays-loop-a
decreases-compare_arrays-loop-a g l = length (g.M.Reading.remaining l.remaining)
