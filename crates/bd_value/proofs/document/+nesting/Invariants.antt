use Rattle.std.proofs.Common.{◌≡◌, ◌≤◌, ◌+◌, ◌*◌, length, max, min}
use Rattle.bd_value.specs.Tree.{fields_depth, tree_size, fields_size, fields_of}
use Rattle.bd_value.proofs.document.+nesting.Given as goal

abbrev pub decreases-depth_of : goal.decreases-depth_of
decreases-depth_of g l = 2 * tree_size (g.N.Reading.tree l.node) + 1

abbrev pub decreases-deepest : goal.decreases-deepest
decreases-deepest g l = 2 * fields_size (fields_of (g.N.Reading.remaining l.values)) + 2

abbrev pub invariant-deepest-loop-node : goal.invariant-deepest-loop-node
invariant-deepest-loop-node g l = record {
  so_far : min (max l.deepest (fields_depth (fields_of (g.N.Reading.remaining l.rest)))) 18446744073709551615 ≡ min (fields_depth (fields_of (g.N.Reading.remaining l.fn.values))) 18446744073709551615;
  fewer : fields_size (fields_of (g.N.Reading.remaining l.rest)) ≤ fields_size (fields_of (g.N.Reading.remaining l.fn.values));
  fits : l.deepest ≤ 18446744073709551615;
}

abbrev pub decreases-deepest-loop-node : goal.decreases-deepest-loop-node
decreases-deepest-loop-node g l = length (g.N.Reading.remaining l.rest)
