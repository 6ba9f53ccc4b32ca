use Rattle.std.proofs.Common.{◌≡◌, ◌+◌, ◌*◌, ◌≤◌, length}
use Rattle.bd_value.specs.{Tree.fields_of, Tree.tree_size, Tree.fields_size, Fits.zero_in_parts}
use Rattle.bd_bson_write.proofs.write.+zeros.Given as goal

abbrev pub decreases-contains_zero : goal.decreases-contains_zero
decreases-contains_zero g l = 4 * tree_size (g.N.Reading.tree l.node) + 2

abbrev pub decreases-zero_in_leaf : goal.decreases-zero_in_leaf
decreases-zero_in_leaf g l = 4 * tree_size (g.N.Reading.tree l.node) + 1

abbrev pub decreases-zero_in_some : goal.decreases-zero_in_some
decreases-zero_in_some g l = 4 * fields_size (fields_of (g.N.Reading.remaining l.parts))

abbrev pub invariant-zero_in_some-loop-next : goal.invariant-zero_in_some-loop-next
invariant-zero_in_some-loop-next g l = record {
  same : zero_in_parts l.fn.named (g.N.Reading.remaining l.rest) ≡ zero_in_parts l.fn.named (g.N.Reading.remaining l.fn.parts);
  fewer : fields_size (fields_of (g.N.Reading.remaining l.rest)) ≤ fields_size (fields_of (g.N.Reading.remaining l.fn.parts));
}

abbrev pub decreases-zero_in_some-loop-next : goal.decreases-zero_in_some-loop-next
decreases-zero_in_some-loop-next g l = length (g.N.Reading.remaining l.rest)
