use Rattle.std.proofs.Common.{◌≤◌, ◌+◌, ◌*◌, IsUtf8, length}
use Rattle.bd_value.specs.Tree.{tree_size, fields_size, fields_of}
use Rattle.bd_value.specs.Fits.{FieldsFit}
use Rattle.bd_value.proofs.document.+fits.Given as goal

abbrev pub decreases-node_fits : goal.decreases-node_fits
decreases-node_fits g l = 2 * tree_size (g.N.Reading.tree l.node) + 1

abbrev pub decreases-parts_fit : goal.decreases-parts_fit
decreases-parts_fit g l = 2 * fields_size (fields_of (g.N.Reading.remaining l.values)) + 2

-- if what remains fits, all fit
abbrev pub invariant-parts_fit-loop-node : goal.invariant-parts_fit-loop-node
invariant-parts_fit-loop-node g l = record {
  fits : FieldsFit IsUtf8 (fields_of (g.N.Reading.remaining l.rest)) → FieldsFit IsUtf8 (fields_of (g.N.Reading.remaining l.fn.values));
  fewer : fields_size (fields_of (g.N.Reading.remaining l.rest)) ≤ fields_size (fields_of (g.N.Reading.remaining l.fn.values));
}

abbrev pub decreases-parts_fit-loop-node : goal.decreases-parts_fit-loop-node
decreases-parts_fit-loop-node g l = length (g.N.Reading.remaining l.rest)
