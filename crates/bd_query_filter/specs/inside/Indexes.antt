-- The indexes of values in a list.
use Rattle.std.specs.Prelude.{ℕ, List, slice_index_or}
use Rattle.bd_value.specs.{Tree.Tree, View.tree_of, declared.document.Value.Value}
use Rattle.bd_value.specs.{declared.document.Value.TheVariants.Null}

-- the value at an index of a list in memory; null after the last
abbrev pub tree_at : List Value → ℕ → Tree
tree_at values i = tree_of (slice_index_or values i Null)
