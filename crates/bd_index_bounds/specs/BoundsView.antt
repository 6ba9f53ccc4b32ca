-- The set of keys that bounds in memory represent.
use Rattle.std.specs.Prelude.{Bool, if◌then◌else◌, ◌&&◌, not, Option, option_map}
use Rattle.std.specs.{declared.cmp.Ordering.Ordering, Ordering.is_le, Ordering.is_lt, Ordering.nat_cmp}
use Rattle.bd_value.specs.{Order.cmp, Order.class_of, Order.class_rank, Tree.Tree, View.tree_of}
use Rattle.bd_index_bounds.specs.{declared.bounds.Cutoff.Cutoff, declared.bounds.Edge.Edge, declared.bounds.Bounds.Bounds}
use Rattle.bd_index_bounds.specs.{declared.bounds.Bounds.TheFolds.fold-Bounds, declared.bounds.Bounds.TheOpen.Bounds-F}
use Rattle.bd_index_bounds.specs.Bounds.{KeyBounds, KeySet, intersection, union}
use Rattle.bd_index_bounds.specs.declared.bounds.Edge.TheVariants as edges

-- how a key compares to a value, or its class to a class
abbrev pub edge_cmp : Tree → Edge → Ordering
edge_cmp k (edges.Value v) = cmp k (tree_of v.now)
edge_cmp k (edges.Class class) = nat_cmp (class_rank (class_of k)) (class_rank class)

-- whether a key is before a cutoff: less than its edge, or equal to it if the cutoff is after the edge
abbrev pub is_before : Cutoff → Tree → Bool
is_before cutoff k = if cutoff.after then is_le (edge_cmp k cutoff.edge) else is_lt (edge_cmp k cutoff.edge)

-- the keys from one cutoff to another: not before the first, and before the second
abbrev pub keys_between : Cutoff → Cutoff → KeySet
keys_between from to k = not (is_before from k) && is_before to k

-- one level of bounds in memory, given the sets of keys of its parts
abbrev pub keys_step : Bounds-F KeySet → KeySet
keys_step (Bounds-F.Range from to) = keys_between from to
keys_step (Bounds-F.And parts) = intersection parts.items
keys_step (Bounds-F.Or parts) = union parts.items

-- the set of keys that bounds in memory represent
abbrev pub keys_within : Bounds → KeySet
keys_within = fold-Bounds KeySet keys_step

-- the bounds that bounds in memory represent; None is unbounded
abbrev pub bounds_view : Option Bounds → KeyBounds
bounds_view b = option_map keys_within b
