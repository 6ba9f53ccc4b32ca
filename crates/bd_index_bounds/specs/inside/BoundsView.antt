-- The set of keys that bounds in memory represent.
use Rattle.std.specs.Prelude.{List, [], ◌∷◌, map, Some, None}
use Rattle.bd_index_bounds.specs.{declared.bounds.Bounds.Bounds}
use Rattle.bd_index_bounds.specs.Bounds.{KeyBounds, intersection}
use Rattle.bd_index_bounds.specs.BoundsView.{keys_within}

-- the intersection of bounds in memory; unbounded if there are none
abbrev pub parts_bounds : List Bounds → KeyBounds
parts_bounds [] = None
parts_bounds (b ∷ bs) = Some (intersection (map keys_within (b ∷ bs)))
