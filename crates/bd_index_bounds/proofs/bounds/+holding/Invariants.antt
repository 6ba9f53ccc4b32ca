use Rattle.std.proofs.Common.{◌≡◌, drop, map}
use Rattle.bd_index_bounds.specs.{Bounds.intersection, Bounds.union, BoundsView.keys_within}
use Rattle.bd_index_bounds.proofs.bounds.+holding.Given as goal

-- the remaining parts decide
abbrev pub invariant-all_contain-loop-part : goal.invariant-all_contain-loop-part
invariant-all_contain-loop-part g l =
    intersection (map keys_within (drop l.part-index l.parts)) (g.N.Reading.tree l.key) ≡ intersection (map keys_within l.parts) (g.N.Reading.tree l.key)

abbrev pub invariant-any_contains-loop-part : goal.invariant-any_contains-loop-part
invariant-any_contains-loop-part g l =
    union (map keys_within (drop l.part-index l.parts)) (g.N.Reading.tree l.key) ≡ union (map keys_within l.parts) (g.N.Reading.tree l.key)
