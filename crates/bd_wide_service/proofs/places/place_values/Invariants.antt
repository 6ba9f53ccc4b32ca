use Rattle.std.proofs.Common.{◌≡◌, map, take}
use Rattle.bd_value.specs.View.{tree_of}
use Rattle.bd_wide_service.specs.Places.{place_value}
use Rattle.bd_wide_service.proofs.places.place_values.Given as goal

-- the numbers so far
abbrev pub invariant-loop-place : goal.invariant-loop-place
invariant-loop-place l = map tree_of l.values.items ≡ map place_value (take l.place-index l.places)
