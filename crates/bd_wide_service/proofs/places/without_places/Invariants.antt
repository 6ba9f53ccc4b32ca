use Rattle.std.proofs.Common.{◌≡◌, take}
use Rattle.bd_value.specs.View.{pairs}
use Rattle.bd_wide_service.specs.Places.{without_places}
use Rattle.bd_wide_service.proofs.places.without_places.Given as goal

-- the pairs so far
abbrev pub invariant-loop-i : goal.invariant-loop-i
invariant-loop-i l = pairs l.rest ≡ without_places (take l.i (pairs l.document))
