use Rattle.std.proofs.Common.{◌≡◌, length}
use Rattle.bd_value.specs.Tree.{first_of}
use Rattle.bd_bson_view.specs.Sound.{elements_remaining}
use Rattle.bd_bson_view.proofs.raw.Elements.find.Given as goal

abbrev pub invariant-loop-here : goal.invariant-loop-here
invariant-loop-here l = record { first : first_of l.name (elements_remaining l.rest.remaining) ≡ first_of l.name (elements_remaining l.initial.rest.remaining); same_source : l.rest.bytes.now ≡ l.initial.rest.bytes.now }

abbrev pub decreases-loop-here : goal.decreases-loop-here
decreases-loop-here l = length (elements_remaining l.rest.remaining)
