use Rattle.std.proofs.Common.{◌<◌, length, true}
use Rattle.std.proofs.{Math.ListN.length-set, lemmas.List.Elements.All-rest}
use Rattle.bd_index.specs.Walk.{places_ahead}
use Rattle.bd_index.proofs.walk.WalkIterator.next.Goals as goal

pub invariant_of-self : goal.invariant_of-self
invariant_of-self c = record {
  in_range = rw (length-set c.loop-place.self.visited.items c.in-Some.place true)
      (All-rest (λ p. p < length c.loop-place.self.visited.items) c.in-Some.place (places_ahead c.in-Some.after) (places_ahead c.loop-place.self.order)
      c.in-Some.ensures.some c.loop-place.self.in_range);
}

pub invariant_of-self-else-not-index : goal.invariant_of-self-else-not-index
invariant_of-self-else-not-index c = record {
  in_range = All-rest (λ p. p < length c.loop-place.self.visited.items) c.in-Some.place (places_ahead c.in-Some.after) (places_ahead c.loop-place.self.order)
      c.in-Some.ensures.some c.loop-place.self.in_range;
}
