use Rattle.std.proofs.Common.{◌≤◌}
use Rattle.bd_index.proofs.PlacesLemmas.{Orders}
use Rattle.bd_index.proofs.places.in_order.Given as goal

abbrev pub invariant-loop-span : goal.invariant-loop-span
invariant-loop-span l = record {
  orders : Orders l.span-items l.ordered.items l.span-index l.end;
  bound : l.end ≤ l.count;
}
