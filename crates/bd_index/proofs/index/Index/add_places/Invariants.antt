use Rattle.std.proofs.Common.{◌≡◌, ◌++◌, map, take}
use Rattle.std.specs.Prelude.{slice_range}
use Rattle.bd_index.proofs.index.Index.add_places.Given as goal

abbrev pub invariant-loop-entry : goal.invariant-loop-entry
invariant-loop-entry l = record {
  added : l.places.items ≡ l.fn.places.items ++ map (λ e. e.place) (take l.entry-index l.entry-items);
  items : l.entry-items ≡ slice_range l.self.entries.items l.fn.span.from l.fn.span.to;
}
