use Rattle.std.proofs.Common.{◌≡◌, ◌++◌, map, drop}
use Rattle.bd_index.specs.inside.Places.{pieces}
use Rattle.bd_index.proofs.index.Index.places_in.Given as goal

abbrev pub invariant-loop-span : goal.invariant-loop-span
invariant-loop-span l =
    l.places.items ++ pieces (map (λ e. e.place) l.self.entries.items) (drop l.span-index l.spans) ≡ pieces (map (λ e. e.place) l.self.entries.items) l.spans
