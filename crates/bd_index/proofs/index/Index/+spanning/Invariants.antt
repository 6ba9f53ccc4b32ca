use Rattle.std.proofs.Common.{◌≤◌, length, All}
use Rattle.bd_index.specs.IndexView.{IsIndexOf}
use Rattle.bd_index.proofs.PlacesLemmas.{GapsSoFar, UnionSoFar}
use Rattle.bd_index.proofs.index.Index.+spanning.Given as goal

abbrev pub invariant-spans_of_all-loop-part : goal.invariant-spans_of_all-loop-part
invariant-spans_of_all-loop-part l = record {
  below : All (λ s. s.to ≤ l.count) l.gaps.items;
  so_far : (h : IsIndexOf l.dump l.self) → GapsSoFar h.keeps.entries l.gaps.items l.parts l.part-index;
}

abbrev pub invariant-spans_of_any-loop-part : goal.invariant-spans_of_any-loop-part
invariant-spans_of_any-loop-part l = record {
  below : All (λ s. s.to ≤ length l.self.entries.items) l.all.items;
  so_far : (h : IsIndexOf l.dump l.self) → UnionSoFar h.keeps.entries l.all.items l.parts l.part-index;
}
