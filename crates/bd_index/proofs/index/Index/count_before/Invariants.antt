use Rattle.std.proofs.Common.{◌≡◌, ◌≤◌, ◌-◌, true, false, length}
use Rattle.std.specs.List.{AllWithin}
use Rattle.bd_index_bounds.specs.BoundsView.{is_before}
use Rattle.bd_index.specs.IndexView.{IsIndexOf}
use Rattle.bd_index.proofs.index.Index.count_before.Given as goal

abbrev pub invariant-loop-low : goal.invariant-loop-low
invariant-loop-low l = record {
  order : l.low ≤ l.high;
  bound : l.high ≤ length l.self.entries.items;
  below : (h : IsIndexOf l.dump l.self) → AllWithin (λ e. is_before l.cutoff e.0 ≡ true) h.keeps.entries 0 l.low;
  above : (h : IsIndexOf l.dump l.self) → AllWithin (λ e. is_before l.cutoff e.0 ≡ false) h.keeps.entries l.high (length h.keeps.entries);
}

abbrev pub decreases-loop-low : goal.decreases-loop-low
decreases-loop-low l = l.high - l.low
