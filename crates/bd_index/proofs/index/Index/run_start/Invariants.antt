use Rattle.std.proofs.Common.{◌≡◌, ◌<◌, ◌≤◌, ◌-◌, ℕ, true, get_or}
use Rattle.bd_value.specs.Order.{equal}
use Rattle.bd_index.specs.{Entries.KeyAt, IndexView.IsIndexOf}
use Rattle.bd_index.proofs.index.Index.run_start.Given as goal

abbrev pub invariant-loop-start : goal.invariant-loop-start
invariant-loop-start l = record {
  some : l.start < l.end;
  equals : (h : IsIndexOf l.dump l.self) (k : ℕ) (d : KeyAt) → l.start ≤ k → k < l.end → equal (get_or h.keeps.entries k d).0 (get_or h.keeps.entries (l.end - 1) d).0 ≡ true;
}

abbrev pub decreases-loop-start : goal.decreases-loop-start
decreases-loop-start l = l.start
