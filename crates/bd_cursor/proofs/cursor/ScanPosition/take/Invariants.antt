use Rattle.std.proofs.Common.{◌≡◌, ◌-◌, ◌≤◌, ◌++◌, length}
use Rattle.bd_cursor.specs.inside.SessionView.{scan_remaining_in}
use Rattle.bd_cursor.proofs.cursor.ScanPosition.take.Given as goal

abbrev pub invariant-loop-self : goal.invariant-loop-self
invariant-loop-self l = record {
  few : length l.places.items ≤ l.n;
  whole : l.places.items ++ scan_remaining_in l.dump l.filter l.self ≡ scan_remaining_in l.dump l.filter l.initial.self;
}

abbrev pub decreases-loop-self : goal.decreases-loop-self
decreases-loop-self l = l.n - length l.places.items
