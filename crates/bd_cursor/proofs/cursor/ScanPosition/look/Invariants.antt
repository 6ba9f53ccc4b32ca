use Rattle.std.proofs.Common.{◌≡◌, ◌-◌, length}
use Rattle.bd_bson_dump.specs.Collection.{documents}
use Rattle.bd_cursor.specs.inside.SessionView.{scan_remaining_in}
use Rattle.bd_cursor.proofs.cursor.ScanPosition.look.Given as goal

abbrev pub invariant-loop-place : goal.invariant-loop-place
invariant-loop-place l = record {
  remaining : scan_remaining_in l.dump l.filter l.self ≡ scan_remaining_in l.dump l.filter l.initial.self;
  most : l.self.most ≡ l.initial.self.most;
}

abbrev pub decreases-loop-place : goal.decreases-loop-place
decreases-loop-place l = length (documents l.dump) - l.self.next
