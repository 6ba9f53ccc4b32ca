use Rattle.std.proofs.Common.{◌≡◌, false}
use Rattle.bd_cli_scan.proofs.ScanLemmas.{IsRead, SoFar}
use Rattle.bd_cli_scan.proofs.scan.scan_documents.Given as goal

abbrev pub invariant-loop-buffer : goal.invariant-loop-buffer
invariant-loop-buffer g l = record {
  so_far : SoFar (g.V.Visitor.texts l.visitor) (g.R.Input.state l.initial.input) (g.R.Input.state l.input) (g.O.Output.state l.initial.out) (g.O.Output.state l.out) l.buffer l.bad;
  not_failed : l.buffer.failed ≡ false;
  read : IsRead g.R.Input.read_gives l.initial.input l.input;
}

abbrev pub decreases-loop-buffer : goal.decreases-loop-buffer
decreases-loop-buffer g l = l.buffer.remaining.bytes
