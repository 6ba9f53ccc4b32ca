use Rattle.std.proofs.Common.{◌≡◌, ℕ, List, [], ◌++◌, length}
use Rattle.std.specs.Io.KnownBytes.{Appends}
use Rattle.bd_io_device.specs.Devices.{AreWrites}
use Rattle.bd_io_device.proofs.output.write_all.Given as goal

abbrev pub invariant-loop-rest : goal.invariant-loop-rest
invariant-loop-rest g l = record {
  appended : (done : List ℕ) × (l.bytes ≡ done ++ l.rest)
      × Appends (g.W.Output.state l.initial.writer).contents (g.W.Output.state l.writer).contents done;
  writes : AreWrites g.W.Output.write_takes l.bytes l.initial.writer l.rest l.writer;
  silent : l.bytes ≡ [] → l.writer ≡ l.initial.writer;
  no_failure : (g.W.Output.state l.writer).failures ≡ (g.W.Output.state l.initial.writer).failures;
}

abbrev pub decreases-loop-rest : goal.decreases-loop-rest
decreases-loop-rest g l = length l.rest
