use Rattle.std.proofs.Common.{◌≡◌, length, ◌≤◌}
use Rattle.std.specs.Io.KnownBytes.{Consumes}
use Rattle.bd_io_device.specs.Devices.{after_more, AreReads}
use Rattle.bd_io_device.proofs.reading.read_all.Given as goal

abbrev pub invariant-loop-turn : goal.invariant-loop-turn
invariant-loop-turn g l = record {
  consumed : Consumes (g.R.Input.state l.initial.reader).remaining (g.R.Input.state l.reader).remaining l.bytes.items;
  reads : AreReads g.R.Input.read_gives l.turn l.initial.reader l.bytes.items l.reader;
  within : length l.bytes.items ≤ l.limits.bytes;
  turned : l.turn ≤ length l.bytes.items;
  called : (g.R.Input.state l.reader).calls ≡ after_more (g.R.Input.state l.initial.reader).calls l.turn;
  no_failure : (g.R.Input.state l.reader).failures ≡ (g.R.Input.state l.initial.reader).failures;
}
