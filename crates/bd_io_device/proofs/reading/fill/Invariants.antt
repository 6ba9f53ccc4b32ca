use Rattle.std.proofs.Common.{length, ◌-◌, ◌≡◌, take, ◌≤◌}
use Rattle.std.specs.Io.KnownBytes.{Consumes}
use Rattle.bd_io_device.specs.Devices.{after_more, AreReads}
use Rattle.bd_io_device.proofs.reading.fill.Given as goal

abbrev pub invariant-loop-bytes : goal.invariant-loop-bytes
invariant-loop-bytes g l = record {
  buffer : length l.buffer ≡ length l.fn.buffer;
  fits : l.bytes ≤ length l.buffer;
  consumed : Consumes (g.R.Input.state l.fn.reader).remaining (g.R.Input.state l.reader).remaining (take l.bytes l.buffer);
  reads : AreReads g.R.Input.read_gives l.turns l.fn.reader (take l.bytes l.buffer) l.reader;
  within : l.bytes ≤ l.limits.bytes;
  turned : l.turns ≤ l.limits.turns;
  called : (g.R.Input.state l.reader).calls ≡ after_more (g.R.Input.state l.fn.reader).calls l.turns;
  no_failure : (g.R.Input.state l.reader).failures ≡ (g.R.Input.state l.fn.reader).failures;
}

abbrev pub decreases-loop-bytes : goal.decreases-loop-bytes
decreases-loop-bytes g l = length l.fn.buffer - l.bytes
