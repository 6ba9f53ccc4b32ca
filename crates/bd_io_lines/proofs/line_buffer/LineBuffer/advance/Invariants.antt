use Rattle.std.proofs.Common.{◌≡◌, true, false, []}
use Rattle.bd_io_lines.specs.Lines.{IsLine}
use Rattle.bd_io_lines.proofs.LineBufferLemmas.{SoFar}
use Rattle.bd_io_lines.proofs.line_buffer.LineBuffer.advance.Given as goal

abbrev pub invariant-loop-self : goal.invariant-loop-self
invariant-loop-self g l = record {
  so_far : l.initial.self.ended ≡ false → SoFar g.R.Input.state g.R.Input.read_gives l.initial.self l.self l.initial.reader l.reader;
  line : IsLine l.self.line;
  still : l.self.ended ≡ false → l.initial.self.ended ≡ false;
  no_read : l.initial.self.ended ≡ true → (l.reader ≡ l.initial.reader) × (l.self.remaining ≡ l.initial.self.remaining) × (l.self.line ≡ []) × (l.self.rest ≡ l.initial.self.rest);
  failed : l.self.failed ≡ l.initial.self.failed;
}

abbrev pub decreases-loop-self : goal.decreases-loop-self
decreases-loop-self g l = l.self.remaining.turns
