use Rattle.std.proofs.Common.{◌≤◌, ◌+◌, length}
use Rattle.bd_cli_files.proofs.PackLemmas.{TakesFirst}
use Rattle.bd_cli_files.proofs.pack.Packing.pack_block.Given as goal

abbrev pub invariant-loop-end : goal.invariant-loop-end
invariant-loop-end g l = record {
  takes : TakesFirst g.P.LinePacker.form l.initial.block l.initial.self l.initial.partial.items l.rest l.self l.partial.items;
  counts : l.self.count ≤ l.self.lines;
  fits : l.self.lines + length l.rest ≤ l.initial.self.lines + length l.initial.block;
}

abbrev pub decreases-loop-end : goal.decreases-loop-end
decreases-loop-end g l = length l.rest
