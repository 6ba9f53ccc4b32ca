use Rattle.std.proofs.Common.{◌+◌, ◌≤◌, length}
use Rattle.bd_wide_dump.proofs.GoingLemmas.{Going}
use Rattle.bd_wide_dump.specs.Pretty.{laid_out}
use Rattle.bd_wide_dump.specs.declared.pretty.Position.TheVariants.{Outside}
use Rattle.bd_wide_dump.proofs.pretty.append_pretty.Given as goal

abbrev pub invariant-loop-rest : goal.invariant-loop-rest
invariant-loop-rest l = record {
  going : Going l.fn.buffer.items l.end (laid_out Outside l.base 0 l.text) l.buffer.items l.at (laid_out Outside l.level l.before l.rest);
  level : l.level + length l.rest ≤ l.base + length l.text;
  space : l.at + 80 ≤ length l.buffer.items;
}

abbrev pub decreases-loop-rest : goal.decreases-loop-rest
decreases-loop-rest l = length l.rest
