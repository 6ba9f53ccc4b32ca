use Rattle.std.proofs.Common.{◌-◌, ◌≤◌, length}
use Rattle.bd_wide_dump.specs.inside.Tokens.{Reaches}
use Rattle.bd_wide_dump.proofs.PrettyLemmas.{IsInString}
use Rattle.bd_wide_dump.proofs.pretty.string_length.Given as goal

abbrev pub invariant-loop-passed : goal.invariant-loop-passed
invariant-loop-passed l = record {
  within : l.passed ≤ length l.text;
  inside : IsInString l.position;
  reaches : Reaches l.text l.passed l.position;
}

abbrev pub decreases-loop-passed : goal.decreases-loop-passed
decreases-loop-passed l = length l.text - l.passed
