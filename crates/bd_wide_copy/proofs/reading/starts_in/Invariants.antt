use Rattle.std.proofs.Common.{◌-◌, ◌≤◌, length}
use Rattle.bd_value.specs.Limits.{longest_input}
use Rattle.bd_wide_copy.proofs.ReadingLemmas.{SoFar}
use Rattle.bd_wide_copy.proofs.reading.starts_in.Given as goal

abbrev pub invariant-loop-starts : goal.invariant-loop-starts
invariant-loop-starts l = SoFar l.bytes l.starts.items l.plain l.at × (length l.bytes ≤ longest_input)

abbrev pub decreases-loop-starts : goal.decreases-loop-starts
decreases-loop-starts l = length l.bytes - l.at
