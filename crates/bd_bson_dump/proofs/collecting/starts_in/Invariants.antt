use Rattle.std.proofs.Common.{◌-◌, ◌≤◌, length}
use Rattle.bd_value.specs.Limits.{longest_input}
use Rattle.bd_bson_dump.proofs.CollectionLemmas.{SoFar}
use Rattle.bd_bson_dump.proofs.collecting.starts_in.Given as goal

abbrev pub invariant-loop-starts : goal.invariant-loop-starts
invariant-loop-starts l = SoFar l.bytes l.starts.items l.at × (length l.bytes ≤ longest_input)

abbrev pub decreases-loop-starts : goal.decreases-loop-starts
decreases-loop-starts l = length l.bytes - l.at
