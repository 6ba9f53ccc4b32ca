use Rattle.std.proofs.Common.{◌-◌, ◌≤◌, length}
use Rattle.bd_value.specs.Limits.{longest_input}
use Rattle.bd_bson_dump.proofs.CollectionLemmas.{Rest, SoFar}
use Rattle.bd_bson_dump.proofs.collecting.stated_starts.Given as goal

abbrev pub invariant-loop-at : goal.invariant-loop-at
invariant-loop-at l = SoFar l.bytes l.starts.items l.at × Rest l.bytes l.at × (length l.bytes ≤ longest_input)

abbrev pub decreases-loop-at : goal.decreases-loop-at
decreases-loop-at l = length l.bytes - l.at
