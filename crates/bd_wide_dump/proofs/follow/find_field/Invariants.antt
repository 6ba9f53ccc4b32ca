use Rattle.std.proofs.Common.{◌-◌, length}
use Rattle.bd_wide_dump.proofs.FollowLemmas.{FieldGoes}
use Rattle.bd_wide_dump.proofs.follow.find_field.Given as goal

abbrev pub invariant-loop-element : goal.invariant-loop-element
invariant-loop-element l = FieldGoes l.bytes l.start l.name l.next

abbrev pub decreases-loop-element : goal.decreases-loop-element
decreases-loop-element l = length l.bytes - l.next
