use Rattle.std.proofs.Common.{◌-◌, length}
use Rattle.bd_wide_dump.proofs.FollowLemmas.{ItemGoes}
use Rattle.bd_wide_dump.proofs.follow.find_item.Given as goal

abbrev pub invariant-loop-element : goal.invariant-loop-element
invariant-loop-element l = ItemGoes l.bytes l.start l.index l.rest_count l.next

abbrev pub decreases-loop-element : goal.decreases-loop-element
decreases-loop-element l = length l.bytes - l.next
