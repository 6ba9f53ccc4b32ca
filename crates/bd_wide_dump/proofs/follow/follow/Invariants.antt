use Rattle.std.proofs.Common.{length}
use Rattle.bd_path.specs.Path.{component_names}
use Rattle.bd_wide_dump.proofs.FollowLemmas.{FollowGoes}
use Rattle.bd_wide_dump.proofs.follow.follow.Given as goal

abbrev pub invariant-loop-rest : goal.invariant-loop-rest
invariant-loop-rest l = FollowGoes l.bytes (component_names l.names) l.fn.from l.found l.rest

abbrev pub decreases-loop-rest : goal.decreases-loop-rest
decreases-loop-rest l = length l.rest
