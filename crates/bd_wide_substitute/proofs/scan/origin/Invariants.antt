use Rattle.std.proofs.Common.{length}
use Rattle.bd_wide_substitute.specs.inside.Taken.{IsReached}
use Rattle.bd_wide_substitute.proofs.scan.origin.Given as goal

abbrev pub invariant-loop-rest : goal.invariant-loop-rest
invariant-loop-rest l = IsReached l.line l.at l.rest l.rest_count

abbrev pub decreases-loop-rest : goal.decreases-loop-rest
decreases-loop-rest l = length l.rest
