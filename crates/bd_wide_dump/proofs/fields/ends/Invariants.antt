use Rattle.std.proofs.Common.{◌≡◌, length}
use Rattle.bd_wide_dump.specs.{inside.Projects.paths_of, Projected.ends}
use Rattle.bd_wide_dump.proofs.fields.ends.Given as goal

abbrev pub invariant-loop-rest : goal.invariant-loop-rest
invariant-loop-rest l = ends (paths_of l.rest) ≡ ends (paths_of l.fields)

abbrev pub decreases-loop-rest : goal.decreases-loop-rest
decreases-loop-rest l = length l.rest
