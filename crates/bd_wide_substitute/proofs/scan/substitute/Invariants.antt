use Rattle.std.proofs.Common.{length}
use Rattle.bd_wide_substitute.specs.inside.Taken.{AreTaken}
use Rattle.bd_wide_substitute.proofs.scan.substitute.Given as goal

abbrev pub invariant-loop-rest : goal.invariant-loop-rest
invariant-loop-rest l = AreTaken l.has_values l.line l.pending l.rest l.made

abbrev pub decreases-loop-rest : goal.decreases-loop-rest
decreases-loop-rest l = length l.rest
