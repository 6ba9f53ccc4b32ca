use Rattle.std.proofs.Common.{◌≡◌, length}
use Rattle.bd_wide_dump.specs.Fields.{clash, requested}
use Rattle.bd_wide_dump.proofs.requested.clash.Given as goal

abbrev pub invariant-loop-rest : goal.invariant-loop-rest
invariant-loop-rest l = clash (requested l.rest) ≡ clash (requested l.paths)

abbrev pub decreases-loop-rest : goal.decreases-loop-rest
decreases-loop-rest l = length l.rest
