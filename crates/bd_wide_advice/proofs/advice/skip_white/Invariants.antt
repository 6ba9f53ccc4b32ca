use Rattle.std.proofs.Common.{◌≡◌, length}
use Rattle.bd_extjson_fault.specs.JsonSyntax.{beyond_white}
use Rattle.bd_wide_advice.proofs.advice.skip_white.Given as goal

abbrev pub invariant-loop-rest : goal.invariant-loop-rest
invariant-loop-rest l = beyond_white l.rest ≡ beyond_white l.bytes

abbrev pub decreases-loop-rest : goal.decreases-loop-rest
decreases-loop-rest l = length l.rest
