use Rattle.std.proofs.Common.{◌≡◌, length}
use Rattle.bd_extjson_fault.specs.JsonSyntax.{beyond_all}
use Rattle.bd_wide_advice.specs.Advice.{is_of_name}
use Rattle.bd_wide_advice.proofs.advice.skip_name.Given as goal

abbrev pub invariant-loop-rest : goal.invariant-loop-rest
invariant-loop-rest l = beyond_all is_of_name l.rest ≡ beyond_all is_of_name l.bytes

abbrev pub decreases-loop-rest : goal.decreases-loop-rest
decreases-loop-rest l = length l.rest
