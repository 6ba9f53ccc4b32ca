use Rattle.std.proofs.Common.{◌≡◌, ◌≤◌, length}
use Rattle.bd_extjson_fault.specs.JsonSyntax.{beyond_all, is_decimal}
use Rattle.bd_extjson_fault.proofs.skip.skip_all_digits.Given as goal

abbrev pub invariant-loop-rest : goal.invariant-loop-rest
invariant-loop-rest l = record { beyond : beyond_all is_decimal l.rest ≡ beyond_all is_decimal l.fn.text; shorter : length l.rest ≤ length l.fn.text }

abbrev pub decreases-loop-rest : goal.decreases-loop-rest
decreases-loop-rest l = length l.rest
