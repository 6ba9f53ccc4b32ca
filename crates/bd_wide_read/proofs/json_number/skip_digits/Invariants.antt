use Rattle.std.proofs.Common.{◌≡◌, length}
use Rattle.bd_wide_read.specs.JsonNumber.{skip_digits}
use Rattle.bd_wide_read.proofs.json_number.skip_digits.Given as goal

abbrev pub invariant-loop-rest : goal.invariant-loop-rest
invariant-loop-rest l = skip_digits l.rest ≡ skip_digits l.bytes

abbrev pub decreases-loop-rest : goal.decreases-loop-rest
decreases-loop-rest l = length l.rest
