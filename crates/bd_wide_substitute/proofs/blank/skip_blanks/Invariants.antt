use Rattle.std.proofs.Common.{◌≡◌, length}
use Rattle.bd_wide_substitute.specs.Substitutes.{after, is_blank}
use Rattle.bd_wide_substitute.proofs.blank.skip_blanks.Given as goal

abbrev pub invariant-loop-rest : goal.invariant-loop-rest
invariant-loop-rest l = after is_blank l.rest ≡ after is_blank l.bytes

abbrev pub decreases-loop-rest : goal.decreases-loop-rest
decreases-loop-rest l = length l.rest
