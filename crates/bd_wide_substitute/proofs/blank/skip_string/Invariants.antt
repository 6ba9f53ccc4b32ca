use Rattle.std.proofs.Common.{◌≡◌, ◌≤◌, length}
use Rattle.bd_wide_substitute.specs.Substitutes.{after_string}
use Rattle.bd_wide_substitute.proofs.blank.skip_string.Given as goal

abbrev pub invariant-loop-rest : goal.invariant-loop-rest
invariant-loop-rest l = (after_string l.rest ≡ after_string l.bytes) × (length l.rest ≤ length l.bytes)

abbrev pub decreases-loop-rest : goal.decreases-loop-rest
decreases-loop-rest l = length l.rest
