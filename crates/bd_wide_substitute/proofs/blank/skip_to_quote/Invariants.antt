use Rattle.std.proofs.Common.{◌≡◌, ◌≤◌, length}
use Rattle.bd_wide_substitute.specs.Substitutes.{after, is_no_quote}
use Rattle.bd_wide_substitute.proofs.blank.skip_to_quote.Given as goal

abbrev pub invariant-loop-rest : goal.invariant-loop-rest
invariant-loop-rest l = (after is_no_quote l.rest ≡ after is_no_quote l.bytes) × (length l.rest ≤ length l.bytes)

abbrev pub decreases-loop-rest : goal.decreases-loop-rest
decreases-loop-rest l = length l.rest
