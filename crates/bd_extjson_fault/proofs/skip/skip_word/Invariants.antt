use Rattle.std.proofs.Common.{◌≡◌, ◌≤◌, length}
use Rattle.bd_extjson_fault.specs.JsonSyntax.{beyond_word}
use Rattle.bd_extjson_fault.proofs.skip.skip_word.Given as goal

abbrev pub invariant-loop-remaining : goal.invariant-loop-remaining
invariant-loop-remaining l = record { beyond : beyond_word l.remaining l.rest ≡ beyond_word l.fn.word l.fn.text; shorter : length l.rest ≤ length l.fn.text }

abbrev pub decreases-loop-remaining : goal.decreases-loop-remaining
decreases-loop-remaining l = length l.remaining
