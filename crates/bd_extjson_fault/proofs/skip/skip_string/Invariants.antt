use Rattle.std.proofs.Common.{◌≤◌, ◌==◌, length}
use Rattle.bd_extjson_fault.specs.JsonSyntax.{beyond_character, beyond_string}
use Rattle.bd_extjson_fault.proofs.PassingLemmas.{GoesOn}
use Rattle.bd_extjson_fault.proofs.skip.skip_string.Given as goal

abbrev pub invariant-loop-rest : goal.invariant-loop-rest
invariant-loop-rest l = record {
  beyond : GoesOn (λ b. b == 34) beyond_character l.rest (beyond_string l.fn.text);
  shorter : length l.rest ≤ length l.fn.text;
}

abbrev pub decreases-loop-rest : goal.decreases-loop-rest
decreases-loop-rest l = length l.rest
