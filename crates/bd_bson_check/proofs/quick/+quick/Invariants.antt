use Rattle.std.proofs.Common.{◌≡◌, ◌+◌, ◌*◌, ℕ, Option, Ok, length}
use Rattle.bd_bson_check.specs.FirstFault.{skip_elements, skip_nested}
use Rattle.bd_bson_check.proofs.FirstFaultLemmas.{IsBytes}
use Rattle.bd_bson_check.proofs.quick.+quick.Given as goal

abbrev pub decreases-are_sound : goal.decreases-are_sound
decreases-are_sound l = 3 * l.depth_left + 2

abbrev pub decreases-after_element : goal.decreases-after_element
decreases-after_element l = 3 * l.depth_left + 1

abbrev pub decreases-after_nested : goal.decreases-after_nested
decreases-after_nested l = 3 * l.depth_left

abbrev pub invariant-are_sound-loop-rest : goal.invariant-are_sound-loop-rest
invariant-are_sound-loop-rest l = record {
  fits : IsBytes l.rest;
  whole : ((index : Option ℕ) (e : ℕ) → skip_elements l.profile (skip_nested l.profile l.depth_left) index (length l.rest) e l.rest ≡ Ok tt)
      → (index : Option ℕ) (e : ℕ) → skip_elements l.profile (skip_nested l.profile l.depth_left) index (length l.bytes) e l.bytes ≡ Ok tt;
}

abbrev pub decreases-are_sound-loop-rest : goal.decreases-are_sound-loop-rest
decreases-are_sound-loop-rest l = length l.rest
