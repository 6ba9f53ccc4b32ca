use Rattle.std.proofs.Common.{◌+◌, ◌*◌, ◌≤◌, ◌<◌, ◌==◌, ℕ, length}
use Rattle.bd_extjson_fault.specs.JsonSyntax.{beyond_array, beyond_member, beyond_parts, beyond_value}
use Rattle.bd_extjson_fault.specs.inside.SecondPass.{found}
use Rattle.bd_extjson_fault.specs.TreeFault.{array_fault, first_in, member_fault, parts_from, value_fault}
use Rattle.bd_extjson_fault.proofs.FindingLemmas.{FindsOn}
use Rattle.bd_extjson_fault.proofs.PassingLemmas.{PartsGoOn}
use Rattle.bd_extjson_fault.proofs.second_pass.Pass.+passing.Given as goal

abbrev pub decreases-value : goal.decreases-value
decreases-value l = 6 * l.level

abbrev pub decreases-array : goal.decreases-array
decreases-array l = 6 * l.level + 1

abbrev pub decreases-more_members : goal.decreases-more_members
decreases-more_members l = 6 * l.level + 1

abbrev pub decreases-code_part : goal.decreases-code_part
decreases-code_part l = 6 * l.level + 1

abbrev pub decreases-members : goal.decreases-members
decreases-members l = 6 * l.level + 2

abbrev pub decreases-code_parts : goal.decreases-code_parts
decreases-code_parts l = 6 * l.level + 2

abbrev pub decreases-code : goal.decreases-code
decreases-code l = 6 * l.level + 3

abbrev pub decreases-object : goal.decreases-object
decreases-object l = 6 * l.level + 4

abbrev pub invariant-array-loop-more : goal.invariant-array-loop-more
invariant-array-loop-more l = record {
  beyond : PartsGoOn (λ b. b == 93) (beyond_value l.fn.level) l.more l.self.rest.now (beyond_array (beyond_value l.fn.level) l.fn.self.rest.now);
  finds : FindsOn (λ b. b == 93) (beyond_value l.fn.level) (value_fault l.fn.level) l.depth_left l.more l.self.fault l.self.rest.now
      (found l.fn.self.fault l.fn.depth_left (λ r. array_fault (beyond_value l.fn.level) (value_fault l.fn.level) r l.fn.text l.fn.self.rest.now));
  shorter : length l.self.rest.now ≤ length l.fn.self.rest.now;
}

abbrev pub decreases-array-loop-more : goal.decreases-array-loop-more
decreases-array-loop-more l = length l.self.rest.now

abbrev pub invariant-more_members-loop-more : goal.invariant-more_members-loop-more
invariant-more_members-loop-more l = record {
  beyond : (n : ℕ) → length l.fn.self.rest.now < n → PartsGoOn (λ b. b == 125) (beyond_member (beyond_value l.fn.level)) l.more l.self.rest.now
      (beyond_parts (λ b. b == 125) (beyond_member (beyond_value l.fn.level)) n l.fn.self.rest.now);
  finds : (n : ℕ) → length l.fn.self.rest.now < n
      → FindsOn (λ b. b == 125) (beyond_member (beyond_value l.fn.level)) (λ r. member_fault (value_fault l.fn.level r)) l.depth_left l.more l.self.fault l.self.rest.now
      (found l.fn.self.fault l.fn.depth_left (λ r. first_in (member_fault (value_fault l.fn.level r))
      (parts_from (λ b. b == 125) (beyond_member (beyond_value l.fn.level)) n l.fn.self.rest.now)));
  shorter : length l.self.rest.now ≤ length l.fn.self.rest.now;
}

abbrev pub decreases-more_members-loop-more : goal.decreases-more_members-loop-more
decreases-more_members-loop-more l = length l.self.rest.now
