use Rattle.std.proofs.Common.{◌≡◌, ◌≤◌, ◌+◌, ◌*◌, length, IfSome, cond, Some, None}
use Rattle.bd_bson_check.specs.FirstFault.{skip_elements, skip_nested}
use Rattle.bd_bson_check.proofs.FirstFaultLemmas.{IsBytes}
use Rattle.bd_bson_check.proofs.check.+checking.Given as goal

abbrev pub decreases-body : goal.decreases-body
decreases-body l = 6 * l.depth_left + 5

abbrev pub decreases-elements : goal.decreases-elements
decreases-elements l = 6 * l.depth_left + 4

abbrev pub decreases-element : goal.decreases-element
decreases-element l = 6 * l.depth_left + 3

abbrev pub decreases-value : goal.decreases-value
decreases-value l = 6 * l.depth_left + 2

abbrev pub decreases-code_scope : goal.decreases-code_scope
decreases-code_scope l = 6 * l.depth_left + 1

abbrev pub decreases-nested : goal.decreases-nested
decreases-nested l = 6 * l.depth_left

abbrev pub invariant-elements-loop-rest : goal.invariant-elements-loop-rest
invariant-elements-loop-rest l = record {
  inside : length l.rest ≤ l.e;
  fits : IsBytes l.rest;
  counted : IfSome l.index (λ i. i + length l.rest ≤ length l.bytes);
  so_far : skip_elements l.profile (skip_nested l.profile l.depth_left) l.index (length l.rest) l.e l.rest ≡ skip_elements l.profile (skip_nested l.profile l.depth_left) (cond l.in_array (Some 0) None) (length l.bytes) l.e l.bytes;
}

abbrev pub decreases-elements-loop-rest : goal.decreases-elements-loop-rest
decreases-elements-loop-rest l = length l.rest
