use Rattle.std.proofs.Common.{◌+◌, ◌-◌, ◌*◌, ◌≤◌, length}
use Rattle.bd_wide_dump.specs.inside.Projects.{paths_of}
use Rattle.bd_wide_dump.proofs.FieldsLemmas.{Goes}
use Rattle.bd_wide_dump.proofs.fields.+projecting.Given as goal

abbrev pub decreases-append_elements : goal.decreases-append_elements
decreases-append_elements l = 3 * (length l.bytes.now - l.start) + 2

abbrev pub decreases-append_element : goal.decreases-append_element
decreases-append_element l = 3 * (length l.bytes.now - l.at) + 1

abbrev pub decreases-append_inside : goal.decreases-append_inside
decreases-append_inside l = 3 * (length l.bytes.now - l.at)

-- what was appended continues with what remains of the elements from `next` on
abbrev pub invariant-append_elements-loop-element : goal.invariant-append_elements-loop-element
invariant-append_elements-loop-element l = record {
  goes : Goes l.is_array (paths_of l.fields) l.bytes l.start l.next l.fn.out.items l.out.items;
  behind : l.start ≤ l.next;
}

abbrev pub decreases-append_elements-loop-element : goal.decreases-append_elements-loop-element
decreases-append_elements-loop-element l = length l.bytes - l.next
