use Rattle.std.proofs.Common.{◌+◌, ◌-◌, ◌*◌, ◌≡◌, ◌≤◌, length, take}
use Rattle.bd_wide_dump.proofs.IndentLemmas.{FieldsLaid, ItemsLaid}
use Rattle.bd_wide_dump.proofs.indent.+indented.Given as goal

abbrev pub decreases-indent_value : goal.decreases-indent_value
decreases-indent_value l = 3 * (length l.bytes.now - l.start) + 1

abbrev pub decreases-indent_kept : goal.decreases-indent_kept
decreases-indent_kept l = 3 * (length l.bytes.now - l.start)

abbrev pub decreases-indent_fields : goal.decreases-indent_fields
decreases-indent_fields l = 3 * (length l.bytes.now - l.start) + 2

abbrev pub decreases-indent_items : goal.decreases-indent_items
decreases-indent_items l = 3 * (length l.bytes.now - l.start) + 2

-- what is written continues with the elements that remain
abbrev pub invariant-indent_fields-loop-element : goal.invariant-indent_fields-loop-element
invariant-indent_fields-loop-element l = record {
  goes : FieldsLaid l.format l.level l.bytes l.start l.next l.later (take l.end l.fn.out.items) (take l.at l.out.items);
  unchanged : take l.end l.out.items ≡ take l.end l.fn.out.items;
  inside : l.at ≤ length l.out.items;
  after : l.end ≤ l.at;
  behind : l.start ≤ l.next;
}

abbrev pub decreases-indent_fields-loop-element : goal.decreases-indent_fields-loop-element
decreases-indent_fields-loop-element l = length l.bytes - l.next

abbrev pub invariant-indent_items-loop-element : goal.invariant-indent_items-loop-element
invariant-indent_items-loop-element l = record {
  goes : ItemsLaid l.format l.level l.bytes l.start l.next l.later (take l.end l.fn.out.items) (take l.at l.out.items);
  unchanged : take l.end l.out.items ≡ take l.end l.fn.out.items;
  inside : l.at ≤ length l.out.items;
  after : l.end ≤ l.at;
  behind : l.start ≤ l.next;
}

abbrev pub decreases-indent_items-loop-element : goal.decreases-indent_items-loop-element
decreases-indent_items-loop-element l = length l.bytes - l.next
