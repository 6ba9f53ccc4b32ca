use Rattle.std.proofs.Common.{◌+◌, ◌-◌, ◌*◌, ◌≡◌, ◌≤◌, length, take}
use Rattle.bd_wide_dump.proofs.LineLemmas.{FieldsGo, ItemsGo}
use Rattle.bd_wide_dump.proofs.line.+wide.Given as goal

abbrev pub decreases-append_value : goal.decreases-append_value
decreases-append_value l = 4 * (length l.bytes.now - l.start) + 2

abbrev pub decreases-append_kept : goal.decreases-append_kept
decreases-append_kept l = 4 * (length l.bytes.now - l.start) + 1

abbrev pub decreases-append_scope : goal.decreases-append_scope
decreases-append_scope l = 4 * (length l.bytes.now - l.start)

abbrev pub decreases-append_fields : goal.decreases-append_fields
decreases-append_fields l = 4 * (length l.bytes.now - l.start) + 3

abbrev pub decreases-append_items : goal.decreases-append_items
decreases-append_items l = 4 * (length l.bytes.now - l.start) + 3

-- what is written continues with the elements that remain
abbrev pub invariant-append_fields-loop-element : goal.invariant-append_fields-loop-element
invariant-append_fields-loop-element l = record {
  goes : FieldsGo l.format l.bytes l.start l.next l.later (take l.end l.fn.out.items) (take l.at l.out.items);
  unchanged : take l.end l.out.items ≡ take l.end l.fn.out.items;
  inside : l.at ≤ length l.out.items;
  after : l.end ≤ l.at;
  behind : l.start ≤ l.next;
}

abbrev pub decreases-append_fields-loop-element : goal.decreases-append_fields-loop-element
decreases-append_fields-loop-element l = length l.bytes - l.next

abbrev pub invariant-append_items-loop-element : goal.invariant-append_items-loop-element
invariant-append_items-loop-element l = record {
  goes : ItemsGo l.format l.bytes l.start l.next l.later (take l.end l.fn.out.items) (take l.at l.out.items);
  unchanged : take l.end l.out.items ≡ take l.end l.fn.out.items;
  inside : l.at ≤ length l.out.items;
  after : l.end ≤ l.at;
  behind : l.start ≤ l.next;
}

abbrev pub decreases-append_items-loop-element : goal.decreases-append_items-loop-element
decreases-append_items-loop-element l = length l.bytes - l.next
