use Rattle.std.proofs.Common.{◌≡◌, ◌≤◌, ℕ, length, map, option_map, ◌+◌, ◌*◌}
use Rattle.json.specs.Json.{value, items, parse_map}
use Rattle.bd_value.specs.View.{tree_of, pairs}
use Rattle.bd_extjson.specs.Read.{wrap_items, wrap_fields}
use Rattle.bd_extjson_wrapper.specs.Wrapper.{through, after_key}
use Rattle.bd_extjson.proofs.ReadLemmas.{items_before, fields_before}
use Rattle.bd_extjson.proofs.read.+reading.Given as goal

abbrev pub decreases-read_fields : goal.decreases-read_fields
decreases-read_fields l = 5 * l.depth + 1

abbrev pub decreases-read_items : goal.decreases-read_items
decreases-read_items l = 5 * l.depth + 1

abbrev pub decreases-read_object : goal.decreases-read_object
decreases-read_object l = 5 * l.depth + 3

abbrev pub decreases-read_value : goal.decreases-read_value
decreases-read_value l = 5 * l.depth

abbrev pub decreases-read_wrapper : goal.decreases-read_wrapper
decreases-read_wrapper l = 5 * l.depth + 2

abbrev pub decreases-read_scope_first : goal.decreases-read_scope_first
decreases-read_scope_first l = 5 * l.depth + 1

abbrev pub decreases-read_scope_second : goal.decreases-read_scope_second
decreases-read_scope_second l = 5 * l.depth + 1

-- what is read and what remains are together the whole
abbrev pub invariant-read_fields-loop-next : goal.invariant-read_fields-loop-next
invariant-read_fields-loop-next l =
    (n : ℕ) × (length l.reader ≤ n) × (through (wrap_fields l.depth_left) (after_key l.depth (length l.initial.reader) (option_map (λ s. s.now) l.initial.next) l.initial.reader)
    ≡ parse_map (fields_before (pairs l.read)) (through (wrap_fields l.depth_left) (after_key l.depth n (option_map (λ s. s.now) l.next) l.reader)))
    × (length l.reader ≤ length l.initial.reader)

abbrev pub decreases-read_fields-loop-next : goal.decreases-read_fields-loop-next
decreases-read_fields-loop-next l = length l.reader

abbrev pub invariant-read_items-loop-alloc : goal.invariant-read_items-loop-alloc
invariant-read_items-loop-alloc l =
    (n : ℕ) × (length l.reader ≤ n) × (through (wrap_items l.depth_left) (items (value l.depth) (length l.initial.reader) l.initial.reader)
    ≡ parse_map (items_before (map tree_of l.found.items)) (through (wrap_items l.depth_left) (items (value l.depth) n l.reader)))
    × (length l.reader ≤ length l.initial.reader)

abbrev pub decreases-read_items-loop-alloc : goal.decreases-read_items-loop-alloc
decreases-read_items-loop-alloc l = length l.reader
