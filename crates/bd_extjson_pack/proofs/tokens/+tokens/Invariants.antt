use Rattle.std.proofs.Common.{◌≡◌, ◌≤◌, ◌++◌, length, option_map, ℕ, List, ◌+◌, ◌*◌}
use Rattle.json.specs.Json.{value, items, parse_map}
use Rattle.bd_value.specs.Tree.{Tree, Doc, fields_of, items_of}
use Rattle.bd_bson_view.specs.Spelling.{number}
use Rattle.bd_bson_write.specs.TreeBytes.{fields_bytes, items_bytes}
use Rattle.bd_extjson.specs.Read.{wrap_items, wrap_fields}
use Rattle.bd_extjson_wrapper.specs.Wrapper.{through, after_key}
use Rattle.bd_extjson.proofs.ReadLemmas.{items_before, fields_before}
use Rattle.bd_extjson_pack.proofs.tokens.+tokens.Given as goal

abbrev pub decreases-append_fields : goal.decreases-append_fields
decreases-append_fields l = 5 * l.depth + 1

abbrev pub decreases-append_items : goal.decreases-append_items
decreases-append_items l = 5 * l.depth + 1

abbrev pub decreases-append_next : goal.decreases-append_next
decreases-append_next l = 5 * l.depth

abbrev pub decreases-append_object : goal.decreases-append_object
decreases-append_object l = 5 * l.depth + 2

-- what was read and written, and what remains, are together the whole
abbrev pub invariant-append_fields-loop-next : goal.invariant-append_fields-loop-next
invariant-append_fields-loop-next l =
    (n : ℕ) × (ps : Doc) × (length l.reader ≤ n) × (through (wrap_fields l.depth_left) (after_key l.depth (length l.initial.reader) (option_map (λ s. s.now) l.initial.next) l.initial.reader)
    ≡ parse_map (fields_before ps) (through (wrap_fields l.depth_left) (after_key l.depth n (option_map (λ s. s.now) l.next) l.reader)))
    × (length l.reader ≤ length l.initial.reader)
    × (l.out.items ≡ (l.fn.out.items ++ number 0) ++ fields_bytes (fields_of ps))

abbrev pub decreases-append_fields-loop-next : goal.decreases-append_fields-loop-next
decreases-append_fields-loop-next l = length l.reader

abbrev pub invariant-append_items-loop-alloc : goal.invariant-append_items-loop-alloc
invariant-append_items-loop-alloc l =
    (n : ℕ) × (ts : List Tree) × (length l.reader ≤ n) × (through (wrap_items l.depth_left) (items (value l.depth) (length l.initial.reader) l.initial.reader)
    ≡ parse_map (items_before ts) (through (wrap_items l.depth_left) (items (value l.depth) n l.reader)))
    × (length l.reader ≤ length l.initial.reader)
    × (l.out.items ≡ (l.fn.out.items ++ number 0) ++ items_bytes 0 (items_of ts))
    × (l.index ≡ length ts)

abbrev pub decreases-append_items-loop-alloc : goal.decreases-append_items-loop-alloc
decreases-append_items-loop-alloc l = length l.reader
