use Rattle.std.proofs.Common.{◌≡◌, ◌≤◌, ◌++◌, length, List, ◌+◌, ◌*◌}
use Rattle.std.specs.Prelude.{IfSome}
use denote.Shadow.{shadow}
use denote.Text.{Utf8}
use Rattle.bd_value.specs.Tree.{Tree, Doc, fields_of, items_of}
use Rattle.bd_bson_view.specs.Spelling.{number}
use Rattle.bd_bson_write.specs.TreeBytes.{fields_bytes, items_bytes}
use Rattle.bd_extjson_text.specs.Text.{items_text, fields_text}
use Rattle.bd_extjson_pack.specs.inside.Packable.{AreCanonical, AreCanonicalFields}
use Rattle.bd_extjson_pack.proofs.CanonicalLemmas.{IsReadTo}
use Rattle.bd_extjson_pack.proofs.canonical_line.+canonical.Given as goal

abbrev pub decreases-append_next : goal.decreases-append_next
decreases-append_next l = 2 * l.depth_left

abbrev pub decreases-append_items : goal.decreases-append_items
decreases-append_items l = 2 * l.depth_left + 1

abbrev pub decreases-append_fields : goal.decreases-append_fields
decreases-append_fields l = 2 * l.depth_left + 1

-- what was read and what remains are together the whole text
abbrev pub invariant-append_items-loop-next : goal.invariant-append_items-loop-next
invariant-append_items-loop-next l =
    (ts : List Tree) × AreCanonical l.depth_left ts
    × IsReadTo 91 l.fn.text (items_text (items_of ts)) l.rest l.next
    × shadow (Utf8 l.rest) × IfSome l.next (λ at. length at.now ≤ length l.rest)
    × (l.out.items ≡ (l.fn.out.items ++ number 0) ++ items_bytes 0 (items_of ts))
    × (l.index ≡ length ts)

abbrev pub decreases-append_items-loop-next : goal.decreases-append_items-loop-next
decreases-append_items-loop-next l = length l.rest

abbrev pub invariant-append_fields-loop-next : goal.invariant-append_fields-loop-next
invariant-append_fields-loop-next l =
    (ps : Doc) × AreCanonicalFields l.depth_left ps
    × IsReadTo 123 l.fn.text (fields_text (fields_of ps)) l.rest l.next
    × shadow (Utf8 l.rest) × IfSome l.next (λ at. length at.now ≤ length l.rest)
    × (l.out.items ≡ (l.fn.out.items ++ number 0) ++ fields_bytes (fields_of ps))

abbrev pub decreases-append_fields-loop-next : goal.decreases-append_fields-loop-next
decreases-append_fields-loop-next l = length l.rest
