use Rattle.std.proofs.Common.{◌≡◌, ◌≤◌, ◌++◌, ℕ, length, List, ◌+◌, ◌*◌}
use Rattle.std.specs.Prelude.{IfSome}
use denote.Shadow.{shadow}
use denote.Text.{Utf8}
use Rattle.bd_value.specs.Tree.{Tree, Doc, fields_of, items_of}
use Rattle.bd_bson_view.specs.Spelling.{number}
use Rattle.bd_extjson_pack.proofs.CanonicalLemmas.{IsReadTo}
use Rattle.bd_wide_pack.specs.inside.CanonicalLine.{AreFieldLines, AreItemLines}
use Rattle.bd_wide_pack.proofs.canonical_line.+canonical.Given as goal

abbrev pub decreases-append_next : goal.decreases-append_next
decreases-append_next l = 2 * l.depth_left

abbrev pub decreases-append_items : goal.decreases-append_items
decreases-append_items l = 2 * l.depth_left + 1

abbrev pub decreases-append_fields : goal.decreases-append_fields
decreases-append_fields l = 2 * l.depth_left + 1

-- what was read and what remains are together the whole text
abbrev pub invariant-append_items-loop-next : goal.invariant-append_items-loop-next
invariant-append_items-loop-next l =
    (ts : List Tree) × (values : List (List ℕ)) × (body : List ℕ) × AreItemLines l.depth_left 0 (items_of ts) values body
    × IsReadTo 91 l.fn.text values l.rest l.next
    × shadow (Utf8 l.rest) × IfSome l.next (λ at. length at.now ≤ length l.rest)
    × (l.out.items ≡ (l.fn.out.items ++ number 0) ++ body)
    × (l.index ≡ length ts)

abbrev pub decreases-append_items-loop-next : goal.decreases-append_items-loop-next
decreases-append_items-loop-next l = length l.rest

abbrev pub invariant-append_fields-loop-next : goal.invariant-append_fields-loop-next
invariant-append_fields-loop-next l =
    (ps : Doc) × (members : List (List ℕ)) × (body : List ℕ) × AreFieldLines l.depth_left (fields_of ps) members body
    × IsReadTo 123 l.fn.text members l.rest l.next
    × shadow (Utf8 l.rest) × IfSome l.next (λ at. length at.now ≤ length l.rest)
    × (l.out.items ≡ (l.fn.out.items ++ number 0) ++ body)

abbrev pub decreases-append_fields-loop-next : goal.decreases-append_fields-loop-next
decreases-append_fields-loop-next l = length l.rest
