use Rattle.std.proofs.Common.{refl, ℕ, subst, ◌≡◌, ◌+◌, ◌-◌, suc, ◌++◌, ◌∷◌, [], length-append, rules, arith, ◌∙◌, append_assoc}
use Rattle.std.specs.Prelude.{decimal}
use Rattle.std.proofs.lemmas.Option.{MatchOption-at_some as of_some}
use Rattle.bd_value.specs.View.{kind_of}
use Rattle.bd_value.specs.Tree as trees
use Rattle.bd_value.specs.Tree.{leaf, doc, array, fields_of, items_of}
use Rattle.bd_bson_view.specs.Spelling.{framed, string, type_byte}
use Rattle.bd_bson_write.specs.TreeBytes.{bytes_of}
use Rattle.bd_extjson_text.specs.Text.{listed, member, object, quoted, text}
use Rattle.bd_extjson_pack.proofs.BodyLemmas as bodies
use Rattle.bd_extjson_pack.proofs.CanonicalLemmas as pieces
use Rattle.bd_wide_pack.specs.inside.CanonicalLine.{IsLine}
use Rattle.bd_wide_pack.proofs.CanonicalLineLemmas as lines
use Rattle.bd_wide_pack.proofs.canonical_line.+canonical.Goals as goal

-- ---- append_fields

pub append_fields-loop-next-preserved : goal.append_fields-loop-next-preserved
append_fields-loop-next-preserved t c =
    let l = c.loop-next in
    let inv = l.invariant in
    let field = of_some _ _ _ c.in_ok-name.ensures.ok_part c.field_name.ensures in
    let k = field.0 in
    let g = c.in_ok-type_byte.ensures in
    let begun = c.in_ok-element.ensures.ok in
    let put = lines.element_put l.out.items c.begin_element.new.out.items c.append_next.new.out.items c.put_type.new.out.items c.in_ok-element.element c.in_ok-type_byte.type_byte 34 k g.2
    begun.0 (begun.1 k 34 34 (c.as_bytes.ensures.value ∙ field.2)) g.5 c.put_type.ensures in
    let whole = c.args.text.now in
    let rest = c.in_ok-type_byte.after.now in
    let next = c.after_word-next.result in
    let at = c.in-Some.at.now in
    let turn = pieces.goes_on 123 whole inv.1 (member k g.1) at rest next (rw c.in-Some.is at inv.4)
    (lines.member_of at c.in_ok-name.value.now k g.1 rest field.3 g.3) c.after_word-next.ensures in (
      inv.0 ++ (k, g.0) ∷ [],
      inv.1 ++ member k g.1 ∷ [],
      inv.2 ++ lines.typed c.in_ok-type_byte.type_byte k g.2,
      lines.one_more_field c.args.depth_left inv.0 k g.0 inv.1 inv.2 g.1 c.in_ok-type_byte.type_byte g.2 inv.3 (field.1, field.4, field.5) g.4,
      turn,
      search rules,
      pieces.within_rest rest next c.after_word-next.ensures,
      rw (put, inv.7) (simp append_assoc),
    )

pub append_fields-put_type-requires : goal.append_fields-put_type-requires
append_fields-put_type-requires t c =
    let field = of_some _ _ _ c.in_ok-name.ensures.ok_part c.field_name.ensures in
    let begun = c.in_ok-element.ensures.ok in
    let g = c.in_ok-type_byte.ensures in
    let inside = lines.element_inside c.loop-next.out.items c.begin_element.new.out.items c.append_next.new.out.items c.in_ok-element.element 34 field.0 g.2
    begun.0 (begun.1 field.0 34 34 (c.as_bytes.ensures.value ∙ field.2)) g.5 in
    search rules

pub append_fields-end_body-requires : goal.append_fields-end_body-requires
append_fields-end_body-requires t c =
    let inv = c.loop-next.invariant in
    let size = bodies.body_size c.in_ok-start.start c.args.out.now.items inv.2 c.loop-next.out.items c.in_ok-start.ensures.offset inv.7 in
    search rules

pub append_fields-returns-clause-gives : goal.append_fields-returns-clause-gives
append_fields-returns-clause-gives t c =
    let l = c.loop-next in
    let inv = l.invariant in
    let put = c.in_ok-end_body.ensures.ok ∙ bodies.ended framed c.in_ok-start.start c.args.out.now.items inv.2 l.out.items c.in_ok-start.ensures.offset inv.7 in
    pieces.when_read c.after_word-2.result c.ok_or-2.result c.ok_or-2.ensures.ok_part c.after_word-2.ensures
    (λ rest e. (inv.0, inv.1, inv.2, pieces.ended_at 123 125 c.args.text.now inv.1 l.rest.now rest.now (rw c.in_default.is at inv.4) e, inv.3, put))

-- ---- append_items

pub append_items-loop-next-smaller : goal.append_items-loop-next-smaller
append_items-loop-next-smaller t c =
    let l = c.loop-next in
    let g = c.in_ok-type_byte.ensures in
    omega (arith, rw c.in-Some.is at l.invariant.6, lines.shorter _ g.0 g.1 _ g.2 _ _ g.4 g.3)

pub append_items-put_type-requires : goal.append_items-put_type-requires
append_items-put_type-requires t c =
    let begun = c.in_ok-element.ensures.ok in
    let g = c.in_ok-type_byte.ensures in
    let inside = lines.element_inside c.loop-next.out.items c.begin_item.new.out.items c.append_next.new.out.items c.in_ok-element.element begun.1.0 (decimal c.loop-next.index) g.2 begun.0 begun.1.1 g.5 in
    search rules

pub append_items-loop-next-preserved : goal.append_items-loop-next-preserved
append_items-loop-next-preserved t c =
    let l = c.loop-next in
    let inv = l.invariant in
    let ts = inv.0 in
    let g = c.in_ok-type_byte.ensures in
    let begun = c.in_ok-element.ensures.ok in
    let put = lines.element_put l.out.items c.begin_item.new.out.items c.append_next.new.out.items c.put_type.new.out.items c.in_ok-element.element c.in_ok-type_byte.type_byte begun.1.0 (decimal l.index) g.2
    begun.0 begun.1.1 g.5 c.put_type.ensures in
    let whole = c.args.text.now in
    let rest = c.in_ok-type_byte.after.now in
    let next = c.after_word-next.result in
    let index : c.in_ok-index.index ≡ l.index + 1 = search rules in
    let turn = pieces.goes_on 91 whole inv.1 g.1 c.in-Some.at.now rest next (rw c.in-Some.is at inv.4) g.3 c.after_word-next.ensures in (
      ts ++ g.0 ∷ [],
      inv.1 ++ g.1 ∷ [],
      inv.2 ++ lines.typed c.in_ok-type_byte.type_byte (decimal l.index) g.2,
      rw inv.8 (lines.one_more_item c.args.depth_left ts g.0 inv.1 inv.2 g.1 c.in_ok-type_byte.type_byte g.2 inv.3 g.4),
      turn,
      search rules,
      pieces.within_rest rest next c.after_word-next.ensures,
      rw (put, inv.7) (simp append_assoc),
      omega (arith, index, inv.8, length-append ts (g.0 ∷ [])),
    )

pub append_items-end_body-requires : goal.append_items-end_body-requires
append_items-end_body-requires t c =
    let inv = c.loop-next.invariant in
    let size = bodies.body_size c.in_ok-start.start c.args.out.now.items inv.2 c.loop-next.out.items c.in_ok-start.ensures.offset inv.7 in
    search rules

pub append_items-returns : goal.append_items-returns
append_items-returns t c =
    let l = c.loop-next in
    let inv = l.invariant in
    let put = c.in_ok-end_body.ensures.ok ∙ bodies.ended framed c.in_ok-start.start c.args.out.now.items inv.2 l.out.items c.in_ok-start.ensures.offset inv.7 in
    pieces.when_read c.after_word-2.result c.ok_or-2.result c.ok_or-2.ensures.ok_part c.after_word-2.ensures
    (λ rest e. (inv.0, inv.1, inv.2, pieces.ended_at 91 93 c.args.text.now inv.1 l.rest.now rest.now (rw c.in_default.is at inv.4) e, inv.3, put))

-- ---- append_next

pub append_next-returns-in_ok-rest-in-34 : goal.append_next-returns-in_ok-rest-in-34
append_next-returns-in_ok-rest-in-34 t c =
    let g = c.in_ok-rest-in-34.ensures in
    let type : c.type_byte-in-34.result ≡ 2 = search rules in
    (leaf (trees.text g.0), quoted g.0, string g.0, g.2, lines.more_depth_left c.args.depth_left (leaf (trees.text g.0)) (quoted g.0) c.type_byte-in-34.result (string g.0) (lines.text_line g.0 c.type_byte-in-34.result g.1 type), g.3)

pub append_next-returns-in_ok-rest-in-123-3 : goal.append_next-returns-in_ok-rest-in-123-3
append_next-returns-in_ok-rest-in-123-3 t c =
    let g = c.in_ok-rest-in-123-3.ensures.gives in
    let depth_left = c.args.depth_left in
    let next : suc (depth_left - 1) ≡ depth_left = omega arith in
    let type : c.type_byte.result ≡ 3 = search rules in
    (doc (fields_of g.0), object g.1, framed g.2, g.3, subst (λ (n : ℕ). IsLine n (doc (fields_of g.0)) (object g.1) c.type_byte.result (framed g.2)) next (g.1, g.2, g.4, refl, type, refl), g.5)

pub append_next-returns-in_ok-rest-in-91 : goal.append_next-returns-in_ok-rest-in-91
append_next-returns-in_ok-rest-in-91 t c =
    let g = c.in_ok-rest-in-91.ensures in
    let depth_left = c.args.depth_left in
    let next : suc (depth_left - 1) ≡ depth_left = omega arith in
    let type : c.type_byte-in-91.result ≡ 4 = search rules in
    (array (items_of g.0), listed g.1, framed g.2, g.3, subst (λ (n : ℕ). IsLine n (array (items_of g.0)) (listed g.1) c.type_byte-in-91.result (framed g.2)) next (g.1, g.2, g.4, refl, type, refl), g.5)

pub append_next-returns-in_ok-kind-in_default : goal.append_next-returns-in_ok-kind-in_default
append_next-returns-in_ok-kind-in_default t c =
    let g = c.in_ok-kind-in_default.ensures in
    let type : c.type_byte-in_default.result ≡ type_byte (kind_of g.0) = search rules in
    let line = lines.kind_line g.0 c.type_byte-in_default.result g.2 type in
    (line.0, text g.0, bytes_of g.0, g.1, lines.more_depth_left c.args.depth_left line.0 (text g.0) c.type_byte-in_default.result (bytes_of g.0) line.1, g.4)
