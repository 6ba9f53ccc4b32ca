use Rattle.std.proofs.Common.{refl, ◌≡◌, ◌+◌, ◌-◌, suc, ◌++◌, ◌∷◌, [], length-append, rules, arith, ◌∙◌, append_assoc}
use Rattle.std.specs.Prelude.{decimal}
use Rattle.std.proofs.lemmas.Option.{MatchOption-at_some as of_some}
use Rattle.bd_value.specs.Tree as trees
use Rattle.bd_value.specs.Tree.{leaf, doc, array, fields_of, items_of}
use Rattle.bd_bson_view.specs.Spelling.{framed}
use Rattle.bd_bson_write.specs.TreeBytes.{fields_bytes, items_bytes}
use Rattle.bd_extjson_text.specs.Text.{text, member, items_text, fields_text}
use Rattle.bd_extjson_pack.proofs.BodyLemmas as bodies
use Rattle.bd_extjson_pack.proofs.CanonicalLemmas as pieces
use Rattle.bd_extjson_pack.proofs.canonical_line.+canonical.Goals as goal

-- ---- append_fields

pub append_fields-loop-next-preserved : goal.append_fields-loop-next-preserved
append_fields-loop-next-preserved t c =
    let l = c.loop-next in
    let ps = l.invariant.0 in
    let field = of_some _ _ _ c.in_ok-name.ensures.ok_part c.field_name.ensures in
    let k = field.0 in
    let g = c.in_ok-kind.ensures in
    let v = g.0 in
    let begun = c.in_ok-element.ensures.ok in
    let put = bodies.element_put l.out.items c.begin_element.new.out.items c.append_next.new.out.items c.end_element.new.out.items c.in_ok-element.element c.in_ok-kind.kind 34 k v
    begun.0 (begun.1 k 34 34 (c.as_bytes.ensures.value ∙ field.2)) g.3 g.4 c.end_element.ensures in
    let whole = c.args.text.now in
    let rest = c.in_ok-kind.after.now in
    let next = c.after_word-next.result in
    let at = c.in-Some.at.now in
    let turn = pieces.goes_on 123 whole (fields_text (fields_of ps)) (member k (text v)) at rest next (rw c.in-Some.is at l.invariant.2)
    (pieces.member_read at c.in_ok-name.value.now k v rest field.3 g.1) c.after_word-next.ensures in (
      ps ++ (k, v) ∷ [],
      pieces.one_more_canonical_field c.args.depth_left ps k v l.invariant.1 (field.1, field.4, field.5) g.2,
      rw (pieces.members_end ps k v) turn,
      search rules,
      pieces.within_rest rest next c.after_word-next.ensures,
      rw (put, l.invariant.5, bodies.one_more_field ps k v) (simp append_assoc),
    )

pub append_fields-end_element-requires : goal.append_fields-end_element-requires
append_fields-end_element-requires t c =
    let field = of_some _ _ _ c.in_ok-name.ensures.ok_part c.field_name.ensures in
    let begun = c.in_ok-element.ensures.ok in
    let g = c.in_ok-kind.ensures in
    let inside = bodies.element_inside c.loop-next.out.items c.begin_element.new.out.items c.append_next.new.out.items c.in_ok-element.element 34 field.0 g.0
    begun.0 (begun.1 field.0 34 34 (c.as_bytes.ensures.value ∙ field.2)) g.4 in
    search rules

pub append_fields-end_body-requires : goal.append_fields-end_body-requires
append_fields-end_body-requires t c =
    let size = bodies.body_size c.in_ok-start.start c.args.out.now.items
    (fields_bytes (fields_of c.loop-next.invariant.0)) c.loop-next.out.items c.in_ok-start.ensures.offset c.loop-next.invariant.5 in
    search rules

pub append_fields-returns-clause-gives : goal.append_fields-returns-clause-gives
append_fields-returns-clause-gives t c =
    let l = c.loop-next in
    let ps = l.invariant.0 in
    let put = c.in_ok-end_body.ensures.ok ∙ bodies.ended framed c.in_ok-start.start c.args.out.now.items (fields_bytes (fields_of ps)) l.out.items c.in_ok-start.ensures.offset l.invariant.5 in
    pieces.when_read c.after_word-2.result c.ok_or-2.result c.ok_or-2.ensures.ok_part c.after_word-2.ensures
    (λ rest e. (ps, pieces.ended_at 123 125 c.args.text.now (fields_text (fields_of ps)) l.rest.now rest.now (rw c.in_default.is at l.invariant.2) e, l.invariant.1, put))

-- ---- append_items

pub append_items-loop-next-smaller : goal.append_items-loop-next-smaller
append_items-loop-next-smaller t c =
    let l = c.loop-next in
    let g = c.in_ok-kind.ensures in
    omega (arith, rw c.in-Some.is at l.invariant.4, pieces.shorter g.0 _ _ g.1)

pub append_items-end_element-requires : goal.append_items-end_element-requires
append_items-end_element-requires t c =
    let begun = c.in_ok-element.ensures.ok in
    let g = c.in_ok-kind.ensures in
    let inside = bodies.element_inside c.loop-next.out.items c.begin_item.new.out.items c.append_next.new.out.items c.in_ok-element.element begun.1.0 (decimal c.loop-next.index) g.0 begun.0 begun.1.1 g.4 in
    search rules

pub append_items-loop-next-preserved : goal.append_items-loop-next-preserved
append_items-loop-next-preserved t c =
    let l = c.loop-next in
    let ts = l.invariant.0 in
    let g = c.in_ok-kind.ensures in
    let v = g.0 in
    let begun = c.in_ok-element.ensures.ok in
    let put = bodies.element_put l.out.items c.begin_item.new.out.items c.append_next.new.out.items c.end_element.new.out.items c.in_ok-element.element c.in_ok-kind.kind begun.1.0 (decimal l.index) v
    begun.0 begun.1.1 g.3 g.4 c.end_element.ensures in
    let whole = c.args.text.now in
    let rest = c.in_ok-kind.after.now in
    let next = c.after_word-next.result in
    let index : c.in_ok-index.index ≡ l.index + 1 = search rules in
    let turn = pieces.goes_on 91 whole (items_text (items_of ts)) (text v) c.in-Some.at.now rest next (rw c.in-Some.is at l.invariant.2) g.1 c.after_word-next.ensures in (
      ts ++ v ∷ [],
      pieces.one_more_canonical c.args.depth_left ts v l.invariant.1 g.2,
      rw (pieces.texts_end ts v) turn,
      search rules,
      pieces.within_rest rest next c.after_word-next.ensures,
      rw (put, l.invariant.6, l.invariant.5, bodies.one_more_item ts v) (simp append_assoc),
      omega (arith, index, l.invariant.6, length-append ts (v ∷ [])),
    )

pub append_items-end_body-requires : goal.append_items-end_body-requires
append_items-end_body-requires t c =
    let size = bodies.body_size c.in_ok-start.start c.args.out.now.items
    (items_bytes 0 (items_of c.loop-next.invariant.0)) c.loop-next.out.items c.in_ok-start.ensures.offset c.loop-next.invariant.5 in
    search rules

pub append_items-returns : goal.append_items-returns
append_items-returns t c =
    let l = c.loop-next in
    let ts = l.invariant.0 in
    let put = c.in_ok-end_body.ensures.ok ∙ bodies.ended framed c.in_ok-start.start c.args.out.now.items (items_bytes 0 (items_of ts)) l.out.items c.in_ok-start.ensures.offset l.invariant.5 in
    pieces.when_read c.after_word-2.result c.ok_or-2.result c.ok_or-2.ensures.ok_part c.after_word-2.ensures
    (λ rest e. (ts, pieces.ended_at 91 93 c.args.text.now (items_text (items_of ts)) l.rest.now rest.now (rw c.in_default.is at l.invariant.2) e, l.invariant.1, put))

-- ---- append_next

pub append_next-returns-in_ok-append_string-in-34 : goal.append_next-returns-in_ok-append_string-in-34
append_next-returns-in_ok-append_string-in-34 t c =
    let g = c.in_ok-append_string-in-34.ensures in
    (leaf (trees.text g.0), pieces.text_read c.args.text.now c.in_ok-append_string-in-34.field-0.now g.0 g.2, pieces.more_depth_left 0 c.args.depth_left _ (omega arith) (pieces.leaf_canonical (trees.text g.0) g.1 refl), refl, g.3)

pub append_next-returns-in_ok-append_fields-in-123-3 : goal.append_next-returns-in_ok-append_fields-in-123-3
append_next-returns-in_ok-append_fields-in-123-3 t c =
    let g = c.in_ok-append_fields-in-123-3.ensures.gives in
    let depth_left = c.args.depth_left in
    (doc (fields_of g.0), g.1, pieces.more_depth_left (suc (depth_left - 1)) depth_left _ (omega arith) (pieces.doc_known (depth_left - 1) g.0 g.2), refl, g.3)

pub append_next-returns-in_ok-append_items-in-91 : goal.append_next-returns-in_ok-append_items-in-91
append_next-returns-in_ok-append_items-in-91 t c =
    let g = c.in_ok-append_items-in-91.ensures in
    let depth_left = c.args.depth_left in
    (array (items_of g.0), g.1, pieces.more_depth_left (suc (depth_left - 1)) depth_left _ (omega arith) (pieces.array_known (depth_left - 1) g.0 g.2), refl, g.3)
