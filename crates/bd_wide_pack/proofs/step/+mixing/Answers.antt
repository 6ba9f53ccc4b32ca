use Rattle.std.proofs.Common.{◌≡◌, ◌∙◌, ℕ, List, length, refl, sym, ap, rules, arith}
use Rattle.bd_value.specs.Tree.{Doc, code_scope, fields_of, fields_size}
use Rattle.bd_value.proofs.PartsLemmas.{doc_is, array_is, parts_smaller}
use Rattle.bd_bson_view.specs.Raw.{value_tree, remaining_pairs}
use Rattle.bd_bson_view.specs.Spelling.{framed}
use Rattle.bd_wide_pack.proofs.MixLemmas as m
use Rattle.bd_wide_pack.proofs.step.+mixing.Goals as goal

pub elements-loop-name-init : goal.elements-loop-name-init
elements-loop-name-init t c = record {
  goes = m.goes_start c.args.named (remaining_pairs c.args.wholes) (remaining_pairs c.args.texts) c.args.numbers.now c.args.out.now.items;
  wholes_source = c.requires.0;
  texts_source = c.requires.1;
  smaller = omega arith;
}

pub elements-returns-in_default-next : goal.elements-returns-in_default-next
elements-returns-in_default-next t c =
    m.unlike_ended _ _ _ _ _ _ _ _ _ _ c.loop-name.invariant.goes _ _ c.in-Some.ensures.some c.in_default-next.ensures.none

pub elements-returns-then-names_differ : goal.elements-returns-then-names_differ
elements-returns-then-names_differ t c =
    let d = c.names_differ.ensures.differ c.if-names_differ.true in
    m.unlike_names _ _ _ _ _ _ _ _ _ _ c.loop-name.invariant.goes _ _ _ _ _ _ c.in-Some.ensures.some c.in-Some-next.ensures.some d.0 d.1

pub elements-value-requires : goal.elements-value-requires
elements-value-requires t c =
    let size = ap (λ (d : Doc). fields_size (fields_of d)) c.in-Some.ensures.some in
    let smaller = c.loop-name.invariant.smaller in
    let e = c.decreases in
    (omega arith, (c.in-Some.ensures.same_source.0 ∙ c.loop-name.invariant.wholes_source, c.in-Some-next.ensures.same_source.0 ∙ c.loop-name.invariant.texts_source))

pub elements-returns-in_default-2 : goal.elements-returns-in_default-2
elements-returns-in_default-2 t c =
    let unlike = rw c.in_default-2.is at c.in_ok-more.ensures in
    m.unlike_values _ _ _ _ _ _ _ _ _ _ c.loop-name.invariant.goes _ _ _ _ _ _ c.in-Some.ensures.some c.in-Some-next.ensures.some unlike

pub elements-loop-name-preserved : goal.elements-loop-name-preserved
elements-loop-name-preserved t c =
    let mixed = rw c.in-Some-2.is at c.in_ok-more.ensures in
    let size = ap (λ (d : Doc). fields_size (fields_of d)) c.in-Some.ensures.some in
    let smaller = c.loop-name.invariant.smaller in
    record {
      goes = m.goes_next _ _ _ _ _ _ _ _ _ _ _ _ _ _ _ _ _ _ _ c.loop-name.invariant.goes c.in-Some.ensures.some c.in-Some-next.ensures.some
          (m.first_name c.loop-name.whole_rest.remaining _ _ _ c.in-Some.ensures.some) (c.names_differ.ensures.same c.if-names_differ.false) c.name_of-under.ensures mixed;
      wholes_source = c.in-Some.ensures.same_source.1 ∙ c.loop-name.invariant.wholes_source;
      texts_source = c.in-Some-next.ensures.same_source.1 ∙ c.loop-name.invariant.texts_source;
      smaller = omega arith;
    }

pub elements-returns-in-Some-next-2 : goal.elements-returns-in-Some-next-2
elements-returns-in-Some-next-2 t c =
    m.unlike_more _ _ _ _ _ _ _ _ _ _ c.loop-name.invariant.goes _ _ c.in_default.ensures.none c.in-Some-next-2.ensures.some

pub elements-returns-in-None : goal.elements-returns-in-None
elements-returns-in-None t c = m.goes_end _ _ _ _ _ _ _ _ _ _ c.loop-name.invariant.goes c.in_default.ensures.none c.in-None.ensures.none

pub document-returns-in_default : goal.document-returns-in_default
document-returns-in_default t c = m.other_document (value_tree c.args.whole) (value_tree c.args.text) c.args.numbers.now c.requires.1.1.2 (λ e. c.in_default.not-Doc (c.kind.ensures ∙ e))

pub document-body-requires : goal.document-body-requires
document-body-requires t c =
    let smaller = parts_smaller (value_tree c.args.whole) (remaining_pairs c.parts-wholes.result) c.parts-wholes.ensures.parts in
    (omega (arith, smaller, c.requires.1.0), (c.parts-wholes.ensures.same_source ∙ c.requires.1.1.0, c.parts-texts.ensures.same_source ∙ c.requires.1.1.1))

pub document-returns-in_default-2 : goal.document-returns-in_default-2
document-returns-in_default-2 t c =
    m.document_unlike (value_tree c.args.whole) (value_tree c.args.text) (remaining_pairs c.parts-wholes.result) (remaining_pairs c.parts-texts.result) c.args.numbers.now
    (doc_is (value_tree c.args.whole) _ c.requires.1.1.2 c.parts-wholes.ensures.parts) (doc_is (value_tree c.args.text) _ (sym c.kind.ensures ∙ c.in-Doc.is) c.parts-texts.ensures.parts)
    (rw c.in_default-2.is at c.in_ok-rest.ensures)

pub document-returns : goal.document-returns
document-returns t c =
    let mixed = rw c.in-Some.is at c.in_ok-rest.ensures in
    m.document_mixed (value_tree c.args.whole) (value_tree c.args.text) (remaining_pairs c.parts-wholes.result) (remaining_pairs c.parts-texts.result) c.args.numbers.now c.args.name.now c.in-Some.rest.now mixed.0 _ _ _
    (doc_is (value_tree c.args.whole) _ c.requires.1.1.2 c.parts-wholes.ensures.parts) (doc_is (value_tree c.args.text) _ (sym c.kind.ensures ∙ c.in-Doc.is) c.parts-texts.ensures.parts)
    mixed.1 (rw c.type_byte.ensures at c.in_ok-put_name.ensures) mixed.2

pub array-returns-in_default : goal.array-returns-in_default
array-returns-in_default t c = m.other_array (value_tree c.args.whole) (value_tree c.args.text) c.args.numbers.now c.requires.1.1.2 (λ e. c.in_default.not-Array (c.kind.ensures ∙ e))

pub array-body-requires : goal.array-body-requires
array-body-requires t c =
    let smaller = parts_smaller (value_tree c.args.whole) (remaining_pairs c.parts-wholes.result) c.parts-wholes.ensures.parts in
    (omega (arith, smaller, c.requires.1.0), (c.parts-wholes.ensures.same_source ∙ c.requires.1.1.0, c.parts-texts.ensures.same_source ∙ c.requires.1.1.1))

pub array-returns-in_default-2 : goal.array-returns-in_default-2
array-returns-in_default-2 t c =
    m.array_unlike (value_tree c.args.whole) (value_tree c.args.text) (remaining_pairs c.parts-wholes.result) (remaining_pairs c.parts-texts.result) c.args.numbers.now
    (array_is (value_tree c.args.whole) _ c.requires.1.1.2 c.parts-wholes.ensures.parts) (array_is (value_tree c.args.text) _ (sym c.kind.ensures ∙ c.in-Array.is) c.parts-texts.ensures.parts)
    (rw c.in_default-2.is at c.in_ok-rest.ensures)

pub array-returns : goal.array-returns
array-returns t c =
    let mixed = rw c.in-Some.is at c.in_ok-rest.ensures in
    m.array_mixed (value_tree c.args.whole) (value_tree c.args.text) (remaining_pairs c.parts-wholes.result) (remaining_pairs c.parts-texts.result) c.args.numbers.now c.args.name.now c.in-Some.rest.now mixed.0 _ _ _
    (array_is (value_tree c.args.whole) _ c.requires.1.1.2 c.parts-wholes.ensures.parts) (array_is (value_tree c.args.text) _ (sym c.kind.ensures ∙ c.in-Array.is) c.parts-texts.ensures.parts)
    mixed.1 (rw c.type_byte.ensures at c.in_ok-put_name.ensures) mixed.2

pub scoped-returns-in_default-code_and_scope : goal.scoped-returns-in_default-code_and_scope
scoped-returns-in_default-code_and_scope t c =
    m.other_scope (value_tree c.args.whole) (value_tree c.args.text) c.in-Some.code.now _ c.args.numbers.now c.in-Some.ensures.some c.in_default-code_and_scope.ensures.none

pub scoped-returns-then-names_differ : goal.scoped-returns-then-names_differ
scoped-returns-then-names_differ t c =
    let d = c.names_differ.ensures.differ c.if-names_differ.true in
    m.scope_unlike (value_tree c.args.whole) (value_tree c.args.text) (remaining_pairs c.in-Some.wholes) (remaining_pairs c.in-Some-code_and_scope.texts) c.args.numbers.now c.in-Some.code.now c.in-Some-code_and_scope.other.now
    c.in-Some.ensures.some c.in-Some-code_and_scope.ensures.some (λ e. absurd (d.1 (sym e)))

pub scoped-returns-in_default-2 : goal.scoped-returns-in_default-2
scoped-returns-in_default-2 t c =
    let unlike = rw c.in_default-2.is at c.in_ok-rest.ensures in
    m.scope_unlike (value_tree c.args.whole) (value_tree c.args.text) (remaining_pairs c.in-Some.wholes) (remaining_pairs c.in-Some-code_and_scope.texts) c.args.numbers.now c.in-Some.code.now c.in-Some-code_and_scope.other.now
    c.in-Some.ensures.some c.in-Some-code_and_scope.ensures.some (λ e. unlike)

pub scoped-returns : goal.scoped-returns
scoped-returns t c =
    let mixed = rw c.in-Some-2.is at c.in_ok-rest.ensures in
    let same : c.in-Some-code_and_scope.other.now ≡ c.in-Some.code.now = sym (c.names_differ.ensures.same c.if-names_differ.false refl) in
    let at : c.len-at.result ≡ length c.put_name.new.out.items = search rules in
    let out = m.scoped_out c.put_name.new.out.items c.put_code.new.out.items c.body.new.out.items c.seal.new.out.items c.in-Some.code.now (framed mixed.0) c.len-at.result at c.in_ok-put_code.ensures mixed.2 c.seal.ensures in
    m.scope_mixed (value_tree c.args.whole) (value_tree c.args.text) (remaining_pairs c.in-Some.wholes) (remaining_pairs c.in-Some-code_and_scope.texts) c.args.numbers.now c.in-Some.code.now c.args.name.now c.in-Some-2.rest.now mixed.0
    c.args.out.now.items c.put_name.new.out.items c.seal.new.out.items (m.code_text c.args.whole.sound c.in-Some.code.now _ c.in-Some.ensures.some) c.in-Some.ensures.some
    (c.in-Some-code_and_scope.ensures.some ∙ ap (λ (s : List ℕ). code_scope s (fields_of (remaining_pairs c.in-Some-code_and_scope.texts))) same) mixed.1 (rw c.type_byte.ensures at c.in_ok-put_name.ensures) out
