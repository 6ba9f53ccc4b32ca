use Rattle.std.proofs.Common.{◌+◌, ◌∷◌, [], ℕ, drop, length, IfOk, Ok, sym, ap, subst, ◌∙◌, arith}
use Rattle.bd_value.specs.Tree.{Tree}
use Rattle.bd_value.specs.declared.node.Kind.{Kind}
use Rattle.bd_bson_view.specs.declared.raw_parts.ElementType.TheVariants.{Kept}
use Rattle.bd_bson_view.specs.Raw.{value_tree}
use Rattle.bd_bson_view.specs.Sizes.{TextAt, text_of}
use Rattle.bd_bson_view.specs.Spelling.{as_double, as_decimal128}
use Rattle.bd_bson_check.proofs.FirstFaultLemmas.{IsBytes-drop}
use Rattle.bd_extjson_text.proofs.BufferLemmas.{chained, goes_on, prefix, rises, splits, still_unchanged}
use Rattle.bd_wide_dump.specs.inside.Begins.{HasValue, AppendsText}
use Rattle.bd_wide_dump.proofs.ElementLemmas.{byte_there}
use Rattle.bd_wide_dump.proofs.ValueLemmas as v
use Rattle.bd_wide_dump.proofs.LineLemmas as l
use Rattle.bd_wide_dump.proofs.line.+wide.Goals as goal

-- ---- the elements of a document

pub append_fields-loop-element-init : goal.append_fields-loop-element-init
append_fields-loop-element-init t c =
    let put = c.in_ok-at.ensures.text in
    let old = c.args.out.now.items in
    record {
      goes = l.fields_go c.args.format c.args.bytes.now c.args.start _ _ put.0;
      unchanged = prefix c.args.end c.in_ok-at.at old (123 ∷ []) c.append_separator.new.out.items c.requires.buffer put.0;
      inside = put.1;
      after = rises c.args.end c.in_ok-at.at old (123 ∷ []) c.append_separator.new.out.items c.requires.buffer put.0;
      behind = omega arith;
    }

pub append_fields-element_at-requires-clause-elements : goal.append_fields-element_at-requires-clause-elements
append_fields-element_at-requires-clause-elements t c = (c.loop-element.invariant.goes c.requires.elements).0

pub append_fields-append_value-requires : goal.append_fields-append_value-requires
append_fields-append_value-requires t c =
    let x = c.in-Some.ensures.some (c.loop-element.invariant.goes c.requires.elements).0 in
    let behind = c.loop-element.invariant.behind in
    let e = c.decreases in
    (omega arith, (c.requires.short, (x.inside, ((x.tree, x.here), c.in_ok-at-2.ensures.capacity))))

pub append_fields-loop-element-smaller : goal.append_fields-loop-element-smaller
append_fields-loop-element-smaller t c =
    let x = c.in-Some.ensures.some (c.loop-element.invariant.goes c.requires.elements).0 in
    omega arith

pub append_fields-returns-in_err-at-2-clause-err : goal.append_fields-returns-in_err-at-2-clause-err
append_fields-returns-in_err-at-2-clause-err t c =
    let i = c.loop-element in
    l.on_err c.from_residual-in_err-at-2.result (splits c.args.end i.at c.append_name.new.out.items i.out.items i.invariant.after c.in_err-at-2.ensures.text ∙ i.invariant.unchanged)

pub append_fields-returns-in_err-at-3-clause-err : goal.append_fields-returns-in_err-at-3-clause-err
append_fields-returns-in_err-at-3-clause-err t c =
    let i = c.loop-element in
    l.on_err c.from_residual-in_err-at-3.result
    (still_unchanged c.args.end i.at c.args.out.now.items i.out.items i.invariant.after i.invariant.inside i.invariant.unchanged c.in_ok-at-2.at c.append_name.new.out.items
    c.append_value.new.out.items _ c.in_ok-at-2.ensures.text.0 c.in_err-at-3.ensures.err)

pub append_fields-loop-element-preserved : goal.append_fields-loop-element-preserved
append_fields-loop-element-preserved t c =
    let i = c.loop-element in
    let x = c.in-Some.ensures.some (i.invariant.goes c.requires.elements).0 in
    let w = c.in_ok-at-3.ensures.text x.tree x.here in
    let behind = i.invariant.behind in
    let on = goes_on c.args.end i.at c.args.out.now.items i.out.items i.invariant.after i.invariant.inside i.invariant.unchanged c.in_ok-at-2.at c.in_ok-at-3.at
    c.append_name.new.out.items c.append_value.new.out.items _ w.text c.in_ok-at-2.ensures.text.0 w.written in
    record {
      goes = l.fields_go_on c.args.format c.args.bytes.now c.args.start i.next c.in-Some.element.start c.in-Some.element.next c.in-Some.element.typed c.in-Some.element.name.now i.later _ _
          c.append_name.new.out.items c.append_value.new.out.items c.in_ok-at-2.at c.in_ok-at-3.at c.in-Some.ensures.some c.in_ok-at-3.ensures.text i.invariant.goes c.in_ok-at-2.ensures.text.0;
      unchanged = on.0;
      inside = w.inside;
      after = on.1;
      behind = omega arith;
    }

pub append_fields-returns-clause-text : goal.append_fields-returns-clause-text
append_fields-returns-clause-text t c =
    let i = c.loop-element in
    l.fields_done c.args.format c.args.bytes.now c.args.start i.next i.later c.args.out.now.items i.out.items c.append_separator-2.new.out.items c.args.end i.at c.append_separator-2.result
    c.in_default.ensures.none i.invariant.goes c.append_separator-2.ensures.text

pub append_fields-returns-clause-err : goal.append_fields-returns-clause-err
append_fields-returns-clause-err t c =
    let i = c.loop-element in
    l.kept c.args.end i.at c.args.out.now.items i.out.items c.append_separator-2.new.out.items (125 ∷ []) c.append_separator-2.result i.invariant.after i.invariant.unchanged c.append_separator-2.ensures.text

-- ---- the elements of an array

pub append_items-loop-element-init : goal.append_items-loop-element-init
append_items-loop-element-init t c =
    let put = c.in_ok-at.ensures.text in
    let old = c.args.out.now.items in
    record {
      goes = l.items_go c.args.format c.args.bytes.now c.args.start _ _ put.0;
      unchanged = prefix c.args.end c.in_ok-at.at old (91 ∷ []) c.append_separator.new.out.items c.requires.buffer put.0;
      inside = put.1;
      after = rises c.args.end c.in_ok-at.at old (91 ∷ []) c.append_separator.new.out.items c.requires.buffer put.0;
      behind = omega arith;
    }

pub append_items-element_at-requires-clause-elements : goal.append_items-element_at-requires-clause-elements
append_items-element_at-requires-clause-elements t c = (c.loop-element.invariant.goes c.requires.elements).0

pub append_items-append_value-requires : goal.append_items-append_value-requires
append_items-append_value-requires t c =
    let x = c.in-Some.ensures.some (c.loop-element.invariant.goes c.requires.elements).0 in
    let behind = c.loop-element.invariant.behind in
    let e = c.decreases in
    (omega arith, (c.requires.short, (x.inside, ((x.tree, x.here), c.in_ok-at-2.ensures.capacity))))

pub append_items-loop-element-smaller : goal.append_items-loop-element-smaller
append_items-loop-element-smaller t c =
    let x = c.in-Some.ensures.some (c.loop-element.invariant.goes c.requires.elements).0 in
    omega arith

pub append_items-returns-in_err-at-2-clause-err : goal.append_items-returns-in_err-at-2-clause-err
append_items-returns-in_err-at-2-clause-err t c =
    let i = c.loop-element in
    l.on_err c.from_residual-in_err-at-2.result (splits c.args.end i.at c.append_separator-in-Some.new.out.items i.out.items i.invariant.after c.in_err-at-2.ensures.text ∙ i.invariant.unchanged)

pub append_items-returns-in_err-at-3-clause-err : goal.append_items-returns-in_err-at-3-clause-err
append_items-returns-in_err-at-3-clause-err t c =
    let i = c.loop-element in
    l.on_err c.from_residual-in_err-at-3.result
    (still_unchanged c.args.end i.at c.args.out.now.items i.out.items i.invariant.after i.invariant.inside i.invariant.unchanged c.in_ok-at-2.at c.append_separator-in-Some.new.out.items
    c.append_value.new.out.items _ c.in_ok-at-2.ensures.text.0 c.in_err-at-3.ensures.err)

pub append_items-loop-element-preserved : goal.append_items-loop-element-preserved
append_items-loop-element-preserved t c =
    let i = c.loop-element in
    let x = c.in-Some.ensures.some (i.invariant.goes c.requires.elements).0 in
    let w = c.in_ok-at-3.ensures.text x.tree x.here in
    let behind = i.invariant.behind in
    let on = goes_on c.args.end i.at c.args.out.now.items i.out.items i.invariant.after i.invariant.inside i.invariant.unchanged c.in_ok-at-2.at c.in_ok-at-3.at
    c.append_separator-in-Some.new.out.items c.append_value.new.out.items _ w.text c.in_ok-at-2.ensures.text.0 w.written in
    record {
      goes = l.items_go_on c.args.format c.args.bytes.now c.args.start i.next c.in-Some.element.start c.in-Some.element.next c.in-Some.element.typed c.in-Some.element.name.now i.later _ _
          c.append_separator-in-Some.new.out.items c.append_value.new.out.items c.in_ok-at-2.at c.in_ok-at-3.at c.in-Some.ensures.some c.in_ok-at-3.ensures.text i.invariant.goes c.in_ok-at-2.ensures.text.0;
      unchanged = on.0;
      inside = w.inside;
      after = on.1;
      behind = omega arith;
    }

pub append_items-returns-clause-text : goal.append_items-returns-clause-text
append_items-returns-clause-text t c =
    let i = c.loop-element in
    l.items_done c.args.format c.args.bytes.now c.args.start i.next i.later c.args.out.now.items i.out.items c.append_separator-2.new.out.items c.args.end i.at c.append_separator-2.result
    c.in_default.ensures.none i.invariant.goes c.append_separator-2.ensures.text

pub append_items-returns-clause-err : goal.append_items-returns-clause-err
append_items-returns-clause-err t c =
    let i = c.loop-element in
    l.kept c.args.end i.at c.args.out.now.items i.out.items c.append_separator-2.new.out.items (93 ∷ []) c.append_separator-2.result i.invariant.after i.invariant.unchanged c.append_separator-2.ensures.text

-- ---- values

pub append_value-returns-in-Double-clause-text : goal.append_value-returns-in-Double-clause-text
append_value-returns-in-Double-clause-text t c = λ tree h.
    v.wide_appended {E = ℕ} c.args.format as_double c.args.typed (drop c.args.start c.args.bytes.now) c.args.out.now.items c.args.end c.put_double_there.new.out.items tree (Ok c.put_double_there.result)
    v.double_is_wide c.in-Double.is (IsBytes-drop c.args.start c.args.bytes.now (λ i. (c.type_inv.bytes i).fits)) h c.put_double_there.ensures

pub append_value-returns-in-Decimal128-clause-text : goal.append_value-returns-in-Decimal128-clause-text
append_value-returns-in-Decimal128-clause-text t c = λ tree h.
    v.wide_appended c.args.format as_decimal128 c.args.typed (drop c.args.start c.args.bytes.now) c.args.out.now.items c.args.end c.append_decimal128.new.out.items tree c.append_decimal128.result
    v.decimal128_is_wide c.in-Decimal128.is (IsBytes-drop c.args.start c.args.bytes.now (λ i. (c.type_inv.bytes i).fits)) h c.append_decimal128.ensures.text

pub append_kept-append_fields-requires : goal.append_kept-append_fields-requires
append_kept-append_fields-requires t c =
    let P : Kind → Type 0 = λ k. HasValue (Kept k) (drop c.args.start c.args.bytes.now) c.requires.value.0 in
    let d = v.document_here c.args.bytes.now c.args.start c.requires.value.0 (subst P c.in-Doc.is c.requires.value.1) in
    let b = byte_there c.args.bytes.now (c.args.start + 4) d.0 in
    let e = c.decreases in
    (omega arith, (c.requires.short, (d.0, omega arith)))

pub append_kept-append_items-requires : goal.append_kept-append_items-requires
append_kept-append_items-requires t c =
    let P : Kind → Type 0 = λ k. HasValue (Kept k) (drop c.args.start c.args.bytes.now) c.requires.value.0 in
    let d = v.array_here c.args.bytes.now c.args.start c.requires.value.0 (subst P c.in-Array.is c.requires.value.1) in
    let b = byte_there c.args.bytes.now (c.args.start + 4) d.0 in
    let e = c.decreases in
    (omega arith, (c.requires.short, (d.0, omega arith)))

pub append_kept-there-requires : goal.append_kept-there-requires
append_kept-there-requires t c = record {
  short = omega (arith, c.requires.short);
  inside = c.requires.inside;
  sound = v.sound_here c.args.kind (drop c.args.start c.args.bytes.now) c.in_default.not-Doc c.in_default.not-Array c.in_default.not-CodeScope
      (IsBytes-drop c.args.start c.args.bytes.now (λ i. (c.type_inv.bytes i).fits)) c.requires.value.0 c.requires.value.1;
}

pub append_kept-returns-in-Doc-clause-text : goal.append_kept-returns-in-Doc-clause-text
append_kept-returns-in-Doc-clause-text t c = λ tree h.
    let P : Kind → Type 0 = λ k. HasValue (Kept k) (drop c.args.start c.args.bytes.now) tree in
    let d = v.document_here c.args.bytes.now c.args.start tree (subst P c.in-Doc.is h) in
    let Q : Tree → Type 0 = λ u. IfOk c.append_fields.result (λ to. AppendsText c.args.format u c.args.out.now.items c.args.end to c.append_fields.new.out.items) in
    subst Q (sym d.1) (c.append_fields.ensures.text d.0)

pub append_kept-returns-in-Array-clause-text : goal.append_kept-returns-in-Array-clause-text
append_kept-returns-in-Array-clause-text t c = λ tree h.
    let P : Kind → Type 0 = λ k. HasValue (Kept k) (drop c.args.start c.args.bytes.now) tree in
    let d = v.array_here c.args.bytes.now c.args.start tree (subst P c.in-Array.is h) in
    let Q : Tree → Type 0 = λ u. IfOk c.append_items.result (λ to. AppendsText c.args.format u c.args.out.now.items c.args.end to c.append_items.new.out.items) in
    subst Q (sym d.1) (c.append_items.ensures.text d.0)

pub append_kept-append_kind-requires : goal.append_kept-append_kind-requires
append_kept-append_kind-requires t c =
    let fits = IsBytes-drop c.args.start c.args.bytes.now (λ i. (c.type_inv.bytes i).fits) in
    let here = drop c.args.start c.args.bytes.now in
    record {
      scalar = (_, v.plain_viewed c.args.kind here c.in_default.not-Doc c.in_default.not-Array c.in_default.not-CodeScope fits (value_tree c.there.result) c.there.ensures.meaning c.requires.value.0 c.requires.value.1);
      buffer = c.requires.buffer;
    }

pub append_kept-returns-in-Canonical-clause-text : goal.append_kept-returns-in-Canonical-clause-text
append_kept-returns-in-Canonical-clause-text t c = λ tree h.
    v.plain_appended c.args.kind (drop c.args.start c.args.bytes.now) c.in_default.not-Doc c.in_default.not-Array c.in_default.not-CodeScope
    (IsBytes-drop c.args.start c.args.bytes.now (λ i. (c.type_inv.bytes i).fits)) c.args.format (value_tree c.there.result) c.args.out.now.items c.args.end c.append_kind.new.out.items c.append_kind.result
    c.there.ensures.meaning c.append_kind.ensures.text tree h

-- ---- code with scope

pub append_scope-overflow_add-start : goal.append_scope-overflow_add-start
append_scope-overflow_add-start t c =
    let h = v.code_here c.args.bytes.now c.args.start c.requires.value.0 c.requires.value.1 in
    let inside = h.inside in
    let short = c.requires.short in
    omega arith

pub append_scope-split_at-requires : goal.append_scope-split_at-requires
append_scope-split_at-requires t c =
    let h = v.code_here c.args.bytes.now c.args.start c.requires.value.0 c.requires.value.1 in
    let inside = h.inside in
    omega arith

pub append_scope-text-code-requires : goal.append_scope-text-code-requires
append_scope-text-code-requires t c =
    let h = v.code_here c.args.bytes.now c.args.start c.requires.value.0 c.requires.value.1 in
    subst TextAt (sym c.split_at.ensures.back) h.reads

pub append_scope-append_fields-requires : goal.append_scope-append_fields-requires
append_scope-append_fields-requires t c =
    let h = v.code_here c.args.bytes.now c.args.start c.requires.value.0 c.requires.value.1 in
    let is = c.text-code.ensures.text ∙ ap text_of c.split_at.ensures.back ∙ h.text_is in
    let e = v.code_as c.args.bytes.now c.args.start c.requires.value.0 h c.text-code.result.now is in
    let b = byte_there c.args.bytes.now (c.args.start + 13 + length c.text-code.result.now) e.0 in
    let d = c.decreases in
    (omega arith, (c.requires.short, (e.0, c.in_ok-at-2.ensures.text.1)))

pub append_scope-append_few-requires-2 : goal.append_scope-append_few-requires-2
append_scope-append_few-requires-2 t c =
    let h = v.code_here c.args.bytes.now c.args.start c.requires.value.0 c.requires.value.1 in
    let is = c.text-code.ensures.text ∙ ap text_of c.split_at.ensures.back ∙ h.text_is in
    let e = v.code_as c.args.bytes.now c.args.start c.requires.value.0 h c.text-code.result.now is in
    (c.in_ok-at-3.ensures.text e.0).inside

pub append_scope-returns-clause-text : goal.append_scope-returns-clause-text
append_scope-returns-clause-text t c = λ tree x.
    let h = v.code_here c.args.bytes.now c.args.start tree x in
    let is = c.text-code.ensures.text ∙ ap text_of c.split_at.ensures.back ∙ h.text_is in
    let e = v.code_as c.args.bytes.now c.args.start tree h c.text-code.result.now is in
    l.scope_done c.args.format c.text-code.result.now tree e.0.fields c.args.out.now.items c.append_led.new.out.items c.append_few.new.out.items c.append_fields.new.out.items
    c.append_few-2.new.out.items c.args.end c.in_ok-at.at c.in_ok-at-2.at c.in_ok-at-3.at c.append_few-2.result e.1 c.in_ok-at.ensures.0 c.in_ok-at-2.ensures.text.0
    (c.in_ok-at-3.ensures.text e.0) c.append_few-2.ensures.text

pub append_scope-returns-in_err-at-2-clause-err : goal.append_scope-returns-in_err-at-2-clause-err
append_scope-returns-in_err-at-2-clause-err t c =
    l.on_err c.from_residual-in_err-at-2.result (prefix c.args.end c.in_ok-at.at c.args.out.now.items _ c.append_few.new.out.items c.requires.buffer
    (c.in_err-at-2.ensures.text ∙ c.in_ok-at.ensures.0))

pub append_scope-returns-in_err-at-3-clause-err : goal.append_scope-returns-in_err-at-3-clause-err
append_scope-returns-in_err-at-3-clause-err t c =
    let two = chained c.args.end c.in_ok-at.at c.in_ok-at-2.at c.args.out.now.items _ _ _ _ c.in_ok-at.ensures.0 c.in_ok-at-2.ensures.text.0 in
    l.on_err c.from_residual-in_err-at-3.result (prefix c.args.end c.in_ok-at-2.at c.args.out.now.items _ c.append_fields.new.out.items c.requires.buffer
    (c.in_err-at-3.ensures.err ∙ two))

pub append_scope-returns-clause-err : goal.append_scope-returns-clause-err
append_scope-returns-clause-err t c =
    let h = v.code_here c.args.bytes.now c.args.start c.requires.value.0 c.requires.value.1 in
    let is = c.text-code.ensures.text ∙ ap text_of c.split_at.ensures.back ∙ h.text_is in
    let e = v.code_as c.args.bytes.now c.args.start c.requires.value.0 h c.text-code.result.now is in
    let two = chained c.args.end c.in_ok-at.at c.in_ok-at-2.at c.args.out.now.items _ _ _ _ c.in_ok-at.ensures.0 c.in_ok-at-2.ensures.text.0 in
    let w = c.in_ok-at-3.ensures.text e.0 in
    let all = chained c.args.end c.in_ok-at-2.at c.in_ok-at-3.at c.args.out.now.items _ _ _ _ two w.written in
    l.kept c.args.end c.in_ok-at-3.at c.args.out.now.items c.append_fields.new.out.items c.append_few-2.new.out.items (125 ∷ []) c.append_few-2.result
    (rises c.args.end c.in_ok-at-3.at c.args.out.now.items _ c.append_fields.new.out.items c.requires.buffer all)
    (prefix c.args.end c.in_ok-at-3.at c.args.out.now.items _ c.append_fields.new.out.items c.requires.buffer all) c.append_few-2.ensures.text
