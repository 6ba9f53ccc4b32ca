use Rattle.std.proofs.Common.{◌+◌, ◌∷◌, [], drop, IfOk, sym, subst, ◌∙◌, arith}
use Rattle.bd_value.specs.Tree.{Tree}
use Rattle.bd_value.specs.declared.node.Kind.{Kind}
use Rattle.bd_bson_view.specs.declared.raw_parts.ElementType.TheVariants.{Kept}
use Rattle.bd_bson_view.specs.Spelling.{as_double}
use Rattle.bd_bson_check.proofs.FirstFaultLemmas.{IsBytes-drop}
use Rattle.bd_extjson_text.proofs.BufferLemmas.{goes_on, prefix, rises, splits, still_unchanged}
use Rattle.bd_wide_dump.specs.inside.Begins.{HasValue, AppendsBy}
use Rattle.bd_wide_dump.specs.inside.Indents.{IsLaidText}
use Rattle.bd_wide_dump.proofs.ElementLemmas.{byte_there}
use Rattle.bd_wide_dump.proofs.IndentLemmas as n
use Rattle.bd_wide_dump.proofs.LineLemmas as l
use Rattle.bd_wide_dump.proofs.ValueLemmas as v
use Rattle.bd_wide_dump.proofs.indent.+indented.Goals as goal

-- ---- the elements of a document

pub indent_fields-loop-element-init : goal.indent_fields-loop-element-init
indent_fields-loop-element-init t c =
    let put = c.in_ok-at.ensures.text in
    let old = c.args.out.now.items in
    record {
      goes = n.fields_laid c.args.format c.args.level c.args.bytes.now c.args.start _ _ put.0;
      unchanged = prefix c.args.end c.in_ok-at.at old (123 ∷ []) c.append_separator.new.out.items c.requires.buffer put.0;
      inside = put.1;
      after = rises c.args.end c.in_ok-at.at old (123 ∷ []) c.append_separator.new.out.items c.requires.buffer put.0;
      behind = omega arith;
    }

pub indent_fields-element_at-requires-clause-elements : goal.indent_fields-element_at-requires-clause-elements
indent_fields-element_at-requires-clause-elements t c = (c.loop-element.invariant.goes c.requires.elements).0

pub indent_fields-overflow_add-inner : goal.indent_fields-overflow_add-inner
indent_fields-overflow_add-inner t c =
    let i = c.loop-element.invariant in
    let there = byte_there c.args.bytes.now c.loop-element.next (i.goes c.requires.elements).0 in
    omega (arith, there, i.behind, c.requires.level, c.requires.short)

pub indent_fields-indent_value-requires : goal.indent_fields-indent_value-requires
indent_fields-indent_value-requires t c =
    let x = c.in-Some.ensures.some (c.loop-element.invariant.goes c.requires.elements).0 in
    let behind = c.loop-element.invariant.behind in
    let e = c.decreases in
    (omega arith, (c.requires.short, (x.inside, ((x.tree, x.here), (omega (arith, x.before, c.requires.level), c.in_ok-at-2.ensures.capacity)))))

pub indent_fields-loop-element-smaller : goal.indent_fields-loop-element-smaller
indent_fields-loop-element-smaller t c =
    let x = c.in-Some.ensures.some (c.loop-element.invariant.goes c.requires.elements).0 in
    omega arith

pub indent_fields-returns-in_err-at-2-clause-err : goal.indent_fields-returns-in_err-at-2-clause-err
indent_fields-returns-in_err-at-2-clause-err t c =
    let i = c.loop-element in
    l.on_err c.from_residual-in_err-at-2.result (splits c.args.end i.at c.append_label.new.out.items i.out.items i.invariant.after c.in_err-at-2.ensures.text ∙ i.invariant.unchanged)

pub indent_fields-returns-in_err-at-3-clause-err : goal.indent_fields-returns-in_err-at-3-clause-err
indent_fields-returns-in_err-at-3-clause-err t c =
    let i = c.loop-element in
    l.on_err c.from_residual-in_err-at-3.result
    (still_unchanged c.args.end i.at c.args.out.now.items i.out.items i.invariant.after i.invariant.inside i.invariant.unchanged c.in_ok-at-2.at c.append_label.new.out.items
    c.indent_value.new.out.items _ c.in_ok-at-2.ensures.text.0 c.in_err-at-3.ensures.err)

pub indent_fields-loop-element-preserved : goal.indent_fields-loop-element-preserved
indent_fields-loop-element-preserved t c =
    let i = c.loop-element in
    let x = c.in-Some.ensures.some (i.invariant.goes c.requires.elements).0 in
    let w = c.in_ok-at-3.ensures.text x.tree x.here in
    let behind = i.invariant.behind in
    let on = goes_on c.args.end i.at c.args.out.now.items i.out.items i.invariant.after i.invariant.inside i.invariant.unchanged c.in_ok-at-2.at c.in_ok-at-3.at
    c.append_label.new.out.items c.indent_value.new.out.items _ w.text c.in_ok-at-2.ensures.text.0 w.written in
    record {
      goes = n.fields_laid_on c.args.format c.args.level c.args.bytes.now c.args.start i.next c.in-Some.element.start c.in-Some.element.next c.in-Some.element.typed c.in-Some.element.name.now i.later _ _
          c.append_label.new.out.items c.indent_value.new.out.items c.in_ok-at-2.at c.in_ok-at-3.at c.in-Some.ensures.some c.in_ok-at-3.ensures.text i.invariant.goes c.in_ok-at-2.ensures.text.0;
      unchanged = on.0;
      inside = w.inside;
      after = on.1;
      behind = omega arith;
    }

pub indent_fields-returns-clause-text : goal.indent_fields-returns-clause-text
indent_fields-returns-clause-text t c =
    let i = c.loop-element in
    n.fields_laid_done c.args.format c.args.level c.args.bytes.now c.args.start i.next i.later c.args.out.now.items i.out.items c.append_closing.new.out.items c.args.end i.at c.append_closing.result
    c.in_default.ensures.none i.invariant.goes c.append_closing.ensures

pub indent_fields-returns-clause-err : goal.indent_fields-returns-clause-err
indent_fields-returns-clause-err t c =
    let i = c.loop-element in
    l.kept c.args.end i.at c.args.out.now.items i.out.items c.append_closing.new.out.items _ c.append_closing.result i.invariant.after i.invariant.unchanged c.append_closing.ensures

-- ---- the elements of an array

pub indent_items-loop-element-init : goal.indent_items-loop-element-init
indent_items-loop-element-init t c =
    let put = c.in_ok-at.ensures.text in
    let old = c.args.out.now.items in
    record {
      goes = n.items_laid c.args.format c.args.level c.args.bytes.now c.args.start _ _ put.0;
      unchanged = prefix c.args.end c.in_ok-at.at old (91 ∷ []) c.append_separator.new.out.items c.requires.buffer put.0;
      inside = put.1;
      after = rises c.args.end c.in_ok-at.at old (91 ∷ []) c.append_separator.new.out.items c.requires.buffer put.0;
      behind = omega arith;
    }

pub indent_items-element_at-requires-clause-elements : goal.indent_items-element_at-requires-clause-elements
indent_items-element_at-requires-clause-elements t c = (c.loop-element.invariant.goes c.requires.elements).0

pub indent_items-overflow_add-inner : goal.indent_items-overflow_add-inner
indent_items-overflow_add-inner t c =
    let i = c.loop-element.invariant in
    let there = byte_there c.args.bytes.now c.loop-element.next (i.goes c.requires.elements).0 in
    omega (arith, there, i.behind, c.requires.level, c.requires.short)

pub indent_items-indent_value-requires : goal.indent_items-indent_value-requires
indent_items-indent_value-requires t c =
    let x = c.in-Some.ensures.some (c.loop-element.invariant.goes c.requires.elements).0 in
    let behind = c.loop-element.invariant.behind in
    let e = c.decreases in
    (omega arith, (c.requires.short, (x.inside, ((x.tree, x.here), (omega (arith, x.before, c.requires.level), c.in_ok-at-2.ensures.capacity)))))

pub indent_items-loop-element-smaller : goal.indent_items-loop-element-smaller
indent_items-loop-element-smaller t c =
    let x = c.in-Some.ensures.some (c.loop-element.invariant.goes c.requires.elements).0 in
    omega arith

pub indent_items-returns-in_err-at-2-clause-err : goal.indent_items-returns-in_err-at-2-clause-err
indent_items-returns-in_err-at-2-clause-err t c =
    let i = c.loop-element in
    l.on_err c.from_residual-in_err-at-2.result (splits c.args.end i.at c.append_item.new.out.items i.out.items i.invariant.after c.in_err-at-2.ensures.text ∙ i.invariant.unchanged)

pub indent_items-returns-in_err-at-3-clause-err : goal.indent_items-returns-in_err-at-3-clause-err
indent_items-returns-in_err-at-3-clause-err t c =
    let i = c.loop-element in
    l.on_err c.from_residual-in_err-at-3.result
    (still_unchanged c.args.end i.at c.args.out.now.items i.out.items i.invariant.after i.invariant.inside i.invariant.unchanged c.in_ok-at-2.at c.append_item.new.out.items
    c.indent_value.new.out.items _ c.in_ok-at-2.ensures.text.0 c.in_err-at-3.ensures.err)

pub indent_items-loop-element-preserved : goal.indent_items-loop-element-preserved
indent_items-loop-element-preserved t c =
    let i = c.loop-element in
    let x = c.in-Some.ensures.some (i.invariant.goes c.requires.elements).0 in
    let w = c.in_ok-at-3.ensures.text x.tree x.here in
    let behind = i.invariant.behind in
    let on = goes_on c.args.end i.at c.args.out.now.items i.out.items i.invariant.after i.invariant.inside i.invariant.unchanged c.in_ok-at-2.at c.in_ok-at-3.at
    c.append_item.new.out.items c.indent_value.new.out.items _ w.text c.in_ok-at-2.ensures.text.0 w.written in
    record {
      goes = n.items_laid_on c.args.format c.args.level c.args.bytes.now c.args.start i.next c.in-Some.element.start c.in-Some.element.next c.in-Some.element.typed c.in-Some.element.name.now i.later _ _
          c.append_item.new.out.items c.indent_value.new.out.items c.in_ok-at-2.at c.in_ok-at-3.at c.in-Some.ensures.some c.in_ok-at-3.ensures.text i.invariant.goes c.in_ok-at-2.ensures.text.0;
      unchanged = on.0;
      inside = w.inside;
      after = on.1;
      behind = omega arith;
    }

pub indent_items-returns-clause-text : goal.indent_items-returns-clause-text
indent_items-returns-clause-text t c =
    let i = c.loop-element in
    n.items_laid_done c.args.format c.args.level c.args.bytes.now c.args.start i.next i.later c.args.out.now.items i.out.items c.append_closing.new.out.items c.args.end i.at c.append_closing.result
    c.in_default.ensures.none i.invariant.goes c.append_closing.ensures

pub indent_items-returns-clause-err : goal.indent_items-returns-clause-err
indent_items-returns-clause-err t c =
    let i = c.loop-element in
    l.kept c.args.end i.at c.args.out.now.items i.out.items c.append_closing.new.out.items _ c.append_closing.result i.invariant.after i.invariant.unchanged c.append_closing.ensures

-- ---- values

pub indent_kept-indent_fields-requires : goal.indent_kept-indent_fields-requires
indent_kept-indent_fields-requires t c =
    let P : Kind → Type 0 = λ k. HasValue (Kept k) (drop c.args.start c.args.bytes.now) c.requires.value.0 in
    let d = v.document_here c.args.bytes.now c.args.start c.requires.value.0 (subst P c.in-Doc.is c.requires.value.1) in
    let b = byte_there c.args.bytes.now (c.args.start + 4) d.0 in
    let e = c.decreases in
    (omega arith, (c.requires.short, (d.0, (omega (arith, c.requires.level), omega arith))))

pub indent_kept-indent_items-requires : goal.indent_kept-indent_items-requires
indent_kept-indent_items-requires t c =
    let P : Kind → Type 0 = λ k. HasValue (Kept k) (drop c.args.start c.args.bytes.now) c.requires.value.0 in
    let d = v.array_here c.args.bytes.now c.args.start c.requires.value.0 (subst P c.in-Array.is c.requires.value.1) in
    let b = byte_there c.args.bytes.now (c.args.start + 4) d.0 in
    let e = c.decreases in
    (omega arith, (c.requires.short, (d.0, (omega (arith, c.requires.level), omega arith))))

pub indent_kept-returns-in-Doc-clause-text : goal.indent_kept-returns-in-Doc-clause-text
indent_kept-returns-in-Doc-clause-text t c = λ tree h.
    let P : Kind → Type 0 = λ k. HasValue (Kept k) (drop c.args.start c.args.bytes.now) tree in
    let d = v.document_here c.args.bytes.now c.args.start tree (subst P c.in-Doc.is h) in
    let Q : Tree → Type 0 = λ u. IfOk c.indent_fields.result (λ to. AppendsBy (IsLaidText c.args.format c.args.level u) c.args.out.now.items c.args.end to c.indent_fields.new.out.items) in
    subst Q (sym d.1) (c.indent_fields.ensures.text d.0)

pub indent_kept-returns-in-Array-clause-text : goal.indent_kept-returns-in-Array-clause-text
indent_kept-returns-in-Array-clause-text t c = λ tree h.
    let P : Kind → Type 0 = λ k. HasValue (Kept k) (drop c.args.start c.args.bytes.now) tree in
    let d = v.array_here c.args.bytes.now c.args.start tree (subst P c.in-Array.is h) in
    let Q : Tree → Type 0 = λ u. IfOk c.indent_items.result (λ to. AppendsBy (IsLaidText c.args.format c.args.level u) c.args.out.now.items c.args.end to c.indent_items.new.out.items) in
    subst Q (sym d.1) (c.indent_items.ensures.text d.0)

pub indent_value-returns-in-Double-clause-text : goal.indent_value-returns-in-Double-clause-text
indent_value-returns-in-Double-clause-text t c = λ tree h.
    n.number_laid c.args.format c.args.level as_double c.args.typed (drop c.args.start c.args.bytes.now) c.args.out.now.items c.args.end c.indent_double.new.out.items tree c.indent_double.result
    v.double_is_wide c.in-Double.is (IsBytes-drop c.args.start c.args.bytes.now (λ i. (c.type_inv.bytes i).fits)) h c.indent_double.ensures.text
