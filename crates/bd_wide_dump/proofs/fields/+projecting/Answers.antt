use Rattle.std.proofs.Common.{◌≡◌, ◌==◌, ◌∙◌, ℕ, List, [], length, vec_len, true, false, true≢false, ap, sym, subst, OnOk, arith, rules}
use Rattle.bd_wide_dump.specs.declared.fields.Field.{Field}
use Rattle.bd_wide_dump.specs.{inside.Projects.paths_of, Projected.ends, Projected.projected_value}
use Rattle.bd_wide_dump.specs.inside.Projects.{AddsElement}
use Rattle.bd_wide_dump.proofs.ElementLemmas.{byte_there}
use Rattle.bd_wide_dump.proofs.FieldsLemmas as f
use Rattle.bd_wide_dump.proofs.fields.+projecting.Goals as goal

-- ---- the elements of a document or an array

pub append_elements-loop-element-init : goal.append_elements-loop-element-init
append_elements-loop-element-init t c =
    record {
      goes = f.begins c.args.is_array (paths_of c.args.fields.now) c.args.bytes.now c.args.start c.args.out.now.items _ c.in_ok-begun.ensures.begun;
      behind = omega arith;
    }

pub append_elements-element_at-requires-clause-elements : goal.append_elements-element_at-requires-clause-elements
append_elements-element_at-requires-clause-elements t c = (c.loop-element.invariant.goes c.requires.elements).0

pub append_elements-append_element-requires : goal.append_elements-append_element-requires
append_elements-append_element-requires t c =
    let g = c.loop-element.invariant.goes c.requires.elements in
    let x = c.in-Some.ensures.some g.0 in
    let behind = c.loop-element.invariant.behind in
    let e = c.decreases in
    (omega arith, (c.requires.short, (g.0.fields, x)))

pub append_elements-loop-element-smaller : goal.append_elements-loop-element-smaller
append_elements-loop-element-smaller t c =
    let x = c.in-Some.ensures.some (c.loop-element.invariant.goes c.requires.elements).0 in
    omega arith

pub append_elements-loop-element-preserved : goal.append_elements-loop-element-preserved
append_elements-loop-element-preserved t c =
    let i = c.loop-element in
    let x = c.in-Some.ensures.some (i.invariant.goes c.requires.elements).0 in
    let behind = i.invariant.behind in
    record {
      goes = f.goes_on c.args.is_array (paths_of c.args.fields.now) c.args.bytes.now c.args.start c.args.out.now.items i.next c.in-Some.element.start c.in-Some.element.next
          c.in-Some.element.typed c.in-Some.element.name.now i.out.items c.append_element.new.out.items i.invariant.goes c.in-Some.ensures.some c.in_ok-append_element.ensures;
      behind = omega arith;
    }

pub append_elements-end_body-requires : goal.append_elements-end_body-requires
append_elements-end_body-requires t c =
    let i = c.loop-element in
    let size = f.opened c.args.is_array (paths_of c.args.fields.now) c.args.bytes.now c.args.start c.args.out.now.items i.next c.in_ok-begun.begun i.out.items
    i.invariant.goes c.requires.elements c.in_ok-begun.ensures.offset in
    search rules

pub append_elements-returns-clause-framed : goal.append_elements-returns-clause-framed
append_elements-returns-clause-framed t c =
    let i = c.loop-element in
    f.ended c.args.is_array (paths_of c.args.fields.now) c.args.bytes.now c.args.start c.args.out.now.items c.end_body.result i.next c.in_ok-begun.begun i.out.items
    c.end_body.new.out.items i.invariant.goes c.in_default.ensures.none c.in_ok-begun.ensures.offset c.end_body.ensures.ok

-- ---- an element

pub append_element-returns-then-is_array : goal.append_element-returns-then-is_array
append_element-returns-then-is_array t c = λ fs e.
    f.array_remains c.args.is_array (paths_of c.args.fields.now) [] c.args.element.now.name.now e.tree c.args.out.now.items c.append_inside.new.out.items c.append_inside.result
    c.if-is_array.true (c.append_inside.ensures fs e)

pub append_element-append_range-requires : goal.append_element-append_range-requires
append_element-append_range-requires t c =
    let x = c.requires.element.1 in
    let there = byte_there c.args.bytes.now c.args.element.now.next x.rest in
    (omega (arith, x.before, x.behind), omega (arith, there))

pub append_element-returns-then-ends : goal.append_element-returns-then-ends
append_element-returns-then-ends t c = λ fs e.
    let inner = paths_of c.in_ok-inner.inner.items in
    let all : ends inner ≡ true = ap (λ (xs : List Field). ends (paths_of xs)) (sym c.deref.ensures.value) ∙ sym c.ends.ensures ∙ c.if-ends.true in
    f.whole_remains c.args.is_array (paths_of c.args.fields.now) inner c.args.element.now.name.now e.tree c.args.out.now.items c.append_range.new.out.items
    c.if-is_array.false c.in_ok-inner.ensures all
    (f.whole_added c.args.bytes.now c.args.at fs c.args.element.now.typed c.args.element.now.name.now c.args.element.now.start c.args.element.now.next e
    c.args.out.now.items c.append_range.new.out.items c.in_ok-append_range.ensures)

pub append_element-returns : goal.append_element-returns
append_element-returns t c = λ fs e.
    let v = c.in_ok-inner.inner in
    let inner = paths_of v.items in
    let name = c.args.element.now.name.now in
    let old = c.args.out.now.items in
    let new = c.append_inside-2.new.out.items in
    let some : inner ≡ [] → ⊥ = λ none.
    let zero : vec_len v ≡ 0 = omega (arith, v.ok.0, ap (λ (xs : List Field). length xs) (f.are_no_fields v.items none)) in
    true≢false (sym (ap (λ (n : ℕ). n == 0) zero) ∙ sym c.is_empty.ensures ∙ c.if-is_empty.false) in
    let part : ends inner ≡ false = ap (λ (xs : List Field). ends (paths_of xs)) (sym c.deref.ensures.value) ∙ sym c.ends.ensures ∙ c.if-ends.false in
    f.part_remains c.args.is_array (paths_of c.args.fields.now) inner name e.tree old new c.if-is_array.false c.in_ok-inner.ensures c.append_inside-2.result some part
    (subst (λ (xs : List Field). OnOk c.append_inside-2.result (AddsElement name (projected_value (paths_of xs) e.tree) old new)) c.deref-2.ensures.value
    (c.append_inside-2.ensures fs e))

-- ---- a document or an array

pub append_inside-append_elements-requires : goal.append_inside-append_elements-requires
append_inside-append_elements-requires t c =
    let x = c.requires.element.1 in
    let there = f.elements_inside c.args.bytes.now c.args.at c.requires.element.0 c.args.element.now.typed c.args.element.now.name.now c.args.element.now.start c.args.element.now.next x
    (paths_of c.args.fields.now) c.in-Some.is_array c.in-Some.ensures in
    let e = c.decreases in
    let before = x.before in
    let inside = x.inside in
    (omega arith, (c.requires.short, there))

pub append_inside-returns : goal.append_inside-returns
append_inside-returns t c = λ fs e.
    f.inside_added c.args.bytes.now c.args.at fs c.args.element.now.typed c.args.element.now.name.now c.args.element.now.start c.args.element.now.next e
    (paths_of c.args.fields.now) c.append_elements.result c.in-Some.is_array c.args.out.now.items c.append_range.new.out.items c.append_elements.new.out.items
    c.in-Some.ensures c.in_ok-append_range.ensures c.append_elements.ensures.framed
