use Rattle.std.proofs.Common.{◌∙◌, ℕ, drop, map, sym, ap, ap₂, subst, arith}
use Rattle.bd_value.specs.Tree.{Doc, array, code_scope, doc, fields_of, fields_size, items_of, tree_size, values_of}
use Rattle.bd_value.specs.Fits.{Fits}
use Rattle.bd_value.specs.View.{node_parts, node_tree, pairs, tree_of}
use Rattle.std.proofs.lemmas.List.{map-append}
use Rattle.bd_value.proofs.PartsLemmas.{parts_smaller}
use Rattle.bd_value.proofs.ViewLemmas.{tree_of-Array, tree_of-CodeScope, tree_of-Doc}
use Rattle.bd_wide_rank.specs.Table.{worths}
use Rattle.bd_wide_query.specs.Tagged.{fields_count, items_count, tagged_fields, tagged_items}
use Rattle.bd_wide_query.specs.inside.Coding.{codes_of_tags}
use Rattle.bd_wide_query.specs.inside.Role.{items_at, pairs_at}
use Rattle.bd_wide_query.proofs.StepLemmas as w
use Rattle.bd_wide_query.proofs.coded.+coding.Goals as goal

pub code_pairs-code_value-requires : goal.code_pairs-code_value-requires
code_pairs-code_value-requires t c =
    let size = ap (λ (d : Doc). fields_size (fields_of d)) c.in-Some.ensures.some in
    let smaller = c.loop-name.invariant.fewer in
    let e = c.decreases in
    omega arith

pub code_pairs-returns-in_default-2 : goal.code_pairs-returns-in_default-2
code_pairs-returns-in_default-2 t c =
    let unfit = rw c.in_default-2.is at c.in_ok-value.ensures in
    w.pairs_stop _ _ _ _ _ _ _ _ _ _ _ _ _ _ c.in-Some.ensures.some c.beside.ensures c.value.ensures c.loop-name.invariant.so_far unfit

pub code_pairs-loop-name-preserved : goal.code_pairs-loop-name-preserved
code_pairs-loop-name-preserved t c =
    let given = rw c.in-Some-2.is at c.in_ok-value.ensures in
    let size = ap (λ (d : Doc). fields_size (fields_of d)) c.in-Some.ensures.some in
    let smaller = c.loop-name.invariant.fewer in
    record {
      so_far = w.pairs_go _ _ _ _ _ _ _ _ _ _ _ _ _ _ c.in-Some.ensures.some c.beside.ensures c.value.ensures c.loop-name.invariant.so_far _ _ _ _ c.in_ok-push.ensures.ok c.in_ok-from_str.ensures.ok given.0 given.1;
      taken = w.pairs_taken _ _ _ _ _ _ _ _ _ _ _ _ _ _ c.in-Some.ensures.some c.beside.ensures c.value.ensures c.loop-name.invariant.so_far _ _ given.1 c.loop-name.invariant.taken;
      fewer = omega arith;
    }

pub code_document-code_pairs-requires : goal.code_document-code_pairs-requires
code_document-code_pairs-requires t c =
    let smaller = parts_smaller (node_tree c.args.whole) (node_parts c.parts-wholes.result) c.parts-wholes.ensures.parts in
    let e = c.decreases in
    omega arith

pub code_array-code_items-requires : goal.code_array-code_items-requires
code_array-code_items-requires t c =
    let smaller = parts_smaller (node_tree c.args.whole) (node_parts c.parts-wholes.result) c.parts-wholes.ensures.parts in
    let e = c.decreases in
    omega arith

pub code_document-returns-in_default : goal.code_document-returns-in_default
code_document-returns-in_default t c =
    let unfit = rw c.in_default.is at c.in_ok-document.ensures in
    let at = w.document_at c.args.longs _ c.args.role c.args.rest.now.numbers.now (node_tree c.args.whole) (node_tree c.args.text) (node_parts c.parts-wholes.result) (node_parts c.parts-texts.result) c.pairs-kind.result
    c.requires.whole c.requires.text c.parts-wholes.ensures.parts c.parts-texts.ensures.parts c.pairs-kind.ensures in
    λ fits. unfit (subst Fits at.0 fits)

pub code_document-returns : goal.code_document-returns
code_document-returns t c =
    let given = rw c.in-Some.is at c.in_ok-document.ensures in
    let at = w.document_at c.args.longs _ c.args.role c.args.rest.now.numbers.now (node_tree c.args.whole) (node_tree c.args.text) (node_parts c.parts-wholes.result) (node_parts c.parts-texts.result) c.pairs-kind.result
    c.requires.whole c.requires.text c.parts-wholes.ensures.parts c.parts-texts.ensures.parts c.pairs-kind.ensures in
    (tree_of-Doc _ ∙ ap doc given.0 ∙ sym at.0, given.1 ∙ ap (λ (k : ℕ). drop k c.args.rest.now.numbers.now) (sym at.1))

pub code_array-returns-in_default : goal.code_array-returns-in_default
code_array-returns-in_default t c =
    let unfit = rw c.in_default.is at c.in_ok-items.ensures in
    let at = w.array_at c.args.longs _ c.args.role c.args.rest.now.numbers.now (node_tree c.args.whole) (node_tree c.args.text) (node_parts c.parts-wholes.result) (node_parts c.parts-texts.result) c.item.result
    c.requires.whole c.requires.text c.parts-wholes.ensures.parts c.parts-texts.ensures.parts c.item.ensures in
    λ fits. unfit (subst Fits at.0 fits)

pub code_array-returns : goal.code_array-returns
code_array-returns t c =
    let given = rw c.in-Some.is at c.in_ok-items.ensures in
    let at = w.array_at c.args.longs _ c.args.role c.args.rest.now.numbers.now (node_tree c.args.whole) (node_tree c.args.text) (node_parts c.parts-wholes.result) (node_parts c.parts-texts.result) c.item.result
    c.requires.whole c.requires.text c.parts-wholes.ensures.parts c.parts-texts.ensures.parts c.item.ensures in
    (tree_of-Array _ ∙ ap array given.0 ∙ sym at.0, given.1 ∙ ap (λ (k : ℕ). drop k c.args.rest.now.numbers.now) (sym at.1))

pub code_items-code_value-requires : goal.code_items-code_value-requires
code_items-code_value-requires t c =
    let size = ap (λ (d : Doc). fields_size (fields_of d)) c.in-Some.ensures.some in
    let smaller = c.loop-whole.invariant.fewer in
    let e = c.decreases in
    omega arith

pub code_items-returns-in_default-2 : goal.code_items-returns-in_default-2
code_items-returns-in_default-2 t c =
    let unfit = rw c.in_default-2.is at c.in_ok-value.ensures in
    w.items_stop _ _ _ _ _ _ _ _ _ _ _ _ _ c.in-Some.ensures.some c.beside.ensures c.loop-whole.invariant.so_far unfit

pub code_items-loop-whole-preserved : goal.code_items-loop-whole-preserved
code_items-loop-whole-preserved t c =
    let given = rw c.in-Some-2.is at c.in_ok-value.ensures in
    let size = ap (λ (d : Doc). fields_size (fields_of d)) c.in-Some.ensures.some in
    let smaller = c.loop-whole.invariant.fewer in
    let pushed = ap (map tree_of) c.in_ok-push.ensures.items ∙ map-append tree_of c.loop-whole.coded.items _ in
    record {
      so_far = w.items_go _ _ _ _ _ _ _ _ _ _ _ _ _ c.in-Some.ensures.some c.beside.ensures c.loop-whole.invariant.so_far _ _ _ pushed given.0 given.1;
      taken = w.items_taken _ _ _ _ _ _ _ _ _ _ _ _ _ c.in-Some.ensures.some c.beside.ensures c.loop-whole.invariant.so_far _ _ given.1 c.loop-whole.invariant.taken;
      fewer = omega arith;
    }

pub code_pairs-returns : goal.code_pairs-returns
code_pairs-returns t c =
    let e = c.in_default.ensures.none in (
      w.pairs_end (pairs c.loop-name.coded) _ _
          (ap (λ (x : Doc). pairs_at c.args.longs (codes_of_tags (worths c.args.table.now)) c.args.kind (tagged_fields c.loop-name.rest.numbers.now (fields_of x) (fields_of (node_parts c.loop-name.text_rest)))) e)
          c.loop-name.invariant.so_far,
      sym (ap (λ (x : Doc). drop (fields_count (fields_of x) (fields_of (node_parts c.loop-name.text_rest))) c.loop-name.rest.numbers.now) e) ∙ c.loop-name.invariant.taken,
    )

pub code_items-returns : goal.code_items-returns
code_items-returns t c =
    let e = c.in_default.ensures.none in (
      w.items_end (map tree_of c.loop-whole.coded.items) _ _
          (ap (λ (x : Doc). items_at c.args.longs (codes_of_tags (worths c.args.table.now)) c.args.role (tagged_items c.loop-whole.rest.numbers.now (items_of (values_of x)) (items_of (values_of (node_parts c.loop-whole.text_rest))))) e)
          c.loop-whole.invariant.so_far,
      sym (ap (λ (x : Doc). drop (items_count (items_of (values_of x)) (items_of (values_of (node_parts c.loop-whole.text_rest)))) c.loop-whole.rest.numbers.now) e) ∙ c.loop-whole.invariant.taken,
    )

pub code_scoped-code_pairs-requires : goal.code_scoped-code_pairs-requires
code_scoped-code_pairs-requires t c =
    let size = ap tree_size c.code_and_scope.ensures in
    let e = c.decreases in
    omega arith

pub code_scoped-returns-in_default : goal.code_scoped-returns-in_default
code_scoped-returns-in_default t c =
    let unfit = rw c.in_default.is at c.in_ok-document.ensures in
    let at = w.scope_at c.args.longs _ c.args.role c.args.rest.now.numbers.now (node_tree c.args.whole) (node_tree c.args.text) (node_parts c.code_and_scope.result.1) (node_parts c.code_and_scope-2.result.1)
    c.code_and_scope.result.0.now c.code_and_scope-2.result.0.now c.scope.result c.code_and_scope.ensures c.code_and_scope-2.ensures c.scope.ensures in
    λ fits. unfit (subst Fits at.0 fits).1

pub code_scoped-returns : goal.code_scoped-returns
code_scoped-returns t c =
    let given = rw c.in-Some.is at c.in_ok-document.ensures in
    let at = w.scope_at c.args.longs _ c.args.role c.args.rest.now.numbers.now (node_tree c.args.whole) (node_tree c.args.text) (node_parts c.code_and_scope.result.1) (node_parts c.code_and_scope-2.result.1)
    c.code_and_scope.result.0.now c.code_and_scope-2.result.0.now c.scope.result c.code_and_scope.ensures c.code_and_scope-2.ensures c.scope.ensures in
    (tree_of-CodeScope _ _ ∙ ap₂ code_scope c.in_ok-code.ensures.ok given.0 ∙ sym at.0, given.1 ∙ ap (λ (k : ℕ). drop k c.args.rest.now.numbers.now) (sym at.1))

pub code_value-returns-in-Doc : goal.code_value-returns-in-Doc
code_value-returns-in-Doc t c =
    w.alike_given (worths c.args.table.now) c.args.longs c.args.role c.args.rest.now.numbers.now (node_tree c.args.whole) (node_tree c.args.text) _ _ c.alike.ensures.tags c.code_document.result c.code_document.ensures

pub code_value-returns-in-Array : goal.code_value-returns-in-Array
code_value-returns-in-Array t c =
    w.alike_given (worths c.args.table.now) c.args.longs c.args.role c.args.rest.now.numbers.now (node_tree c.args.whole) (node_tree c.args.text) _ _ c.alike-in-Array.ensures.tags c.code_array.result c.code_array.ensures

pub code_value-returns-in-CodeScope : goal.code_value-returns-in-CodeScope
code_value-returns-in-CodeScope t c =
    w.alike_given (worths c.args.table.now) c.args.longs c.args.role c.args.rest.now.numbers.now (node_tree c.args.whole) (node_tree c.args.text) _ _ c.alike-in-CodeScope.ensures.tags c.code_scoped.result c.code_scoped.ensures
