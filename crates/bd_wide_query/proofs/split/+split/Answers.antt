use Rattle.std.proofs.Common.{◌≡◌, ◌∙◌, IfOk, Option, Some, ap, arith, option_map, subst, sym}
use Rattle.std.specs.Prelude.{codes}
use Rattle.bd_value.specs.View.{node_parts, node_tree}
use Rattle.bd_value.proofs.PartsLemmas.{array_is, doc_is, parts_smaller, scope_smaller}
use Rattle.bd_wide_query.specs.Split.{Split, below, split_in, split_view}
use Rattle.bd_wide_query.proofs.SplitLemmas.{parts_count, scope_split}
use Rattle.bd_wide_query.proofs.split.+split.Goals as goal

pub split_in-split_in_pairs-requires : goal.split_in-split_in_pairs-requires
split_in-split_in_pairs-requires t c =
    let smaller = parts_smaller (node_tree c.args.value) (node_parts c.parts.result) c.parts.ensures.parts in
    let e = c.decreases in
    (omega arith, tt)

pub split_in-split_in_items-requires : goal.split_in-split_in_items-requires
split_in-split_in_items-requires t c =
    let value = node_tree c.args.value in
    let parts = node_parts c.parts-in-Array.result in
    let smaller = parts_smaller value parts c.parts-in-Array.ensures.parts in
    let count = parts_count value parts c.parts-in-Array.ensures.parts in
    let e = c.decreases in
    let n = c.len.ensures in
    (omega arith, omega arith)

pub split_in-split_in_pairs-requires-in-Some : goal.split_in-split_in_pairs-requires-in-Some
split_in-split_in_pairs-requires-in-Some t c =
    let smaller = parts_smaller (node_tree c.in-Some.scope) (node_parts c.parts-in-Some.result) c.parts-in-Some.ensures.parts in
    let inside = scope_smaller (node_tree c.args.value) (node_tree c.in-Some.scope) (sym c.in-Some.ensures.scope) in
    let e = c.decreases in
    (omega arith, tt)

pub split_in-returns-in-Doc : goal.split_in-returns-in-Doc
split_in-returns-in-Doc t c =
    subst (λ (x : Option Split). IfOk c.split_in_pairs.result (λ s. option_map split_view s ≡ x))
    (ap (split_in c.args.classes) (sym (doc_is (node_tree c.args.value) (node_parts c.parts.result) (sym c.kind.ensures ∙ c.in-Doc.is) c.parts.ensures.parts)))
    c.split_in_pairs.ensures

pub split_in-returns-in-Array : goal.split_in-returns-in-Array
split_in-returns-in-Array t c =
    subst (λ (x : Option Split). IfOk c.split_in_items.result (λ s. option_map split_view s ≡ x))
    (ap (split_in c.args.classes) (sym (array_is (node_tree c.args.value) (node_parts c.parts-in-Array.result) (sym c.kind.ensures ∙ c.in-Array.is) c.parts-in-Array.ensures.parts)))
    c.split_in_items.ensures

pub split_in-returns-in_ok-below-in-Some-2 : goal.split_in-returns-in_ok-below-in-Some-2
split_in-returns-in_ok-below-in-Some-2 t c =
    ap (λ (s : Split). Some s) c.in_ok-below-in-Some-2.ensures
    ∙ ap (option_map (below (codes "$scope"))) (rw c.in-Some-2.is at c.in_ok-split-in-Some.ensures)
    ∙ scope_split c.args.classes (node_tree c.args.value) (node_tree c.in-Some.scope) (node_parts c.parts-in-Some.result) c.in-Some.ensures.scope c.parts-in-Some.ensures.parts

pub split_in-returns-in-None-2 : goal.split_in-returns-in-None-2
split_in-returns-in-None-2 t c =
    ap (option_map (below (codes "$scope"))) (rw c.in-None-2.is at c.in_ok-split-in-Some.ensures)
    ∙ scope_split c.args.classes (node_tree c.args.value) (node_tree c.in-Some.scope) (node_parts c.parts-in-Some.result) c.in-Some.ensures.scope c.parts-in-Some.ensures.parts
