use Rattle.std.proofs.Common.{◌∙◌, ap, arith, sym}
use Rattle.bd_value.specs.View.{node_parts, node_tree}
use Rattle.bd_value.proofs.PartsLemmas.{array_is, doc_is, parts_smaller, scope_smaller}
use Rattle.bd_wide_query.specs.Types.{is_alike}
use Rattle.bd_wide_query.proofs.TypesLemmas.{scope_alike}
use Rattle.bd_wide_query.proofs.types.+types.Goals as goal

pub is_alike-pairs_are_alike-requires : goal.is_alike-pairs_are_alike-requires
is_alike-pairs_are_alike-requires t c =
    let smaller = parts_smaller (node_tree c.args.value) (node_parts c.parts.result) c.parts.ensures.parts in
    let e = c.decreases in
    omega arith

pub is_alike-items_are_alike-requires : goal.is_alike-items_are_alike-requires
is_alike-items_are_alike-requires t c =
    let smaller = parts_smaller (node_tree c.args.value) (node_parts c.parts-in-Array.result) c.parts-in-Array.ensures.parts in
    let e = c.decreases in
    omega arith

pub is_alike-pairs_are_alike-requires-in-Some : goal.is_alike-pairs_are_alike-requires-in-Some
is_alike-pairs_are_alike-requires-in-Some t c =
    let smaller = parts_smaller (node_tree c.in-Some.scope) (node_parts c.parts-in-Some.result) c.parts-in-Some.ensures.parts in
    let inside = scope_smaller (node_tree c.args.value) (node_tree c.in-Some.scope) (sym c.in-Some.ensures.scope) in
    let e = c.decreases in
    omega arith

pub is_alike-returns-in-Doc : goal.is_alike-returns-in-Doc
is_alike-returns-in-Doc t c =
    c.pairs_are_alike.ensures
    ∙ ap (is_alike c.args.one c.args.other) (sym (doc_is (node_tree c.args.value) (node_parts c.parts.result) (sym c.kind.ensures ∙ c.in-Doc.is) c.parts.ensures.parts))

pub is_alike-returns-in-Array : goal.is_alike-returns-in-Array
is_alike-returns-in-Array t c =
    c.items_are_alike.ensures
    ∙ ap (is_alike c.args.one c.args.other) (sym (array_is (node_tree c.args.value) (node_parts c.parts-in-Array.result) (sym c.kind.ensures ∙ c.in-Array.is) c.parts-in-Array.ensures.parts))

pub is_alike-returns-in-Some : goal.is_alike-returns-in-Some
is_alike-returns-in-Some t c =
    c.pairs_are_alike-in-Some.ensures
    ∙ scope_alike c.args.one c.args.other (node_tree c.args.value) (node_tree c.in-Some.scope) (node_parts c.parts-in-Some.result) c.in-Some.ensures.scope c.parts-in-Some.ensures.parts
