use Rattle.std.proofs.Common.{◌≡◌, Option, Some, sym, ap, ap₂, ◌∙◌, arith}
use Rattle.bd_value.specs.Tree.{doc, array, code_scope, fields_of, items_of, Leaf, code_leaf, leaf_of}
use Rattle.bd_value.specs.View.{view_of}
use Rattle.bd_value.proofs.PartsLemmas as parted
use Rattle.bd_value.proofs.ViewLemmas.{tree_of-Doc, tree_of-Array, tree_of-CodeScope}
use Rattle.bd_value.proofs.document.+copying.Goals as goal

pub to_value-to_document-requires : goal.to_value-to_document-requires
to_value-to_document-requires g t c κs within =
    (omega (arith, parted.parts_smaller (g.N.Reading.tree c.args.node) (g.N.Reading.remaining c.parts.result) c.parts.ensures.parts, c.decreases), within)

pub to_value-to_items-requires : goal.to_value-to_items-requires
to_value-to_items-requires g t c κs within =
    (omega (arith, parted.parts_smaller (g.N.Reading.tree c.args.node) (g.N.Reading.remaining c.parts-in-Array.result) c.parts-in-Array.ensures.parts, c.decreases), within)

pub to_value-returns-in_ok-to_document-in-Doc : goal.to_value-returns-in_ok-to_document-in-Doc
to_value-returns-in_ok-to_document-in-Doc g t c =
    tree_of-Doc _ ∙ ap (λ ps. doc (fields_of ps)) c.in_ok-to_document-in-Doc.ensures
    ∙ sym (parted.doc_is (g.N.Reading.tree c.args.node) (g.N.Reading.remaining c.parts.result) (sym c.kind.ensures ∙ c.in-Doc.is) c.parts.ensures.parts)

pub to_value-returns-in_ok-to_items-in-Array : goal.to_value-returns-in_ok-to_items-in-Array
to_value-returns-in_ok-to_items-in-Array g t c =
    tree_of-Array _ ∙ ap (λ ts. array (items_of ts)) c.in_ok-to_items-in-Array.ensures
    ∙ sym (parted.array_is (g.N.Reading.tree c.args.node) (g.N.Reading.remaining c.parts-in-Array.result) (sym c.kind.ensures ∙ c.in-Array.is) c.parts-in-Array.ensures.parts)

abbrev some : Leaf → Option Leaf
some o = Some o

pub leaf_value-to_document-requires : goal.leaf_value-to_document-requires
leaf_value-to_document-requires g t c κs within =
    let scope = sym c.in-Some-scope.ensures.scope in
    let a = parted.scope_smaller (g.N.Reading.tree c.args.node) (g.N.Reading.tree c.in-Some-scope.scope) scope in
    let b = parted.parts_smaller (g.N.Reading.tree c.in-Some-scope.scope) (g.N.Reading.remaining c.parts.result) c.parts.ensures.parts in
    let e = c.decreases in
    (omega arith, within)

pub leaf_value-returns : goal.leaf_value-returns
leaf_value-returns g t c =
    let scope = sym c.in-Some-scope.ensures.scope in
    let scalar_leaf : leaf_of (g.N.Reading.tree c.args.node) ≡ Some (code_leaf c.in-CodeScope.code.now) = sym c.in-Some.ensures ∙ ap (λ s. some (view_of s)) c.in-CodeScope.is in
    tree_of-CodeScope _ _ ∙ ap₂ (λ s ps. code_scope s (fields_of ps)) c.in_ok-code.ensures.ok c.in_ok-to_document.ensures
    ∙ sym (parted.code_is (g.N.Reading.tree c.args.node) (g.N.Reading.tree c.in-Some-scope.scope) c.in-CodeScope.code.now (g.N.Reading.remaining c.parts.result) scalar_leaf scope c.parts.ensures.parts)
