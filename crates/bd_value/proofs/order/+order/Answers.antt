use Rattle.std.proofs.Common.{sym, ◌∙◌, arith}
use Rattle.bd_value.proofs.OrderLemmas as ordered
use Rattle.bd_value.proofs.PartsLemmas as parted
use Rattle.bd_value.proofs.order.+order.Goals as goal

pub compare_scopes-compare_documents-requires : goal.compare_scopes-compare_documents-requires
compare_scopes-compare_documents-requires g t c κs within =
    let a = parted.scope_smaller (g.M.Reading.tree c.args.a) (g.M.Reading.tree c.in-Some.first) (sym c.in-Some.ensures.scope) in
    let b = parted.parts_smaller (g.M.Reading.tree c.in-Some.first) (g.M.Reading.remaining c.parts.result) c.parts.ensures.parts in
    let e = c.decreases in
    (omega arith, within)

pub compare_scopes-returns : goal.compare_scopes-returns
compare_scopes-returns g t c =
    c.compare_documents.ensures
    ∙ ordered.scopes_cmp (g.M.Reading.tree c.args.a) (g.N.Reading.tree c.args.b) (g.M.Reading.tree c.in-Some.first) (g.N.Reading.tree c.in-Some-scope.second)
    (g.M.Reading.remaining c.parts.result) (g.N.Reading.remaining c.parts-2.result) c.requires.first c.requires.second
    (sym c.in-Some.ensures.scope) (sym c.in-Some-scope.ensures.scope) c.parts.ensures.parts c.parts-2.ensures.parts
    (sym c.compare_leaves-order.ensures ∙ ordered.equal_then c.compare_leaves-order.result c.if-ne.ensures)

pub compare_within-compare_documents-requires : goal.compare_within-compare_documents-requires
compare_within-compare_documents-requires g t c κs within =
    (omega (arith, parted.parts_smaller (g.M.Reading.tree c.args.a) (g.M.Reading.remaining c.parts.result) c.parts.ensures.parts, c.decreases), within)

pub compare_within-compare_arrays-requires : goal.compare_within-compare_arrays-requires
compare_within-compare_arrays-requires g t c κs within =
    (omega (arith, parted.parts_smaller (g.M.Reading.tree c.args.a) (g.M.Reading.remaining c.parts-in-Array.result) c.parts-in-Array.ensures.parts, c.decreases), within)

pub compare_within-returns-in-Doc : goal.compare_within-returns-in-Doc
compare_within-returns-in-Doc g t c =
    c.compare_documents.ensures
    ∙ ordered.documents_cmp (g.M.Reading.tree c.args.a) (g.N.Reading.tree c.args.b) (g.M.Reading.remaining c.parts.result) (g.N.Reading.remaining c.parts-in-Doc.result)
    (sym c.kind.ensures ∙ c.in-Doc.is) c.requires c.parts.ensures.parts c.parts-in-Doc.ensures.parts

pub compare_within-returns-in-Array : goal.compare_within-returns-in-Array
compare_within-returns-in-Array g t c =
    c.compare_arrays.ensures
    ∙ ordered.arrays_cmp (g.M.Reading.tree c.args.a) (g.N.Reading.tree c.args.b) (g.M.Reading.remaining c.parts-in-Array.result) (g.N.Reading.remaining c.parts-in-Array-2.result)
    (sym c.kind.ensures ∙ c.in-Array.is) c.requires c.parts-in-Array.ensures.parts c.parts-in-Array-2.ensures.parts
