use Rattle.std.proofs.Common.{sym, ap, ◌∙◌, subst}
use Rattle.std.proofs.lemmas.Result.{IfErr-weaker, IfOk-weaker}
use Rattle.bd_value.specs.{Tree.Doc, View.node_parts, View.pairs}
use Rattle.bd_cursor_request.specs.Request.{sort_pairs}
use Rattle.bd_cursor_request.specs.inside.Refused.{IsRefusedAs}
use Rattle.bd_cursor_request.specs.declared.results.Refused.TheVariants.{BadSort}
use Rattle.bd_cursor_request.proofs.RequestLemmas.{never_bad, parts_are, sort_there}
use Rattle.bd_cursor_request.proofs.request.read_sort.Goals as goal
use Rattle.std.specs.Prelude.{◌≡◌, None}

pub returns-clause-sort : goal.returns-clause-sort
returns-clause-sort c =
    let d = pairs c.args.document.now in
    let same = parts_are d (node_parts c.parts.result) c.parts.ensures.parts in
    IfOk-weaker c.read_pairs.result _ _ (λ v e. sort_there d c.requires ∙ ap sort_pairs (sym same) ∙ e) c.read_pairs.ensures.sort

pub returns-clause-fault : goal.returns-clause-fault
returns-clause-fault c =
    let d = pairs c.args.document.now in
    let same = parts_are d (node_parts c.parts.result) c.parts.ensures.parts in
    IfErr-weaker c.read_pairs.result _ _
    (λ r h. never_bad d c.requires r (subst (λ (ps : Doc). IsRefusedAs r BadSort (sort_pairs ps ≡ None)) same h)) c.read_pairs.ensures.fault
