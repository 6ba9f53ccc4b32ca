use Rattle.std.proofs.{Common.◌≡◌, Common.sym, Common.Ok, Common.subst, lemmas.Result.err_from_is_err_and}
use Rattle.bd_value.specs.{Fits.Fits, Tree.Doc, Tree.doc, Tree.fields_of, View.pairs}
use Rattle.bd_cursor_request.specs.Request.{request_view}
use Rattle.bd_cli_command.specs.Command.{FindCommand, find_tree}
use Rattle.bd_cli_service.specs.{ServiceView.RefusesPart, Talk.request_for}
use Rattle.bd_wide_rank.specs.Table.{worths}
use Rattle.bd_wide_query.specs.Split.{split_view}
use Rattle.bd_wide_service.specs.Call.{with_filter}
use Rattle.bd_wide_service.proofs.CallLemmas.{coded_refused, is_search, types_refused}
use Rattle.bd_wide_service.proofs.call.coded_search.Goals as goal

pub returns-in_err-request-clause-fault : goal.returns-in_err-request-clause-fault
returns-in_err-request-clause-fault c =
    let p = err_from_is_err_and c.from_residual-in_err-request.result c.from_residual-in_err-request.ensures.1 in
    let f = find_tree c.args.find in
    let by_texts = request_view c.in_ok-read_search.field-0.0 in
    let first = subst (λ (g : FindCommand). request_for g ≡ Ok by_texts) c.in_ok-copy_of.ensures c.in_ok-read_search.ensures.search in
    let coded = rw (c.in-Some.is, c.none.ensures) at c.in_ok-filter.ensures in
    let fits = subst (λ (d : Doc). Fits (doc (fields_of d))) coded c.document_fits.ensures in
    let refused = subst (λ (d : Doc). RefusesPart (request_for (with_filter d f)) c.in_err-request.field-0.0) coded c.in_err-request.ensures.fault in
    rw (p.1, p.2) (coded_refused (worths c.args.table.now) c.args.numbers.now (pairs c.args.wholes.now) f by_texts first fits
    c.in_err-request.field-0.0 refused)

pub returns-in-Some-2-clause-fault : goal.returns-in-Some-2-clause-fault
returns-in-Some-2-clause-fault c =
    let f = find_tree c.args.find in
    let by_texts = request_view c.in_ok-read_search.field-0.0 in
    let first = subst (λ (g : FindCommand). request_for g ≡ Ok by_texts) c.in_ok-copy_of.ensures c.in_ok-read_search.ensures.search in
    let coded = rw (c.in-Some.is, c.none.ensures) at c.in_ok-filter.ensures in
    let fits = subst (λ (d : Doc). Fits (doc (fields_of d))) coded c.document_fits.ensures in
    let request = request_view c.in_ok-request.request in
    let requested = subst (λ (d : Doc). request_for (with_filter d f) ≡ Ok request) coded c.in_ok-request.ensures.search in
    types_refused (worths c.args.table.now) c.args.numbers.now (pairs c.args.wholes.now) f by_texts first fits request
    (request_view c.in_ok-request-2.request) requested c.in_ok-request-2.ensures (split_view c.in-Some-2.split)
    (sym (rw (c.in-Some-2.is, c.none-2.ensures) at c.in_ok-split.ensures))

pub returns-clause-search : goal.returns-clause-search
returns-clause-search c =
    let f = find_tree c.args.find in
    let by_texts = request_view c.in_ok-read_search.field-0.0 in
    let first = subst (λ (g : FindCommand). request_for g ≡ Ok by_texts) c.in_ok-copy_of.ensures c.in_ok-read_search.ensures.search in
    let coded = rw (c.in-Some.is, c.none.ensures) at c.in_ok-filter.ensures in
    let fits = subst (λ (d : Doc). Fits (doc (fields_of d))) coded c.document_fits.ensures in
    let request = request_view c.in_ok-request.request in
    let requested = subst (λ (d : Doc). request_for (with_filter d f) ≡ Ok request) coded c.in_ok-request.ensures.search in
    is_search (worths c.args.table.now) c.args.numbers.now (pairs c.args.wholes.now) f by_texts first fits request
    (request_view c.in_ok-request-2.request) requested c.in_ok-request-2.ensures (sym (rw (c.in_default-2.is, c.none-2.ensures) at c.in_ok-split.ensures))
