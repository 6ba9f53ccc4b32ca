use Rattle.std.proofs.{Common.◌≡◌, Common.Ok, Common.subst, lemmas.Result.err_from_is_err_and}
use Rattle.bd_value.specs.{Tree.Doc, View.pairs}
use Rattle.bd_cursor_request.specs.Request.{request_view}
use Rattle.bd_cli_find.specs.Options.{ReportsSearchFault}
use Rattle.bd_wide_find.specs.Options.{requested_of}
use Rattle.bd_wide_rank.specs.Table.{worths}
use Rattle.bd_wide_find.proofs.CodedLemmas.{requests_nothing, search_requests}
use Rattle.bd_wide_find.proofs.coded.coded_search.Goals as goal

pub returns-in_err-request-clause-fault : goal.returns-in_err-request-clause-fault
returns-in_err-request-clause-fault c =
    let p = err_from_is_err_and c.from_residual-in_err-request.result c.from_residual-in_err-request.ensures.1 in
    let coded = rw (c.in-Some.is, c.deref.ensures.value) at c.in_ok-coded.ensures in
    let reported = subst (λ (q : Doc). ReportsSearchFault (requested_of c.args.options.now q) c.in_err-request.field-0.0) coded c.in_err-request.ensures.fault in
    rw (p.1, p.2) (requests_nothing c.args.options.now (worths c.args.table.now) c.args.longs c.args.query.now.numbers.items (pairs c.args.query.now.wholes)
    (pairs c.args.query.now.texts) c.in_err-request.field-0.0 reported)

pub returns-clause-search : goal.returns-clause-search
returns-clause-search c =
    let coded = rw (c.in-Some.is, c.deref.ensures.value) at c.in_ok-coded.ensures in
    let request = request_view c.in_ok-request.field-0.request in
    let token = c.in_ok-request.field-0.token in
    let requested = subst (λ (q : Doc). requested_of c.args.options.now q ≡ Ok (request, token)) coded c.in_ok-request.ensures.search in
    search_requests c.args.options.now (worths c.args.table.now) c.args.longs c.args.query.now.numbers.items (pairs c.args.query.now.wholes)
    (pairs c.args.query.now.texts) request token (request_view c.in_ok-request-2.request) requested c.in_ok-request-2.ensures
