use Rattle.std.proofs.{Common.◌≡◌, Common.Ok, Common.◌∙◌, Common.subst, lemmas.Result.err_from_is_err_and}
use Rattle.bd_value.specs.{Tree.Doc, View.node_parts, View.pairs}
use Rattle.bd_cursor_request.specs.Request.{request_view}
use Rattle.bd_cli_find.specs.Options.{ReportsSearchFault}
use Rattle.bd_wide_find.specs.Options.{requested_of}
use Rattle.bd_wide_find.proofs.QuestionLemmas.{parts_are, refused_options}
use Rattle.bd_wide_find.proofs.question.read_question.Goals as goal

pub returns-in_err-search-clause-fault : goal.returns-in_err-search-clause-fault
returns-in_err-search-clause-fault c =
    let p = err_from_is_err_and c.from_residual-in_err-search.result c.from_residual-in_err-search.ensures.1 in
    let q = c.in_ok-query.query in
    let same : pairs c.in_ok-copy.copy ≡ pairs q.texts = c.in_ok-copy.ensures ∙ parts_are (pairs q.texts) (node_parts c.parts.result) c.parts.ensures.parts in
    let reported = subst (λ (d : Doc). ReportsSearchFault (requested_of c.args.options.now d) c.in_err-search.field-0.0) same c.in_err-search.ensures.fault in
    let read = c.in_ok-query.ensures.query in
    rw (p.1, p.2) (refused_options c.args.text.now c.args.options.now (pairs q.wholes) (pairs q.texts) q.numbers.items read c.in_err-search.field-0.0 reported)

pub returns-clause-search : goal.returns-clause-search
returns-clause-search c =
    let q = c.in_ok-query.query in
    let same : pairs c.in_ok-copy.copy ≡ pairs q.texts = c.in_ok-copy.ensures ∙ parts_are (pairs q.texts) (node_parts c.parts.result) c.parts.ensures.parts in
    subst (λ (d : Doc). requested_of c.args.options.now d ≡ Ok (request_view c.in_ok-search.search.request, c.in_ok-search.search.token)) same c.in_ok-search.ensures.search
