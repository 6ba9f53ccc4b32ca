use Rattle.std.proofs.Common.{inr}
use Rattle.std.proofs.lemmas.Result.{err_from_is_err_and}
use Rattle.bd_value.specs.View.{pairs}
use Rattle.bd_query_filter.specs.Filter.{filter_tree}
use Rattle.bd_cursor_request.proofs.RequestLemmas.{rest_refuses}
use Rattle.bd_cursor_request.proofs.request.Request.new.Goals as goal

pub returns-in_err-check_rest-clause-refused : goal.returns-in_err-check_rest-clause-refused
returns-in_err-check_rest-clause-refused c =
    let r = c.from_residual-in_err-check_rest in
    let p = err_from_is_err_and r.result r.ensures.1 in
    rw (p.1, p.2) (inr (rest_refuses (pairs c.args.filter) (pairs c.args.sort) c.args.skip c.args.limit (filter_tree c.in_ok-parsed.parsed)
    _ c.in_ok-parsed.ensures.filter c.in_err-check_rest.ensures.refused))
