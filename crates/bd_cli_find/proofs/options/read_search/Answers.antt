use Rattle.std.proofs.{Common.◌≡◌, Common.ap, Common.option_map, Common.string_bytes, lemmas.Result.IfErr-weaker, lemmas.Result.err_from_is_err_and}
use Rattle.bd_value.specs.View.{pairs}
use Rattle.bd_cli_args.specs.FindOptions.{FindOptions}
use Rattle.bd_cli_find.proofs.OptionsLemmas.{query_refused, rest_refused}
use Rattle.bd_cli_find.proofs.options.read_search.Goals as goal

pub returns-in_err-query-clause-fault : goal.returns-in_err-query-clause-fault
returns-in_err-query-clause-fault c =
    let p = err_from_is_err_and c.from_residual.result c.from_residual.ensures.1 in
    let query : option_map string_bytes c.options.inside.query ≡ c.args.options.now.query = ap (λ (o : FindOptions). o.query) c.options.view_is in
    rw (p.1, p.2) (query_refused c.args.options.now _ (rw query at c.in_err-query.ensures.fault))

pub returns-clause-search : goal.returns-clause-search
returns-clause-search c =
    let query : option_map string_bytes c.options.inside.query ≡ c.args.options.now.query = ap (λ (o : FindOptions). o.query) c.options.view_is in
    rw (rw query at c.in_ok-query.ensures.document) c.read_search_with.ensures.search

pub returns-clause-fault : goal.returns-clause-fault
returns-clause-fault c =
    let query : option_map string_bytes c.options.inside.query ≡ c.args.options.now.query = ap (λ (o : FindOptions). o.query) c.options.view_is in
    IfErr-weaker c.read_search_with.result _ _ (λ fault reported. rest_refused c.args.options.now (pairs c.in_ok-query.query) fault
    (rw query at c.in_ok-query.ensures.document) reported) c.read_search_with.ensures.fault
