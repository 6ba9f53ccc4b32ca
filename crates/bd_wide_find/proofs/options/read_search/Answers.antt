use Rattle.std.proofs.{Common.◌≡◌, Common.ap, Common.option_map, Common.string_bytes, lemmas.Result.IfErr-weaker, lemmas.Result.err_from_is_err_and}
use Rattle.bd_value.specs.View.{pairs}
use Rattle.bd_cli_args.specs.FindOptions.{FindOptions}
use Rattle.bd_wide_find.proofs.QuestionLemmas.{search_refused, sort_refused}
use Rattle.bd_wide_find.proofs.options.read_search.Goals as goal

pub returns-in_err-sort-clause-fault : goal.returns-in_err-sort-clause-fault
returns-in_err-sort-clause-fault c =
    let p = err_from_is_err_and c.from_residual.result c.from_residual.ensures.1 in
    let sort : option_map string_bytes c.options.inside.sort ≡ c.args.options.now.sort = ap (λ (o : FindOptions). o.sort) c.options.view_is in
    rw (p.1, p.2) (sort_refused c.args.options.now (pairs c.args.query) _ (rw sort at c.in_err-sort.ensures.fault))

pub returns-clause-search : goal.returns-clause-search
returns-clause-search c =
    let sort : option_map string_bytes c.options.inside.sort ≡ c.args.options.now.sort = ap (λ (o : FindOptions). o.sort) c.options.view_is in
    rw (rw sort at c.in_ok-sort.ensures.document) c.search_of.ensures.search

pub returns-clause-fault : goal.returns-clause-fault
returns-clause-fault c =
    let sort : option_map string_bytes c.options.inside.sort ≡ c.args.options.now.sort = ap (λ (o : FindOptions). o.sort) c.options.view_is in
    IfErr-weaker c.search_of.result _ _ (λ fault reported. search_refused c.args.options.now (pairs c.args.query)
    (pairs c.in_ok-sort.sort) fault (rw sort at c.in_ok-sort.ensures.document) reported) c.search_of.ensures.fault
