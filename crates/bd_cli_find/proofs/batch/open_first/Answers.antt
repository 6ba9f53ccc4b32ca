use Rattle.std.proofs.Common.{List, None, Option, Some, inl, option_map, subst, sym, ℕ}
use Rattle.std.proofs.lemmas.Result.{err_from_is_err_and}
use Rattle.bd_bson_dump.specs.declared.collection.Dump.{Dump}
use Rattle.bd_cursor_sort.specs.Selection.{query_of}
use Rattle.bd_cursor.specs.SessionView.{dump_of, hint_of, state_of}
use Rattle.bd_cursor_request.specs.declared.token.Token.{Token}
use Rattle.bd_path.specs.PathNames.{path_text}
use Rattle.bd_cli_find.specs.inside.Find.{IsOpenedOn}
use Rattle.bd_cli_find.proofs.BatchLemmas.{find_opens, hint_is, resume_opens}
use Rattle.bd_cli_find.proofs.batch.open_first.Goals as goal

pub returns-in_err-choice-clause-opened : goal.returns-in_err-choice-clause-opened
returns-in_err-choice-clause-opened c =
    let r = c.from_residual in
    let p = err_from_is_err_and r.result r.ensures.1 in
    rw (p.1, p.2) (inl c.in_err-choice.ensures.fault)

pub returns-in-Some-clause-opened : goal.returns-in-Some-clause-opened
returns-in-Some-clause-opened c =
    let q = query_of (dump_of c.choose.new.session) c.args.search.request in
    let index = option_map path_text c.args.search.index in
    let opened = resume_opens q (hint_of c.in_ok-choice.choice) c.choose.new.session c.resume.new.self c.in_ok-choice.ensures.choice c.in-Some.token c.resume.result c.resume.ensures.steps in
    let by_index = subst (λ (hint : Option (List ℕ)). IsOpenedOn q (Some c.in-Some.token) hint (state_of c.resume.new.self) c.resume.result) (hint_is index c.in_ok-choice.choice c.in_ok-choice.ensures.way) opened in
    subst (λ (dump : Dump). IsOpenedOn (query_of dump c.args.search.request) c.args.search.token index (state_of c.resume.new.self) c.resume.result) c.choose.ensures.dump
    (subst (λ (token : Option Token). IsOpenedOn q token index (state_of c.resume.new.self) c.resume.result) (sym c.in-Some.is) by_index)

pub returns-in-None-clause-opened : goal.returns-in-None-clause-opened
returns-in-None-clause-opened c =
    let q = query_of (dump_of c.choose.new.session) c.args.search.request in
    let index = option_map path_text c.args.search.index in
    let opened = find_opens q (hint_of c.in_ok-choice.choice) c.choose.new.session c.find.new.self c.in_ok-choice.ensures.choice c.find.result c.find.ensures.steps in
    let by_index = subst (λ (hint : Option (List ℕ)). IsOpenedOn q None hint (state_of c.find.new.self) c.find.result) (hint_is index c.in_ok-choice.choice c.in_ok-choice.ensures.way) opened in
    subst (λ (dump : Dump). IsOpenedOn (query_of dump c.args.search.request) c.args.search.token index (state_of c.find.new.self) c.find.result) c.choose.ensures.dump
    (subst (λ (token : Option Token). IsOpenedOn q token index (state_of c.find.new.self) c.find.result) (sym c.in-None.is) by_index)
