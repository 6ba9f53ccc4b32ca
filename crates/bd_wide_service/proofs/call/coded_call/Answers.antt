use Rattle.std.proofs.{Common.string_bytes, lemmas.Result.err_from_is_err_and}
use Rattle.bd_value.specs.View.{pairs}
use Rattle.bd_cli_command.specs.Command.{find_tree}
use Rattle.bd_cli_service.specs.ServiceView.{session_call}
use Rattle.bd_wide_rank.specs.Table.{worths}
use Rattle.bd_wide_service.proofs.CallLemmas.{is_explain, is_find, is_other, is_resume, other_refused}
use Rattle.bd_wide_service.proofs.call.coded_call.Goals as goal

pub returns-in_err-call_of-in_default : goal.returns-in_err-call_of-in_default
returns-in_err-call_of-in_default c =
    let r = c.from_residual-in_err-call_of-in_default in
    let p = err_from_is_err_and r.result r.ensures.1 in
    let e = c.in_err-call_of-in_default in
    let d = c.in_default in
    rw (p.1, p.2) (record {
      call = λ bytes v copy over. tt;
      fault = λ bytes v copy over. other_refused v (worths c.args.table.now) copy over c.args.numbers.now (pairs c.args.wholes.now) c.args.command
          d.not-Find d.not-Resume d.not-Explain e.field-0.0 (e.ensures.fault copy);
    })

pub returns-in_ok-call_of-in_default : goal.returns-in_ok-call_of-in_default
returns-in_ok-call_of-in_default c =
    let e = c.in_ok-call_of-in_default in
    let d = c.in_default in
    record {
      call = λ bytes v copy over. is_other v (worths c.args.table.now) copy over c.args.numbers.now (pairs c.args.wholes.now) c.args.command
          d.not-Find d.not-Resume d.not-Explain (session_call copy e.field-0) (e.ensures.call copy);
      fault = λ bytes v copy over. tt;
    }

pub returns-in_ok-request-in-Explain-clause-call : goal.returns-in_ok-request-in-Explain-clause-call
returns-in_ok-request-in-Explain-clause-call c = λ bytes v copy over.
    let e = c.in_ok-request-in-Explain.ensures in
    rw c.in-Explain.is (is_explain v (worths c.args.table.now) copy over c.args.numbers.now (pairs c.args.wholes.now) (find_tree c.in-Explain.find)
    c.in_ok-request-in-Explain.request c.in_ok-request-in-Explain.choice e.search e.way)

pub returns-in_ok-request-in-Find-clause-call : goal.returns-in_ok-request-in-Find-clause-call
returns-in_ok-request-in-Find-clause-call c = λ bytes v copy over.
    let e = c.in_ok-request-in-Find.ensures in
    rw c.in-Find.is (is_find v (worths c.args.table.now) copy over c.args.numbers.now (pairs c.args.wholes.now) (find_tree c.in-Find.find)
    c.in_ok-request-in-Find.request c.in_ok-request-in-Find.choice e.search e.way)

pub returns-in_ok-request-in-Resume-clause-call : goal.returns-in_ok-request-in-Resume-clause-call
returns-in_ok-request-in-Resume-clause-call c = λ bytes v copy over.
    let e = c.in_ok-request-in-Resume.ensures in
    rw c.in-Resume.is (is_resume v (worths c.args.table.now) copy over c.args.numbers.now (pairs c.args.wholes.now) (find_tree c.in-Resume.find)
    c.in_ok-request-in-Resume.request c.in_ok-request-in-Resume.choice e.search e.way (string_bytes c.in-Resume.token) c.in_ok-token-in-Resume.token
    (rw c.as_str.ensures.value at c.in_ok-token-in-Resume.ensures.token))
