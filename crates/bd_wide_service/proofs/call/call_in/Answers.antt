use Rattle.std.proofs.lemmas.Result.{IfErr-weaker, IfOk-weaker}
use Rattle.std.proofs.Common.{Err, inr}
use Rattle.bd_cli_command.specs.Command.{command_tree}
use Rattle.bd_wide_service.specs.Call.{IsCallIn, IsNoCall, filter_in}
use Rattle.bd_wide_service.proofs.CallLemmas.{refuses_more}
use Rattle.bd_wide_service.proofs.call.call_in.Goals as goal

pub returns-clause-call : goal.returns-clause-call
returns-clause-call c = λ bytes v copy over.
    let q = c.in_ok-commands.commands in
    let is = rw (c.filter_of-filter.ensures, c.deref.ensures.value) at c.coded_call.ensures.call bytes v copy over in
    IfOk-weaker c.coded_call.result _ _
    (λ call is_call. (command_tree q.wholes, command_tree q.texts, q.numbers.items, c.in_ok-commands.ensures.commands, is_call)) is

pub returns-clause-fault : goal.returns-clause-fault
returns-clause-fault c = λ bytes v copy over.
    let q = c.in_ok-commands.commands in
    let wholes = command_tree q.wholes in
    let texts = command_tree q.texts in
    let is = rw (c.filter_of-filter.ensures, c.deref.ensures.value) at c.coded_call.ensures.fault bytes v copy over in
    IfErr-weaker c.coded_call.result _ _
    (λ fault refused. refuses_more (IsNoCall v q.numbers.items (filter_in wholes) texts) (λ why. IsCallIn v c.args.line.now (Err why))
    (λ why is_none. inr (wholes, texts, q.numbers.items, c.in_ok-commands.ensures.commands, is_none)) fault refused) is
