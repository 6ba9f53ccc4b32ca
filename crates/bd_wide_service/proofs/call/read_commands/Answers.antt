use Rattle.std.proofs.lemmas.Result.{err_from_is_err_and}
use Rattle.bd_value.specs.View.{pairs}
use Rattle.bd_cli_command.specs.Command.{command_tree}
use Rattle.bd_wide_service.proofs.CallLemmas.{texts_no_command, wholes_no_command}
use Rattle.bd_wide_service.proofs.call.read_commands.Goals as goal

pub returns-in_err-texts-clause-fault : goal.returns-in_err-texts-clause-fault
returns-in_err-texts-clause-fault c =
    let p = err_from_is_err_and c.from_residual-in_err-texts.result c.from_residual-in_err-texts.ensures.1 in
    let q = c.in_ok-query.query in
    rw (p.1, p.2) (texts_no_command c.args.line.now (pairs q.wholes) (pairs q.texts) q.numbers.items c.in_ok-query.ensures.document
    c.in_err-texts.field-0.0 c.in_err-texts.ensures.fault)

pub returns-in_err-wholes-clause-fault : goal.returns-in_err-wholes-clause-fault
returns-in_err-wholes-clause-fault c =
    let r = c.from_residual-in_err-wholes in
    let p = err_from_is_err_and r.result r.ensures.1 in
    let q = c.in_ok-query.query in
    rw (p.1, p.2) (wholes_no_command c.args.line.now (pairs q.wholes) (pairs q.texts) q.numbers.items c.in_ok-query.ensures.document
    (command_tree c.in_ok-texts.texts) c.in_ok-texts.ensures.command c.in_err-wholes.field-0.0 c.in_err-wholes.ensures.fault)
