use Rattle.std.proofs.Common.{[], rules, refl}
use Rattle.std.proofs.lemmas.Result.{err_from_is_err_and}
use Rattle.bd_value.specs.View.{pairs}
use Rattle.bd_cli_command.specs.CommandOf.{pairs_fault}
use Rattle.bd_cli_command.proofs.CommandOfLemmas.{fault_here, fault_later}
use Rattle.bd_cli_command.proofs.command_of.check_fields.Goals as goal

pub returns-in_err-check_field : goal.returns-in_err-check_field
returns-in_err-check_field c =
    let p = err_from_is_err_and c.from_residual.result c.from_residual.ensures.1 in
    let d = pairs c.args.document.now in
    rw (p.1, p.2) (fault_here c.args.command d c.loop-i.i (pairs_fault c.args.command [] d) _ (search rules) c.loop-i.invariant c.in_err-check_field.ensures c.in_err-check_field.field-0.0 refl)

pub loop-i-preserved : goal.loop-i-preserved
loop-i-preserved c =
    let d = pairs c.args.document.now in
    fault_later c.args.command d c.loop-i.i (pairs_fault c.args.command [] d) _ (search rules) c.loop-i.invariant c.in_ok-check_field.ensures refl
