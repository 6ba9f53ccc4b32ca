use Rattle.std.proofs.Common.{◌≡◌, [], sym}
use Rattle.std.proofs.lemmas.Result.{err_from_is_err_and}
use Rattle.bd_value.specs.View.{pairs}
use Rattle.bd_cli_command.specs.declared.command.CommandFault.TheVariants.{NoMemory}
use Rattle.bd_cli_command.proofs.CommandOfLemmas.{fields_taken_are, never_wanting}
use Rattle.bd_cli_command.proofs.command_of.read_command.Goals as goal

pub returns-in_err-check_fields-clause-out_of_memory : goal.returns-in_err-check_fields-clause-out_of_memory
returns-in_err-check_fields-clause-out_of_memory c = λ out_of_memory.
    let p = err_from_is_err_and c.from_residual.result c.from_residual.ensures.1 in
    let same : c.in_err-check_fields.field-0.0 ≡ NoMemory = cc in
    absurd (never_wanting c.in-Some.name [] (pairs c.args.document.now) (sym (rw same at c.in_err-check_fields.ensures)))

pub returns-in_err-take_command-clause-out_of_memory : goal.returns-in_err-take_command-clause-out_of_memory
returns-in_err-take_command-clause-out_of_memory c = λ out_of_memory.
    fields_taken_are c.in-Some.name (pairs c.args.document.now) c.in-Some.ensures c.in_ok-check_fields.ensures
