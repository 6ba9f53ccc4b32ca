use Rattle.bd_cli_command.proofs.CommandOfLemmas.{commands_keep_rules, faults_break_rules}
use Rattle.bd_cli_command.proofs.laws.faulty_documents_alone_are_no_commands.Goals as goal

pub returns-clause-commands : goal.returns-clause-commands
returns-clause-commands c = commands_keep_rules

pub returns-clause-faults : goal.returns-clause-faults
returns-clause-faults c = faults_break_rules
