use Rattle.bd_cli_scan.proofs.OutputLemmas.{on_err}
use Rattle.bd_cli_scan.proofs.output.message_of.Goals as goal

pub returns-in_err-push_fault-in-Faulty-clause-memory : goal.returns-in_err-push_fault-in-Faulty-clause-memory
returns-in_err-push_fault-in-Faulty-clause-memory c = on_err c.from_residual.result _ (c.in-Faulty.fault, c.in-Faulty.is)
