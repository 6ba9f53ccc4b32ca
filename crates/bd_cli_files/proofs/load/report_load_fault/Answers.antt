use Rattle.std.proofs.Common.{inr}
use Rattle.bd_cli_files.proofs.load.report_load_fault.Goals as goal

pub returns : goal.returns
returns g c = let faulty = c.in-Err.ensures.memory in inr (faulty.0, faulty.1, c.report_no_memory.ensures)
