use Rattle.std.proofs.Common.{Some, inl, inr, ◌∙◌, ap}
use Rattle.bd_cli_scan.proofs.dump.report_scan.Goals as goal

pub returns-in-None : goal.returns-in-None
returns-in-None g c = inl (rw c.in-None.is (rw c.from-count.ensures at c.report_end.ensures))

pub returns-in-Ok : goal.returns-in-Ok
returns-in-Ok g c = inl (rw c.in-Some.is (rw (c.from-count.ensures, c.in-Ok.ensures.message) at c.report_end-in-Ok.ensures))

pub returns : goal.returns
returns g c = let faulty = c.in-Err.ensures.memory in inr (faulty.0, c.in-Some.is ∙ ap Some faulty.1, c.report_no_memory.ensures)
