use Rattle.bd_cli_scan.proofs.output.report_stop.Goals as goal

pub returns-in-NoMemory : goal.returns-in-NoMemory
returns-in-NoMemory g c = rw c.in-NoMemory.is c.report_no_memory.ensures

pub returns-in-Unwritten : goal.returns-in-Unwritten
returns-in-Unwritten g c = rw c.in-Unwritten.is c.report_unwritten.ensures
