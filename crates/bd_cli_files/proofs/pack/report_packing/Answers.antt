use Rattle.bd_cli_files.proofs.pack.report_packing.Goals as goal

pub returns-in-None : goal.returns-in-None
returns-in-None g c = rw c.in-None.is c.report_end.ensures
