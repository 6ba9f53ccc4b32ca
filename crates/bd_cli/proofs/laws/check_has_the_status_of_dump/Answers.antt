use Rattle.bd_cli_scan.proofs.CheckLemmas.{same_status}
use Rattle.bd_cli.proofs.laws.check_has_the_status_of_dump.Goals as goal

pub returns : goal.returns
returns c = λ bytes fault s t p q. same_status bytes fault s t p q
