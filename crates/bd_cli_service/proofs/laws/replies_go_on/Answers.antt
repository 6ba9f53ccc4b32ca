use Rattle.bd_cli_service.proofs.GoingOnLemmas.{replies_on}
use Rattle.bd_cli_service.proofs.laws.replies_go_on.Goals as goal

pub returns : goal.returns
returns c = replies_on
