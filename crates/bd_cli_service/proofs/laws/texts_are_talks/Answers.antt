use Rattle.bd_cli_service.proofs.ServedLemmas.{talk_of}
use Rattle.bd_cli_service.proofs.laws.texts_are_talks.Goals as goal

pub returns : goal.returns
returns c = talk_of
