use Rattle.bd_cli_service.proofs.TalkLemmas.{talks_give_the_answer, talks_give_the_rest}
use Rattle.bd_cli_service.proofs.laws.talks_keep_to_the_answer.Goals as goal

pub returns-clause-answer : goal.returns-clause-answer
returns-clause-answer c = talks_give_the_answer

pub returns-clause-rest : goal.returns-clause-rest
returns-clause-rest c = talks_give_the_rest
