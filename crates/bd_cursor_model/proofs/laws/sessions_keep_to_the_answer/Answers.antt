use Rattle.bd_cursor_model.proofs.SessionLemmas.{find_gives, no_trace, resume_gives}
use Rattle.bd_cursor_model.proofs.laws.sessions_keep_to_the_answer.Goals as goal

pub returns : goal.returns
returns c = record { find = find_gives; resume = resume_gives; out_of_memory = no_trace }
