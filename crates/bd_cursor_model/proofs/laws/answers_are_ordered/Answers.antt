use Rattle.bd_cursor_model.specs.Answer.{before, ordered, answer}
use Rattle.bd_cursor_model.proofs.AnswerLemmas.{ordered_rises, answer_rises, rises_ascending, contains_in, in_contains, in_ordered, ordered_in}
use Rattle.bd_cursor_model.proofs.laws.answers_are_ordered.Goals as goal

pub returns : goal.returns
returns c = record {
  ascends = λ a o. rises_ascending (before a.by) (ordered a) (ordered_rises a o);
  matches = λ a p. (λ h. ordered_in a p (contains_in (ordered a) p h), λ h. in_contains (ordered a) p (in_ordered a p h.0 h.1));
  answer = λ a o. rises_ascending (before a.by) (answer a) (answer_rises a o);
}
