use Rattle.bd_wide_order.proofs.AnswerLemmas.{answers_stay, documents_stay}
use Rattle.bd_wide_order.proofs.laws.answers_stay.Goals as goal

pub returns-clause-answer : goal.returns-clause-answer
returns-clause-answer c = λ e up r needs ds are bytes new text. answers_stay e up r needs ds are bytes new text

pub returns-clause-documents : goal.returns-clause-documents
returns-clause-documents c = λ e ds places. documents_stay e ds places
