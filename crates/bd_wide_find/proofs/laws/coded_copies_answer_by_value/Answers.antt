use Rattle.bd_wide_find.proofs.AnswerLemmas.{coded_answers, refusals_stay, requests_are_read}
use Rattle.bd_wide_find.proofs.NumberLemmas.{numbers_are_of}
use Rattle.bd_wide_find.proofs.laws.coded_copies_answer_by_value.Goals as goal

pub returns-clause-answer : goal.returns-clause-answer
returns-clause-answer c = λ table r ds are copy text. coded_answers table r ds are copy text

pub returns-clause-numbers : goal.returns-clause-numbers
returns-clause-numbers c = λ table ds same. numbers_are_of table ds same

pub returns-clause-request : goal.returns-clause-request
returns-clause-request c = λ table longs numbers wholes texts sort skip limit r e. requests_are_read table longs numbers wholes texts sort skip limit r e

pub returns-clause-refused : goal.returns-clause-refused
returns-clause-refused c = λ table longs numbers wholes texts sort skip limit why e. refusals_stay table longs numbers wholes texts sort skip limit why e
