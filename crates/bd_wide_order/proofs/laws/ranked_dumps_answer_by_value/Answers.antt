use Rattle.bd_wide_order.proofs.AnswerLemmas.{ranked_stay}
use Rattle.bd_wide_order.proofs.laws.ranked_dumps_answer_by_value.Goals as goal

pub returns : goal.returns
returns c = λ table r ds are bytes new text. ranked_stay table r ds are bytes new text
