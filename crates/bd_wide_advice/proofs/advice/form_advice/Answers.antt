use Rattle.bd_wide_advice.specs.Advice.{form_advice}
use Rattle.bd_wide_advice.proofs.advice.form_advice.Goals as goal

pub returns : goal.returns
unfolding form_advice
returns c = c.advice_in.ensures
