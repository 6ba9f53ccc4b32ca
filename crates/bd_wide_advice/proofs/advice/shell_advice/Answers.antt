use Rattle.bd_wide_advice.specs.Advice.{shell_advice}
use Rattle.bd_wide_advice.proofs.advice.shell_advice.Goals as goal

pub returns : goal.returns
unfolding shell_advice
returns c = c.advice_in.ensures
