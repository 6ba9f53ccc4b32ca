use Rattle.bd_wide_dump.proofs.PrettyLemmas.{indented_squeezed}
use Rattle.bd_wide_dump.proofs.laws.only_white_space_is_more.Goals as goal

pub returns : goal.returns
returns c = indented_squeezed
