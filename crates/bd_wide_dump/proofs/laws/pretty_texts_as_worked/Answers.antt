use Rattle.std.proofs.Common.{refl}
use Rattle.bd_wide_dump.specs.Pretty.{indented}
use Rattle.bd_wide_dump.proofs.laws.pretty_texts_as_worked.Goals as goal

pub returns : goal.returns
unfolding indented
returns c = refl
