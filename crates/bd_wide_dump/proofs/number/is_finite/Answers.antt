use Rattle.bd_wide_dump.proofs.RelaxedLemmas.{finite_bits}
use Rattle.bd_wide_dump.proofs.number.is_finite.Goals as goal

pub returns : goal.returns
returns c = finite_bits c.args.bits
