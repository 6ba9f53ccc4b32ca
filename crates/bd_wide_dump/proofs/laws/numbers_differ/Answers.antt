use Rattle.bd_wide_dump.proofs.RawLemmas.{raw_same}
use Rattle.bd_wide_dump.proofs.laws.numbers_differ.Goals as goal

pub returns : goal.returns
returns c = raw_same
