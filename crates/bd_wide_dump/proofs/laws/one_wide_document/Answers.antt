use Rattle.bd_wide_dump.proofs.OneLemmas.{one_document}
use Rattle.bd_wide_dump.proofs.laws.one_wide_document.Goals as goal

pub returns : goal.returns
returns c = one_document
