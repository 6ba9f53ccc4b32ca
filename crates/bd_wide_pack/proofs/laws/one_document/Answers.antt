use Rattle.bd_wide_pack.proofs.FilledLemmas.{one_fields}
use Rattle.bd_wide_pack.proofs.laws.one_document.Goals as goal

pub returns : goal.returns
returns c = one_fields
