use Rattle.bd_wide_copy.proofs.PlainLemmas.{plain_by}
use Rattle.bd_wide_copy.proofs.laws.plain_documents_by_value.Goals as goal

pub returns : goal.returns
returns c = λ worth f wholes d bytes is. plain_by worth f wholes d bytes is
