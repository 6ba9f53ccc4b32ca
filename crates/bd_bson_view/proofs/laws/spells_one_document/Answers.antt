use Rattle.bd_bson_view.proofs.SoundLemmas.{document_unique}
use Rattle.bd_bson_view.proofs.laws.spells_one_document.Goals as goal

pub returns : goal.returns
returns c = document_unique
