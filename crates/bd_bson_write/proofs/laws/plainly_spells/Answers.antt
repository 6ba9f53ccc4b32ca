use Rattle.bd_bson_write.proofs.WritingLemmas as written
use Rattle.bd_bson_write.proofs.laws.plainly_spells.Goals as goal

pub returns : goal.returns
returns c = written.plainly_spells
