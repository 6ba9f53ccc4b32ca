use Rattle.bd_wide_text.proofs.ReadBackLemmas.{reads_back}
use Rattle.bd_wide_text.proofs.laws.double_text_reads_back.Goals as goal

pub returns : goal.returns
returns c = reads_back
