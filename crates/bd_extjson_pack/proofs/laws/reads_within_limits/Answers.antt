use Rattle.bd_extjson_pack.proofs.PlainLemmas.{reads_plain}
use Rattle.bd_extjson_pack.proofs.laws.reads_within_limits.Goals as goal

pub returns : goal.returns
returns c = record { deep = λ line d reads. (reads_plain line d reads).0; zeros = λ line d reads. (reads_plain line d reads).1 }
