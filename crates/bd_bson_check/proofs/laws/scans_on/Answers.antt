use Rattle.bd_bson_check.proofs.DumpLemmas.{scan_on}
use Rattle.bd_bson_check.proofs.laws.scans_on.Goals as goal

pub returns : goal.returns
returns c = λ ds prefix rest fits j. let w = scan_on ds prefix rest fits j in (w.more, w.end, w.scan)
