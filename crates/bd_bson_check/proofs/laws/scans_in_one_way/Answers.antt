use Rattle.std.proofs.Common.{[], refl}
use Rattle.bd_bson_check.proofs.DumpLemmas.{scan_once, scan_on}
use Rattle.bd_bson_check.proofs.laws.scans_in_one_way.Goals as goal

pub returns : goal.returns
returns c = record {
  some = λ bytes fits. let w = scan_on [] [] bytes fits refl in (w.more, w.end, w.scan);
  one = λ bytes ds es end other v w. scan_once ds es end other bytes v w;
}
