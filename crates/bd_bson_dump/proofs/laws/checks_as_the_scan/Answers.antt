use Rattle.bd_bson_dump.proofs.CheckResultLemmas.{as_scan, joined_where_whole}
use Rattle.bd_bson_dump.proofs.laws.checks_as_the_scan.Goals as goal

pub returns : goal.returns
returns c = record { begin = as_scan; whole = λ bytes fits all. joined_where_whole bytes fits all }
