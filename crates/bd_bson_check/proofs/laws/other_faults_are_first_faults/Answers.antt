use Rattle.bd_bson_check.proofs.ProfileLemmas.{others_are_first}
use Rattle.bd_bson_check.proofs.laws.other_faults_are_first_faults.Goals as goal

pub returns : goal.returns
returns c = λ base bytes reports. others_are_first base bytes reports
