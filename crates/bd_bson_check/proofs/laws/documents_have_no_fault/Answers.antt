use Rattle.std.proofs.Common.{◌+◌, length, ap}
use Rattle.std.specs.Result.{result_err}
use Rattle.bd_bson_check.specs.declared.profile.Profile.TheVariants.{All}
use Rattle.bd_bson_check.proofs.FirstFaultLemmas.{document_again}
use Rattle.bd_bson_check.proofs.laws.documents_have_no_fault.Goals as goal

pub returns : goal.returns
returns c = λ base bytes d is. ap result_err (document_again All (base + length bytes) bytes d is)
