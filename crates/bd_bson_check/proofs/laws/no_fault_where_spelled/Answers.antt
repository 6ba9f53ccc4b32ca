use Rattle.bd_bson_check.proofs.DumpLemmas.{document_faultless, found_document}
use Rattle.bd_bson_check.proofs.laws.no_fault_where_spelled.Goals as goal

pub returns : goal.returns
returns c = record { none = document_faultless; spelled = λ base bytes fits is. found_document base bytes fits is }
