use Rattle.bd_extjson_fault.proofs.TreeFaultLemmas.{value_or_fault}
use Rattle.bd_extjson_fault.proofs.laws.wrapper_is_value_or_fault.Goals as goal

pub returns : goal.returns
returns c = value_or_fault
