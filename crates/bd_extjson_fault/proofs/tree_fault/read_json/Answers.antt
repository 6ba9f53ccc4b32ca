use Rattle.std.proofs.Common.{sym}
use Rattle.bd_extjson_fault.proofs.TreeFaultLemmas.{json_of_other, json_of_value}
use Rattle.bd_extjson_fault.proofs.tree_fault.read_json.Goals as goal

pub returns-in_default : goal.returns-in_default
returns-in_default c = sym (json_of_other c.args.bytes.now c.in_default.ensures.cases.0)

pub returns-in-Ok-read : goal.returns-in-Ok-read
returns-in-Ok-read c = sym (json_of_value c.args.bytes.now c.in-Ok.text.now c.in_ok-reader.reader _ _ c.in-Ok.ensures.cases.0 c.in-Ok.ensures.cases.1
    c.in_ok-reader.ensures.ok c.in-Ok-read.ensures.ok)
