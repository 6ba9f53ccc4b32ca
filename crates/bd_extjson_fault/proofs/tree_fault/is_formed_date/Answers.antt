use Rattle.std.proofs.Common.{ap, ◌∙◌, option_and_then}
use Rattle.json.specs.Find.{as_str}
use Rattle.bd_extjson_fault.specs.TreeFault.{is_whole}
use Rattle.bd_extjson_fault.proofs.tree_fault.is_formed_date.Goals as goal

pub returns-in-Some : goal.returns-in-Some
returns-in-Some c = c.is_whole.ensures ∙ ap is_whole (c.as_str.ensures ∙ ap (option_and_then as_str) c.in-Some.ensures)

pub returns-in-None : goal.returns-in-None
returns-in-None c = ap (λ o. is_whole (option_and_then as_str o)) c.in-None.ensures
