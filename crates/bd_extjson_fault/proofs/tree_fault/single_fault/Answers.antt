use Rattle.std.proofs.Common.{ap, sym, ◌∙◌, refl, Some}
use Rattle.bd_extjson_fault.proofs.TreeFaultLemmas.{meaning, refused}
use Rattle.bd_extjson_fault.proofs.tree_fault.single_fault.Goals as goal

pub returns-in-None : goal.returns-in-None
returns-in-None c = rw (meaning _ c.unwrap_single.result _ c.unwrap_single.ensures.value (sym c.err.ensures.value ∙ c.in-None.is)) refl

pub returns-in-Some-Refused : goal.returns-in-Some-Refused
returns-in-Some-Refused c =
    rw (refused _ c.unwrap_single.result _ c.unwrap_single.ensures.value (sym c.err.ensures.value ∙ c.in-Some-Refused.is ∙ ap Some c.in-Some-Refused.field-0-is))
    (ap Some c.refusal.ensures)
