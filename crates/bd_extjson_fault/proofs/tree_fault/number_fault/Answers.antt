use Rattle.std.proofs.Common.{sym, ◌∙◌}
use Rattle.bd_extjson_fault.proofs.TreeFaultLemmas.{whole_is_text}
use Rattle.bd_extjson_fault.proofs.tree_fault.number_fault.Goals as goal

pub returns-in_default-2 : goal.returns-in_default-2
returns-in_default-2 c =
    let cases = rw c.in_default.is at c.from_utf8.ensures.cases in
    absurd (cases.0 (whole_is_text c.args.number.now (sym c.is_whole_number.ensures ∙ c.if-not-is_whole_number.false)))
