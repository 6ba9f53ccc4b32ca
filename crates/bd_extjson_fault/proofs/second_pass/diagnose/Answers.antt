use Rattle.std.proofs.Common.{[], sym, ◌∙◌, Some, None}
use Rattle.bd_extjson_fault.proofs.TextFaultLemmas.{of_no_json, of_tree}
use Rattle.bd_extjson_fault.proofs.second_pass.diagnose.Goals as goal

pub returns-in-Ok-None-clause-is : goal.returns-in-Ok-None-clause-is
returns-in-Ok-None-clause-is c = λ kind.
    c.syntax_at.ensures ∙ sym (of_tree c.args.text.now [] None c.utf8.text c.in-Ok-None.ensures.beyond (sym c.in-Ok-None.field-0-is ∙ c.in-Ok-None.ensures.first))

pub returns-in-Ok-Some-clause-is : goal.returns-in-Ok-Some-clause-is
returns-in-Ok-Some-clause-is c = λ kind.
    sym (of_tree c.args.text.now [] (Some c.in-Ok-Some.fault) c.utf8.text c.in-Ok-Some.ensures.beyond (sym c.in-Ok-Some.field-0-is ∙ c.in-Ok-Some.ensures.first))

pub returns-in-Err-NoJson-clause-is : goal.returns-in-Err-NoJson-clause-is
returns-in-Err-NoJson-clause-is c = λ kind.
    let beyond = rw c.in-Err-NoJson.field-0-is at c.in-Err-NoJson.ensures.beyond in
    c.stop_in.ensures.is ∙ sym (of_no_json c.args.text.now c.in-Err-NoJson.stop c.utf8.text beyond)
