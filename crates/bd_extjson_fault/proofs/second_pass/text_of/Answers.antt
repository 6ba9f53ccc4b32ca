use Rattle.std.proofs.Common.{ap, sym, ◌∙◌}
use Rattle.bd_extjson_fault.proofs.TextFaultLemmas.{of_bad_utf8, syntax_reported}
use Rattle.bd_extjson_fault.proofs.second_pass.text_of.Goals as goal

pub returns-in-Err-clause-is : goal.returns-in-Err-clause-is
returns-in-Err-clause-is c =
    c.syntax_at.ensures ∙ ap syntax_reported (c.valid_up_to.ensures ∙ c.in-Err.ensures.valid_len) ∙ sym (of_bad_utf8 c.args.bytes.now c.in-Err.ensures.cases.0)
