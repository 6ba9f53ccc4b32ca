use Rattle.std.proofs.Common.{◌≡◌, sym, subst, ◌∙◌, IfOk}
use Rattle.bd_extjson_fault.proofs.FindingLemmas.{scope_then_code}
use Rattle.bd_extjson_fault.proofs.second_pass.Pass.pair_fault.Goals as goal

pub returns-then-is_code-2-clause-fault : goal.returns-then-is_code-2-clause-fault
returns-then-is_code-2-clause-fault c = λ fault before.
    let p = scope_then_code fault c.args.levels c.args.text.now c.args.first.text.now c.args.second.text.now c.args.first.wrapper c.args.second.wrapper
    c.args.self.now.fault (sym c.is_code.ensures ∙ c.if-is_code.false) (sym c.is_scope-else-is_code.ensures ∙ c.if-is_scope-2.true)
    (sym c.is_code-then-is_scope-2.ensures ∙ c.if-is_code-2.true) before in
    subst (λ reported. IfOk c.scope_fault-then-is_code-2.result (λ f. f ≡ reported)) (sym p.1) (c.scope_fault-then-is_code-2.ensures.fault fault p.0)
