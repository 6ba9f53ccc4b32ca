use Rattle.std.proofs.Common.{refl, rules, ◌≡◌, sym, ◌∙◌}
use Rattle.bd_io_stdout.specs.declared.output_buffer.WriteState.TheVariants.{Intact}
use Rattle.bd_io_stdout.proofs.OutputBufferLemmas.{WriteFails-writes, TakesAllBytes-writes, is_intact, hands_all, hands_broken, hands_none, in_err, in_ok}
use Rattle.bd_io_stdout.proofs.output_buffer.OutputBuffer.hand_on.Goals as goal

pub returns-then-is_empty-clause-handed : goal.returns-then-is_empty-clause-handed
returns-then-is_empty-clause-handed g c = hands_none g.D.Output c.args.self.now _ refl refl refl

pub returns-then-is_err-clause-handed : goal.returns-then-is_err-clause-handed
returns-then-is_err-clause-handed g c =
    let e = c.write_all-written.ensures in
    let failed = sym c.is_err.ensures.value ∙ c.if-is_err.true in
    let intact : c.self.inside.write_state ≡ Intact = is_intact _ (λ not. let none = c.self.invariant.3 not in search (rules, none)) in
    let write_fails = WriteFails-writes g.D.Output _ _ _ (in_err _ _ failed e.write_failed) (in_err _ _ failed e.stopped) in
    rw (← c.self.view_is) (hands_broken g.D.Output _ _ intact (search rules) (rw c.deref.ensures.value at write_fails))

pub returns-clause-handed : goal.returns-clause-handed
returns-clause-handed g c =
    let e = c.write_all-written.ensures in
    let no_failure = sym c.is_err.ensures.value ∙ c.if-is_err.false in
    let intact : c.self.inside.write_state ≡ Intact = is_intact _ (λ not. let none = c.self.invariant.3 not in search (rules, none)) in
    let takes = TakesAllBytes-writes g.D.Output _ _ _ (in_ok _ _ no_failure e.written) (in_ok _ _ no_failure e.writes) in
    rw (← c.self.view_is) (hands_all g.D.Output _ _ intact intact c.clear.ensures.items (rw c.deref.ensures.value at takes))
