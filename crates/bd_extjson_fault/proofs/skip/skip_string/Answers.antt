use Rattle.std.proofs.Common.{◌∙◌, sym, refl, ◌==◌, arith}
use Rattle.std.proofs.lemmas.Result.{err_from_is_err_and}
use Rattle.bd_extjson_fault.specs.JsonSyntax.{beyond_character, beyond_string}
use Rattle.bd_extjson_fault.proofs.PassingLemmas.{closed, stopped, goes_on}
use Rattle.bd_extjson_fault.proofs.skip.skip_string.Goals as goal

pub returns-in_err-rest-clause-beyond : goal.returns-in_err-rest-clause-beyond
unfolding beyond_character
returns-in_err-rest-clause-beyond c =
    let p = err_from_is_err_and c.from_residual.result c.from_residual.ensures.1 in
    let l = c.loop-rest in
    rw (p.1, p.2) (stopped (λ b. b == 34) beyond_character (beyond_string c.args.text.now) l.rest.now _ (sym c.begins.ensures ∙ c.loop-rest-test.true) refl c.in_err-rest.ensures.beyond l.invariant.beyond)

pub loop-rest-preserved : goal.loop-rest-preserved
loop-rest-preserved c =
    let l = c.loop-rest in
    let e = c.in_ok-rest.ensures in
    record {
      beyond = goes_on (λ b. b == 34) beyond_character _ l.rest.now c.in_ok-rest.rest.now (sym c.begins.ensures ∙ c.loop-rest-test.true) e.beyond e.shorter l.invariant.beyond;
      shorter = omega (arith, e.shorter, l.invariant.shorter);
    }

pub returns-clause-beyond : goal.returns-clause-beyond
returns-clause-beyond c =
    let l = c.loop-rest in
    rw c.skip_byte.ensures.beyond (closed (λ b. b == 34) beyond_character (beyond_string c.args.text.now) l.rest.now (sym c.begins.ensures ∙ c.loop-rest-test.false) l.invariant.beyond)
