use Rattle.std.proofs.Common.{◌<◌, length, arith, sym, subst, ◌∙◌, codes}
use Rattle.std.proofs.lemmas.{Result.err_from_is_err_and, List.nil_from_length, Bool.eqb-true, Bool.Decides.nat_tests}
use Rattle.bd_bson_check.specs.{inside.Fault.FailsAtItem, FirstFault.label, FirstFault.skip_nested}
use Rattle.bd_bson_check.proofs.{CheckingLemmas.reported_fails, CheckingLemmas.fails_within, FirstFaultLemmas.elements_nil}
use Rattle.bd_bson_check.proofs.CheckingLemmas as above
use Rattle.bd_bson_check.proofs.check.+checking.Goals as goal

pub element-returns-in-Err-clause-gives : goal.element-returns-in-Err-clause-gives
element-returns-in-Err-clause-gives t c =
    above.element_fails c.args.profile c.within.result (skip_nested c.args.profile c.args.depth_left) c.args.index c.args.e c.args.bytes.now c.in-Some.element_type
    c.split_at.result.1.now c.in_ok-name.name.now c.in_ok-name.rest.now c.requires.some (sym c.in-Some.ensures)
    (sym c.split_at.ensures.back) c.in_ok-name.ensures.gives
    (fails_within c.in-Err.stop c.within.result (label c.args.index c.in_ok-name.name.now) _ c.within.ensures c.in-Err.ensures.gives)

pub elements-returns-in_err-rest : goal.elements-returns-in_err-rest
elements-returns-in_err-rest t c =
    let p = err_from_is_err_and c.from_residual.result c.from_residual.ensures.1 in
    let l = c.loop-rest in
    let stop = c.in_err-rest.field-0.0 in
    let some : 0 < length l.rest.now = grind (arith, nat_tests, c.loop-rest-test.ensures) in
    rw (p.1, p.2) (subst (FailsAtItem stop) l.invariant.so_far (above.no_first c.args.profile stop l.index c.args.depth_left c.args.e l.rest.now some c.in_err-rest.ensures.gives))

pub elements-loop-rest-preserved : goal.elements-loop-rest-preserved
elements-loop-rest-preserved t c =
    let l = c.loop-rest in
    let i = l.invariant in
    let on = above.goes_on c.args.profile l.index c.args.depth_left c.args.e l.rest.now c.in_ok-rest.rest.now i.fits c.in_ok-rest.ensures.gives in
    record {
      inside = omega (arith, i.inside, on.0);
      fits = on.1;
      counted = rw c.next-index.ensures (above.counted_on l.index _ _ _ i.counted on.0);
      so_far = rw c.next-index.ensures (sym on.2 ∙ i.so_far);
    }

pub elements-returns : goal.elements-returns
elements-returns t c =
    let l = c.loop-rest in
    let none = nil_from_length l.rest.now (eqb-true _ _ (sym c.loop-rest-test.ensures)) in
    sym l.invariant.so_far ∙ rw none (elements_nil c.args.profile (skip_nested c.args.profile c.args.depth_left) l.index 0 c.args.e)

pub nested-returns-then-depth_left-eq0-clause-gives : goal.nested-returns-then-depth_left-eq0-clause-gives
nested-returns-then-depth_left-eq0-clause-gives t c =
    reported_fails c.fault_at.result _ (skip_nested c.args.profile c.args.depth_left c.args.holder c.args.q c.args.e c.args.bytes.now) c.fault_at.ensures
    (above.too_deep c.args.profile c.args.holder c.args.depth_left c.args.q c.args.e c.args.bytes.now (omega arith))

pub nested-returns-then-depth_left-eq1-clause-gives : goal.nested-returns-then-depth_left-eq1-clause-gives
nested-returns-then-depth_left-eq1-clause-gives t c =
    reported_fails c.fault_at-then-depth_left-eq1.result _ (skip_nested c.args.profile c.args.depth_left c.args.holder c.args.q c.args.e c.args.bytes.now)
    c.fault_at-then-depth_left-eq1.ensures (above.code_too_deep c.args.profile c.args.holder c.args.depth_left c.args.q c.args.e c.args.bytes.now c.in-CodeScope.is c.if-depth_left-eq1.true)

pub nested-returns-in-Document-clause-gives : goal.nested-returns-in-Document-clause-gives
nested-returns-in-Document-clause-gives t c = rw (c.in-Document.is, (above.below c.args.profile c.args.depth_left c.args.q c.args.e c.args.bytes.now (omega arith)).0) c.body.ensures.gives

pub nested-returns-in-Array-clause-gives : goal.nested-returns-in-Array-clause-gives
nested-returns-in-Array-clause-gives t c = rw (c.in-Array.is, (above.below c.args.profile c.args.depth_left c.args.q c.args.e c.args.bytes.now (omega arith)).1) c.body-in-Array.ensures.gives

pub nested-returns-else-depth_left-eq1-clause-gives : goal.nested-returns-else-depth_left-eq1-clause-gives
nested-returns-else-depth_left-eq1-clause-gives t c = rw (c.in-CodeScope.is, above.code_below c.args.profile c.args.depth_left c.args.q c.args.e c.args.bytes.now (omega arith)) c.code_scope.ensures.gives

pub code_scope-returns-in-Err-clause-gives : goal.code_scope-returns-in-Err-clause-gives
code_scope-returns-in-Err-clause-gives t c =
    above.scope_fails c.within.result (skip_nested c.args.profile c.args.depth_left) c.args.q c.args.e c.args.bytes.now c.in_ok-parts.parts.now c.in_ok-parts.end
    c.in_ok-parts.rest.now c.in_ok-scope.scope.now c.in_ok-parts.ensures.gives c.in_ok-scope.ensures.gives
    (fails_within c.in-Err.stop c.within.result (codes "$scope") _ c.within.ensures c.in-Err.ensures.gives)
