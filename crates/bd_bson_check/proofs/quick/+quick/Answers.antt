use Rattle.std.proofs.Common.{◌+◌, ◌-◌, ◌∙◌, rules, ℕ, Option, None, length, arith, sym, option_map, suc}
use Rattle.std.proofs.lemmas.{List.nil_from_length, Bool.eqb-true}
use Rattle.bd_bson_check.specs.FirstFault.{skip_nested}
use Rattle.bd_bson_check.proofs.{CheckingLemmas.number_gives, CheckingLemmas.value_gives, CheckingLemmas.nested_gives, CheckingLemmas.body_gives, CheckingLemmas.goes_on, FirstFaultLemmas.elements_nil}
use Rattle.bd_bson_check.proofs.quick.+quick.Goals as goal

pub after_element-returns-in-Doc-clause-gives : goal.after_element-returns-in-Doc-clause-gives
after_element-returns-in-Doc-clause-gives t c =
    nested_gives c.args.profile (skip_nested c.args.profile c.args.depth_left) c.in_ok-typed.typed c.args.bytes.now c.in_ok-typed.value.now c.in_ok-typed.ensures.gives
    c.in-Kept.kind c.in-Kept.is c.after_nested.result c.in-Doc.is c.after_nested.ensures.gives

pub after_element-returns-in_default-kind-clause-gives : goal.after_element-returns-in_default-kind-clause-gives
after_element-returns-in_default-kind-clause-gives t c =
    value_gives c.args.profile (skip_nested c.args.profile c.args.depth_left) c.in_ok-typed.typed c.args.bytes.now c.in_ok-typed.value.now c.in_ok-typed.ensures.gives
    c.in-Kept.kind c.in-Kept.is c.after_value.result c.after_value.ensures.gives

pub after_element-returns-in_default-clause-gives : goal.after_element-returns-in_default-clause-gives
after_element-returns-in_default-clause-gives t c =
    number_gives c.args.profile (skip_nested c.args.profile c.args.depth_left) c.in_ok-typed.typed c.args.bytes.now c.in_ok-typed.value.now c.in_ok-typed.ensures.gives
    c.after_number.result c.after_number.ensures.gives

pub after_nested-returns-clause-gives : goal.after_nested-returns-clause-gives
after_nested-returns-clause-gives t c =
    body_gives c.args.profile c.args.depth_left c.args.bytes.now c.in_ok-body.body.now c.in_ok-body.after.now (λ e. e - (length c.in_ok-body.after.now + 1)) (omega arith) c.in_ok-body.ensures.gives
    (c.are_sound.ensures (search rules))

pub are_sound-loop-rest-preserved : goal.are_sound-loop-rest-preserved
are_sound-loop-rest-preserved t c =
    let l = c.loop-rest in
    let on = λ (index : Option ℕ). λ (e : ℕ). goes_on c.args.profile index c.args.depth_left e l.rest.now c.in-Some.after.now l.invariant.fits (c.in-Some.ensures.gives index e) in
    record { fits = (on None 0).1; whole = λ sound. l.invariant.whole (λ index e. (on index e).2 ∙ sound (option_map suc index) e) }

pub are_sound-returns : goal.are_sound-returns
are_sound-returns t c = λ is.
    let l = c.loop-rest in
    let none = nil_from_length l.rest.now (eqb-true _ _ (sym c.loop-rest-test.ensures)) in
    l.invariant.whole (λ index e. rw none (elements_nil c.args.profile (skip_nested c.args.profile c.args.depth_left) index 0 e))
