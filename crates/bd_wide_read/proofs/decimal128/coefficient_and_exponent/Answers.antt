use Rattle.std.proofs.Common.{◌≡◌, ◌∙◌, ◌^◌, ℕ, arith, ap, length, sym, subst, min}
use Rattle.std.specs.Float.Numeral.{numeral_digits}
use Rattle.std.specs.Str.Parse.{digits_value}
use Rattle.bd_wide_read.specs.DecimalText.{IsWorth, scaled_of}
use Rattle.bd_wide_read.specs.inside.Digits.{HasTooMany}
use Rattle.bd_wide_read.proofs.DecimalLemmas.{apart_negative, apart_positive, digits_same, exact_if, if_none, many_none, none_if}
use Rattle.bd_wide_read.proofs.decimal128.coefficient_and_exponent.Goals as goal

pub returns-in_err-kept-clause-none : goal.returns-in_err-kept-clause-none
returns-in_err-kept-clause-none c =
    let p = c.args.numeral.now in
    let many : HasTooMany (numeral_digits p) = subst HasTooMany (digits_same p _ _ c.whole.ensures.value c.fraction.ensures.value) c.in_err-kept.ensures.none in
    let none : (q b : ℕ) → IsWorth (scaled_of p) q b → ⊥ = λ q b w. many_none _ _ _ q b many w in
    if_none _ none

pub returns-then-is_exponent_negative-clause-some : goal.returns-then-is_exponent_negative-clause-some
returns-then-is_exponent_negative-clause-some c =
    let p = c.args.numeral.now in
    let whole : length c.whole.result.now ≡ length p.whole = ap length c.whole.ensures.value in
    let fraction : length c.fraction.result.now ≡ length p.fraction = ap length c.fraction.ensures.value in
    let decimals : length c.fraction-2.result.now ≡ length p.fraction = ap length c.fraction-2.ensures.value in
    exact_if c.fitted.result p c.in_ok-kept.kept.number c.in_ok-kept.kept.zeros _ _
    (c.in_ok-kept.ensures.value ∙ digits_same p _ _ c.whole.ensures.value c.fraction.ensures.value) c.in_ok-kept.ensures.limits
    (apart_negative p c.in_ok-kept.kept.zeros c.capped_value-power.result _ _ (sym c.is_exponent_negative.ensures ∙ c.if-is_exponent_negative.true)
    (c.capped_value-power.ensures ∙ ap (λ t. min (digits_value 10 t) (2 ^ 100)) c.exponent.ensures.value) (omega (arith, c.in_ok-kept.ensures.zeros)) (omega arith) (omega arith) (omega arith))
    c.fitted.ensures.some

pub returns-then-is_exponent_negative-clause-none : goal.returns-then-is_exponent_negative-clause-none
returns-then-is_exponent_negative-clause-none c =
    let p = c.args.numeral.now in
    let whole : length c.whole.result.now ≡ length p.whole = ap length c.whole.ensures.value in
    let fraction : length c.fraction.result.now ≡ length p.fraction = ap length c.fraction.ensures.value in
    let decimals : length c.fraction-2.result.now ≡ length p.fraction = ap length c.fraction-2.ensures.value in
    none_if c.fitted.result p c.in_ok-kept.kept.number c.in_ok-kept.kept.zeros _ _
    (c.in_ok-kept.ensures.value ∙ digits_same p _ _ c.whole.ensures.value c.fraction.ensures.value)
    (apart_negative p c.in_ok-kept.kept.zeros c.capped_value-power.result _ _ (sym c.is_exponent_negative.ensures ∙ c.if-is_exponent_negative.true)
    (c.capped_value-power.ensures ∙ ap (λ t. min (digits_value 10 t) (2 ^ 100)) c.exponent.ensures.value) (omega (arith, c.in_ok-kept.ensures.zeros)) (omega arith) (omega arith) (omega arith))
    c.fitted.ensures.none

pub returns-else-is_exponent_negative-clause-some : goal.returns-else-is_exponent_negative-clause-some
returns-else-is_exponent_negative-clause-some c =
    let p = c.args.numeral.now in
    let whole : length c.whole.result.now ≡ length p.whole = ap length c.whole.ensures.value in
    let fraction : length c.fraction.result.now ≡ length p.fraction = ap length c.fraction.ensures.value in
    let decimals : length c.fraction-2.result.now ≡ length p.fraction = ap length c.fraction-2.ensures.value in
    exact_if c.fitted-else-is_exponent_negative.result p c.in_ok-kept.kept.number c.in_ok-kept.kept.zeros _ _
    (c.in_ok-kept.ensures.value ∙ digits_same p _ _ c.whole.ensures.value c.fraction.ensures.value) c.in_ok-kept.ensures.limits
    (apart_positive p c.in_ok-kept.kept.zeros c.capped_value-power.result _ _ (sym c.is_exponent_negative.ensures ∙ c.if-is_exponent_negative.false)
    (c.capped_value-power.ensures ∙ ap (λ t. min (digits_value 10 t) (2 ^ 100)) c.exponent.ensures.value) (omega (arith, c.in_ok-kept.ensures.zeros)) (omega arith) (omega arith) (omega arith))
    c.fitted-else-is_exponent_negative.ensures.some

pub returns-else-is_exponent_negative-clause-none : goal.returns-else-is_exponent_negative-clause-none
returns-else-is_exponent_negative-clause-none c =
    let p = c.args.numeral.now in
    let whole : length c.whole.result.now ≡ length p.whole = ap length c.whole.ensures.value in
    let fraction : length c.fraction.result.now ≡ length p.fraction = ap length c.fraction.ensures.value in
    let decimals : length c.fraction-2.result.now ≡ length p.fraction = ap length c.fraction-2.ensures.value in
    none_if c.fitted-else-is_exponent_negative.result p c.in_ok-kept.kept.number c.in_ok-kept.kept.zeros _ _
    (c.in_ok-kept.ensures.value ∙ digits_same p _ _ c.whole.ensures.value c.fraction.ensures.value)
    (apart_positive p c.in_ok-kept.kept.zeros c.capped_value-power.result _ _ (sym c.is_exponent_negative.ensures ∙ c.if-is_exponent_negative.false)
    (c.capped_value-power.ensures ∙ ap (λ t. min (digits_value 10 t) (2 ^ 100)) c.exponent.ensures.value) (omega (arith, c.in_ok-kept.ensures.zeros)) (omega arith) (omega arith) (omega arith))
    c.fitted-else-is_exponent_negative.ensures.none
