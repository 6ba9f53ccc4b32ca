use Rattle.std.proofs.Common.{sym, ◌∙◌}
use Rattle.fast_float.proofs.Rows.{AllDigits-append}
use Rattle.bd_wide_text.proofs.LimitedTextLemmas.{limited_down, limited_up, sums_fit}
use Rattle.bd_wide_text.proofs.limited.limited.Goals as goal

pub number-leading-requires-clause-digits : goal.number-leading-requires-clause-digits
number-leading-requires-clause-digits c = AllDigits-append _ _ c.whole-whole.ensures.digits c.fraction-fraction.ensures.digits

pub overflow_add-result : goal.overflow_add-result
overflow_add-result c =
    let fits = sums_fit c.args.numeral.now c.whole-whole.result.now c.fraction-fraction.result.now c.exponent-exponent.result.now c.args.zeros c.number-leading.result c.number-power.result
    c.whole-whole.ensures.value c.fraction-fraction.ensures.value c.exponent-exponent.ensures.value c.whole-whole.ensures.digits c.fraction-fraction.ensures.digits c.exponent-exponent.ensures.digits
    c.requires.digits c.requires.short c.number-leading.ensures c.number-power.ensures in
    record { fits = fits.0 }

pub overflow_add-result-2 : goal.overflow_add-result-2
overflow_add-result-2 c =
    let fits = sums_fit c.args.numeral.now c.whole-whole.result.now c.fraction-fraction.result.now c.exponent-exponent.result.now c.args.zeros c.number-leading.result c.number-power.result
    c.whole-whole.ensures.value c.fraction-fraction.ensures.value c.exponent-exponent.ensures.value c.whole-whole.ensures.digits c.fraction-fraction.ensures.digits c.exponent-exponent.ensures.digits
    c.requires.digits c.requires.short c.number-leading.ensures c.number-power.ensures in
    record { fits = fits.1 }

pub returns-then-is_exponent_negative : goal.returns-then-is_exponent_negative
returns-then-is_exponent_negative c =
    limited_down c.args.numeral.now c.whole-whole.result.now c.fraction-fraction.result.now c.exponent-exponent.result.now c.args.zeros c.number-leading.result c.number-power.result
    c.whole-whole.ensures.value c.fraction-fraction.ensures.value c.exponent-exponent.ensures.value c.whole-whole.ensures.digits c.fraction-fraction.ensures.digits c.exponent-exponent.ensures.digits
    c.requires.digits c.requires.short c.number-leading.ensures c.number-power.ensures (sym c.is_exponent_negative.ensures ∙ c.if-is_exponent_negative.true)

pub returns : goal.returns
returns c =
    limited_up c.args.numeral.now c.whole-whole.result.now c.fraction-fraction.result.now c.exponent-exponent.result.now c.args.zeros c.number-leading.result c.number-power.result
    c.whole-whole.ensures.value c.fraction-fraction.ensures.value c.exponent-exponent.ensures.value c.whole-whole.ensures.digits c.fraction-fraction.ensures.digits c.exponent-exponent.ensures.digits
    c.requires.digits c.requires.short c.number-leading.ensures c.number-power.ensures (sym c.is_exponent_negative.ensures ∙ c.if-is_exponent_negative.false)
