use Rattle.std.proofs.Common.{arith, ◌++◌, take, ap, ◌∙◌, codes}
use Rattle.bd_wide_text.proofs.LimitedTextLemmas.{short_power, laid_up, laid_broken, laid_whole, three}
use Rattle.bd_wide_text.proofs.limited.put_up.Goals as goal

pub put_scientific-requires-clause-short : goal.put_scientific-requires-clause-short
put_scientific-requires-clause-short c =
    omega (arith, c.requires.digits, short_power c.as_bytes-power.result.now c.format.result.now c.args.power c.as_bytes-power.ensures.value c.format.ensures.text (omega (arith, c.requires.power)))

pub returns-then-power-gt5-clause-appended : goal.returns-then-power-gt5-clause-appended
returns-then-power-gt5-clause-appended c =
    c.put_scientific.ensures.appended ∙ ap (λ t. take c.args.end c.args.buffer.now ++ t)
    (laid_up c.args.digits.now c.as_bytes-power.result.now c.args.power c.if-power-gt5.true (c.as_bytes-power.ensures.value ∙ c.format.ensures.text))

pub returns-then-power-digits-clause-appended : goal.returns-then-power-digits-clause-appended
returns-then-power-digits-clause-appended c =
    let ds = c.args.digits.now in
    three _ _ _ _ _ _ _ c.put-at.ensures.appended c.put-at-then-power-digits.ensures.appended c.put.ensures.appended
    ∙ (λ i. take c.args.end c.args.buffer.now ++ (c.split_at.ensures.front i ++ (codes "." ++ c.split_at.ensures.back i)))
    ∙ ap (λ t. take c.args.end c.args.buffer.now ++ t) (laid_broken ds c.args.power c.if-power-gt5.false c.if-power-digits.true)

pub returns-clause-appended : goal.returns-clause-appended
returns-clause-appended c =
    three _ _ _ _ _ _ _ c.put-at-2.ensures.appended c.put-at-3.ensures.appended c.put-2.ensures.appended
    ∙ ap (λ t. take c.args.end c.args.buffer.now ++ t) (laid_whole c.args.digits.now _ c.args.power c.if-power-gt5.false c.if-power-digits.false c.zeros.ensures)
