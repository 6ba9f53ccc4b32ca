use Rattle.std.proofs.Common.{arith, ◌+◌, ◌++◌, take, ap, ◌∙◌}
use Rattle.bd_wide_text.proofs.LimitedTextLemmas.{short_power, laid_down, laid_near, three}
use Rattle.bd_wide_text.proofs.limited.put_down.Goals as goal

pub put_scientific-requires-clause-short : goal.put_scientific-requires-clause-short
put_scientific-requires-clause-short c =
    omega (arith, c.requires.digits, short_power c.as_bytes-power.result.now c.format.result.now (c.args.count + 1) c.as_bytes-power.ensures.value c.format.ensures.text (omega (arith, c.requires.count)))

pub returns-then-count-gt3-clause-appended : goal.returns-then-count-gt3-clause-appended
returns-then-count-gt3-clause-appended c =
    c.put_scientific.ensures.appended ∙ ap (λ t. take c.args.end c.args.buffer.now ++ t)
    (laid_down c.args.digits.now c.as_bytes-power.result.now c.args.count c.if-count-gt3.true (c.as_bytes-power.ensures.value ∙ c.format.ensures.text))

pub returns-clause-appended : goal.returns-clause-appended
returns-clause-appended c =
    three _ _ _ _ _ _ _ c.put-at.ensures.appended c.put-at-2.ensures.appended c.put.ensures.appended
    ∙ ap (λ t. take c.args.end c.args.buffer.now ++ t) (laid_near c.args.digits.now _ c.args.count c.if-count-gt3.false c.zeros.ensures)
