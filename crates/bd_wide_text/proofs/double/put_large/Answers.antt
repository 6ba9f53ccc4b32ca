use Rattle.std.proofs.Common.{arith, ◌-◌, length, length-take}
use Rattle.bd_wide_text.proofs.LayoutLemmas.{short_power}
use Rattle.bd_wide_text.proofs.double.put_large.Goals as goal

pub put_scientific-requires-clause-short : goal.put_scientific-requires-clause-short
put_scientific-requires-clause-short c =
    omega (
      arith,
      c.requires.short.1,
      short_power c.as_bytes-power.result.now c.format.result.now (length c.args.whole.now - 1) c.as_bytes-power.ensures.value c.format.ensures.text (omega (arith, c.requires.short.1)),
      length-take c.args.count c.args.whole.now,
    )

pub put_scientific-requires-else-fraction-eq48-clause-short : goal.put_scientific-requires-else-fraction-eq48-clause-short
put_scientific-requires-else-fraction-eq48-clause-short c =
    omega (arith, c.requires.short.1, short_power c.as_bytes-power.result.now c.format.result.now (length c.args.whole.now - 1) c.as_bytes-power.ensures.value c.format.ensures.text (omega (arith, c.requires.short.1)))
