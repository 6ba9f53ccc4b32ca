use Rattle.std.proofs.Common.{arith, ◌+◌, length-drop}
use Rattle.bd_wide_text.proofs.LayoutLemmas.{short_power}
use Rattle.bd_wide_text.proofs.double.put_small.Goals as goal

pub put_scientific-requires-clause-short : goal.put_scientific-requires-clause-short
put_scientific-requires-clause-short c =
    omega (
      arith,
      c.requires.short.1,
      c.requires.zeros,
      short_power c.as_bytes-power.result.now c.format.result.now (c.args.zeros + 1) c.as_bytes-power.ensures.value c.format.ensures.text (omega (arith, c.requires.short.1, c.requires.zeros)),
      length-drop c.args.zeros c.args.fraction.now,
    )
