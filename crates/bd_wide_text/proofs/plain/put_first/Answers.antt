use Rattle.std.proofs.Common.{arith, length-take, take}
use Rattle.bd_wide_text.proofs.DoubleLemmas.{sized_bits, sized_finite}
use Rattle.bd_wide_text.proofs.PlainLemmas.{middling_sized, plain_text}
use Rattle.bd_wide_text.proofs.plain.put_first.Goals as goal

pub float_from_bits-bits : goal.float_from_bits-bits
float_from_bits-bits c = sized_bits c.args.bits (middling_sized c.args.bits c.ranges.bits.fits c.requires.size)

pub format-count-requires : goal.format-count-requires
format-count-requires c = sized_finite _ (middling_sized c.args.bits c.ranges.bits.fits c.requires.size)

pub returns-clause-text : goal.returns-clause-text
returns-clause-text c =
    plain_text c.args.bits (take c.format-count.result c.format-count.new.out) c.ranges.bits.fits c.requires.size c.format-count.ensures.parses c.format-count.ensures.layout
    (omega (arith, c.format-count.ensures.short, length-take c.format-count.result c.format-count.new.out)) (c.is_short.ensures c.if-not-is_short.false)
