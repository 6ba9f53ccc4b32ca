use Rattle.std.proofs.Common.{arith, refl}
use Rattle.bd_wide_number.proofs.ValueLemmas.{leading_bits, leading_high}
use Rattle.bd_wide_number.proofs.code.double_bits.Goals as goal

pub overflow_sub-shift : goal.overflow_sub-shift
overflow_sub-shift c = leading_high c.args.odd c.requires.odd.0 c.requires.odd.1

pub overflow_add-result : goal.overflow_add-result
overflow_add-result c = omega (arith, leading_bits c.args.odd c.requires.odd.0 c.requires.odd.1 c.args.twos c.requires.twos.0 c.requires.twos.1 _ refl)

pub returns-clause-below : goal.returns-clause-below
returns-clause-below c = (leading_bits c.args.odd c.requires.odd.0 c.requires.odd.1 c.args.twos c.requires.twos.0 c.requires.twos.1 _ refl).0

pub returns-clause-is : goal.returns-clause-is
returns-clause-is c = (leading_bits c.args.odd c.requires.odd.0 c.requires.odd.1 c.args.twos c.requires.twos.0 c.requires.twos.1 _ refl).1
