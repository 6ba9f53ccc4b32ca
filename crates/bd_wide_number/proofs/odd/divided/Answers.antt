use Rattle.std.proofs.Common.{arith}
use Rattle.bd_wide_number.proofs.OddLemmas.{five_to_48, none_above_48, not_divided}
use Rattle.bd_wide_number.proofs.odd.divided.Goals as goal

pub returns-then-n-gt-MOST_FIVES-clause-not : goal.returns-then-n-gt-MOST_FIVES-clause-not
returns-then-n-gt-MOST_FIVES-clause-not c = none_above_48 _ _ c.requires.0 c.requires.1 c.if-n-gt-MOST_FIVES.true

pub pow-power-requires : goal.pow-power-requires
pow-power-requires c = (five_to_48 _ c.if-n-gt-MOST_FIVES.false).1

pub nonzero_rem-number : goal.nonzero_rem-number
nonzero_rem-number c = omega (arith, five_to_48 c.args.n c.if-n-gt-MOST_FIVES.false)

pub returns-then-number-power-ne0-clause-not : goal.returns-then-number-power-ne0-clause-not
returns-then-number-power-ne0-clause-not c = rw (← c.pow-power.ensures) (not_divided c.args.number c.pow-power.result c.if-number-power-ne0.true)
