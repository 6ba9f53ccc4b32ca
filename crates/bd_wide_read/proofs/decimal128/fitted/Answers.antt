use Rattle.std.proofs.Common.{arith, ◌-◌}
use Rattle.bd_wide_read.proofs.DecimalLemmas.{divided_none, divided_worth, if_none, multiplied_none, multiplied_worth}
use Rattle.bd_wide_read.proofs.decimal128.fitted.Goals as goal

pub returns-in_err-c-clause-none : goal.returns-in_err-c-clause-none
returns-in_err-c-clause-none c = λ above below apart. if_none _
    (divided_none c.args.number above below c.args.up c.args.down apart c.if-up-down.true (c.in_err-c.ensures.none below (omega (arith, apart.under))))

pub returns-then-up-down-clause-some : goal.returns-then-up-down-clause-some
returns-then-up-down-clause-some c = λ above below apart.
    divided_worth c.args.number above below c.args.up c.args.down c.in_ok-c.c c.requires.coefficient apart c.if-up-down.true (c.in_ok-c.ensures.some below (omega (arith, apart.under)))

pub returns-in_err-c-2-clause-none : goal.returns-in_err-c-2-clause-none
returns-in_err-c-2-clause-none c = λ above below apart. if_none _
    (multiplied_none c.args.number above below c.args.up c.args.down apart c.if-up-down.false c.if-above-le-GREATEST.false
    (c.in_err-c-2.ensures.none (above - 12287) (omega (arith, apart.over))))

pub returns-clause-some : goal.returns-clause-some
returns-clause-some c = λ above below apart.
    multiplied_worth c.args.number above below c.args.up c.args.down c.in_ok-c-2.c apart c.if-up-down.false c.if-above-le-GREATEST.false
    (c.in_ok-c-2.ensures.some (above - 12287) (omega (arith, apart.over)))
