use Rattle.std.proofs.Common.{◌-◌, arith}
use Rattle.bd_wide_number.proofs.OddLemmas.{divided_is, divided_wide, if_none, not_whole, raised_is, raised_wide}
use Rattle.bd_wide_number.proofs.odd.odd_part.Goals as goal

pub returns-in_err-divided-clause-wide : goal.returns-in_err-divided-clause-wide
returns-in_err-divided-clause-wide c =
    if_none _ (not_whole c.args.number c.args.twos c.args.fives (6176 - c.args.fives) (omega arith) c.in_err-divided.ensures.not)

pub returns-then-fives-lt6176-clause-is : goal.returns-then-fives-lt6176-clause-is
returns-then-fives-lt6176-clause-is c =
    divided_is c.args.number c.args.twos c.args.fives (6176 - c.args.fives) (omega arith) _ c.in_ok-divided.ensures.is _ c.stripped.ensures.is

pub returns-then-fives-lt6176-clause-wide : goal.returns-then-fives-lt6176-clause-wide
returns-then-fives-lt6176-clause-wide c =
    divided_wide c.args.number c.args.twos c.args.fives (6176 - c.args.fives) (omega arith) _ c.in_ok-divided.ensures.is _ c.stripped.ensures.wide

pub returns-clause-is : goal.returns-clause-is
returns-clause-is c =
    raised_is c.args.number c.args.twos c.args.fives (c.args.fives - 6176) (omega arith) _ c.stripped-2.ensures.is

pub returns-clause-wide : goal.returns-clause-wide
returns-clause-wide c =
    raised_wide c.args.number c.args.twos c.args.fives (c.args.fives - 6176) (omega arith) _ c.stripped-2.ensures.wide
