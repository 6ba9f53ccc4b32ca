use Rattle.std.proofs.Common.{arith}
use Rattle.bd_wide_number.proofs.OddLemmas.{if_none, stripped_is, stripped_odd, stripped_wide}
use Rattle.bd_wide_number.proofs.odd.stripped.Goals as goal

pub multiplied-requires : goal.multiplied-requires
multiplied-requires c = let s = stripped_is c.args.number c.requires.number.0 (omega arith) in omega (arith, s.0)

pub returns-in_err-odd-clause-wide : goal.returns-in_err-odd-clause-wide
returns-in_err-odd-clause-wide c =
    let s = stripped_is c.args.number c.requires.number.0 (omega arith) in
    if_none _ (stripped_wide c.args.number c.args.twos c.args.n _ _ s.0 s.1 c.in_err-odd.ensures.gives)

pub returns-clause-is : goal.returns-clause-is
returns-clause-is c =
    let s = stripped_is c.args.number c.requires.number.0 (omega arith) in
    stripped_odd c.args.number c.args.twos c.args.n _ _ s.0 s.1 _ c.in_ok-odd.ensures.gives.1 s.2
