use Rattle.std.proofs.Common.{◌≤◌, ◌%◌, arith}
use Rattle.std.proofs.Math.Nat.{pow-le-pow_right}
use Rattle.bd_wide_rank.proofs.guess.multiplied.Goals as goal

pub pow-last-requires : goal.pow-last-requires
pow-last-requires c = let l : c.args.fives % 27 ≤ 26 = omega arith in omega (arith, pow-le-pow_right {n = 5} (omega arith) l)
