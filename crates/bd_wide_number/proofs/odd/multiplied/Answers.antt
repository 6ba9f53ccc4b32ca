use Rattle.std.proofs.Common.{arith}
use Rattle.bd_wide_number.proofs.OddLemmas.{five_to_27, product_fits, times_five_le, wide_above_27}
use Rattle.bd_wide_number.proofs.odd.multiplied.Goals as goal
use Rattle.bd_wide_number.proofs.odd.multiplied.Goals.{then-n-gt-MOST_FIVES_OF_64-via-then-n-gt-MOST_FIVES_OF_64, then-n-gt-MOST_FIVES_OF_64-via-else-n-gt-MOST_FIVES_OF_64+then-number}

pub returns-then-n-gt-MOST_FIVES_OF_64-clause-gives : goal.returns-then-n-gt-MOST_FIVES_OF_64-clause-gives
returns-then-n-gt-MOST_FIVES_OF_64-clause-gives c = λ few. elim c.then-n-gt-MOST_FIVES_OF_64.branch [
  | then-n-gt-MOST_FIVES_OF_64-via-then-n-gt-MOST_FIVES_OF_64 w ↦ omega (arith, wide_above_27 c.args.number c.args.n c.requires w.if-n-gt-MOST_FIVES_OF_64.true)
  | then-n-gt-MOST_FIVES_OF_64-via-else-n-gt-MOST_FIVES_OF_64+then-number w ↦ omega (arith, times_five_le c.args.number c.args.n)
]

pub pow-requires : goal.pow-requires
pow-requires c = omega (arith, five_to_27 c.args.n c.if-n-gt-MOST_FIVES_OF_64.false)

pub overflow_mul-product : goal.overflow_mul-product
overflow_mul-product c = rw c.pow.ensures (product_fits c.args.number c.args.n (omega arith) c.if-n-gt-MOST_FIVES_OF_64.false)
