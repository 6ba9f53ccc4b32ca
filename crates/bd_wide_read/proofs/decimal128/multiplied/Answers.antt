use Rattle.std.proofs.Common.{◌≡◌, arith, refl, ◌-◌, ◌^◌, ◌<◌, ◌≤◌}
use Rattle.bd_wide_read.proofs.TenLemmas.{power_fits, product_far, product_fits, product_large}
use Rattle.bd_wide_read.proofs.decimal128.multiplied.Goals as goal

pub returns-then-count-ge-DIGITS-clause-none : goal.returns-then-count-ge-DIGITS-clause-none
returns-then-count-ge-DIGITS-clause-none c = λ k same. product_far c.args.number k (omega arith) (omega arith)

pub pow-requires : goal.pow-requires
pow-requires c = power_fits _ (omega arith)

pub returns-then-number-pow-clause-none : goal.returns-then-number-pow-clause-none
returns-then-number-pow-clause-none c = λ k same.
    let near : k ≡ c.args.count = omega arith in
    let more : 10 ^ (34 - c.args.count) ≤ c.args.number = omega (arith, c.pow.ensures) in
    rw near (product_large c.args.number c.args.count (omega arith) more)

pub pow-requires-2 : goal.pow-requires-2
pow-requires-2 c = power_fits c.args.count (omega arith)

pub overflow_mul-result : goal.overflow_mul-result
overflow_mul-result c =
    let less : c.args.number < 10 ^ (34 - c.args.count) = omega (arith, c.pow.ensures) in
    rw c.pow-2.ensures (omega (arith, product_fits c.args.number c.args.count (omega arith) less))

pub returns-clause-some : goal.returns-clause-some
returns-clause-some c = λ k same.
    let near : k ≡ c.args.count = omega arith in
    let less : c.args.number < 10 ^ (34 - c.args.count) = omega (arith, c.pow.ensures) in
    rw (c.pow-2.ensures, near) (refl, product_fits c.args.number c.args.count (omega arith) less)
