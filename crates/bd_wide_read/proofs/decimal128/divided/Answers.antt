use Rattle.std.proofs.Common.{◌≡◌, arith, subst, sym, ℕ, ◌<◌}
use Rattle.bd_wide_read.proofs.TenLemmas.{far_none, power_fits, rest_none, ten_pos}
use Rattle.bd_wide_read.proofs.decimal128.divided.Goals as goal

pub returns-then-count-ge-DIGITS-clause-none : goal.returns-then-count-ge-DIGITS-clause-none
returns-then-count-ge-DIGITS-clause-none c = λ k same. λ q e. far_none c.args.number k q (omega arith) c.requires (omega arith) e

pub pow-power-requires : goal.pow-power-requires
pow-power-requires c = power_fits c.args.count (omega arith)

pub nonzero_rem-number : goal.nonzero_rem-number
nonzero_rem-number c = subst (λ (p : ℕ). 0 < p) (sym c.pow-power.ensures) (ten_pos c.args.count)

pub returns-then-number-power-ne0-clause-none : goal.returns-then-number-power-ne0-clause-none
returns-then-number-power-ne0-clause-none c = λ k same. λ q e.
    let near : k ≡ c.args.count = omega arith in
    rest_none c.args.number k q (λ none. c.if-number-power-ne0.true (rw (c.pow-power.ensures, ← near) none)) e
