use Rattle.std.proofs.Common.{◌≡◌, ◌+◌, ◌*◌, ◌-◌, ◌^◌, ◌∙◌, ℕ, ap, arith, sym, zero-mul}
use Rattle.bd_wide_number.proofs.CodeLemmas.{double_found, double_large, double_wide, passed, zero_double}
use Rattle.bd_wide_number.proofs.code.double_part.Goals as goal

pub returns-then-number-eq0 : goal.returns-then-number-eq0
returns-then-number-eq0 c = zero_double c.args.negative (c.args.number * 10 ^ c.args.exponent)
    (ap (λ (z : ℕ). z * 10 ^ c.args.exponent) c.if-number-eq0.true ∙ zero-mul _)

pub returns-in_err-odd : goal.returns-in_err-odd
returns-in_err-odd c = c.from_residual.ensures
    ∙ sym (double_wide c.args.negative c.args.number c.args.exponent c.in_err-odd.ensures.wide)

pub returns-then-odd-ge-TOO_PRECISE : goal.returns-then-odd-ge-TOO_PRECISE
returns-then-odd-ge-TOO_PRECISE c =
    let f = c.in_ok-odd.ensures.is in
    sym (double_large c.args.negative c.args.number c.args.exponent f.0 c.in_ok-odd.odd f.1 f.2 c.if-odd-ge-TOO_PRECISE.true)

pub returns : goal.returns
returns c =
    let f = c.in_ok-odd.ensures.is in
    let d = c.in_ok-odd.odd.twos - 5102 in
    let sum : 5102 + d ≡ c.in_ok-odd.odd.twos = omega (arith, f.2.from, c.in_ok-odd.ensures.near) in
    passed c.args.negative c.double_bits.result c.signed.result (omega (arith, c.double_bits.ensures.below)) c.signed.ensures
    ∙ sym (double_found c.args.negative c.args.number c.args.exponent f.0 c.in_ok-odd.odd f.1 f.2 c.double_bits.result d
    c.double_bits.ensures.below sum (c.double_bits.ensures.is d sum))
