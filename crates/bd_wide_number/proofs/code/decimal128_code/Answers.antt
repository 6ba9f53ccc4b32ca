use Rattle.std.proofs.Common.{◌*◌, ◌^◌, ◌∙◌, ap, ap₂, arith, sym, ℕ}
use Rattle.bd_wide_number.specs.Value.{has_sign, infinite_bits}
use Rattle.bd_wide_number.specs.Code.{double_code, double_part}
use Rattle.bd_wide_number.proofs.CodeLemmas.{decimal_finite, decimal_infinite, decimal_nan, passed}
use Rattle.bd_wide_number.proofs.code.decimal128_code.Goals as goal

pub returns-then-five-eq31 : goal.returns-then-five-eq31
unfolding double_code
returns-then-five-eq31 c = sym (ap double_code (decimal_nan c.args.low c.args.high (sym c.five_bits-five.ensures ∙ c.if-five-eq31.true)))

pub returns-then-five-eq30 : goal.returns-then-five-eq30
unfolding double_code
returns-then-five-eq30 c =
    passed (has_sign c.args.high) infinite_bits _ (omega arith) c.signed.ensures
    ∙ sym (ap double_code (decimal_infinite c.args.low c.args.high (sym c.five_bits-five.ensures ∙ c.if-five-eq30.true)))

pub returns : goal.returns
unfolding double_code
returns c =
    c.double_part.ensures
    ∙ ap₂ (λ (n e : ℕ). double_part (has_sign c.args.high) (n * 10 ^ e)) c.coefficient.ensures.gives c.biased_exponent.ensures.gives
    ∙ sym (ap double_code (decimal_finite c.args.low c.args.high (omega (arith, c.five_bits-five.ensures)) (omega (arith, c.five_bits-five.ensures))))
