use Rattle.std.proofs.Common.{arith, T, not, subst, sym, ap, ◌∙◌}
use lib.Ieee.{Float, binary64, is_nan, to_bits}
use Rattle.bd_wide_text.proofs.LimitedLemmas.{round_number, same_bits, raised}
use Rattle.bd_wide_text.proofs.limited.one_of_two.Goals as goal

pub float_to_bits-low : goal.float_to_bits-low
float_to_bits-low c = subst (λ (x : Float). T (not (is_nan x))) (sym c.from_decimal-low.ensures) (round_number _ _ _)

pub float_to_bits-x : goal.float_to_bits-x
float_to_bits-x c = subst (λ (x : Float). T (not (is_nan x))) c.requires.limited.nearest (round_number _ _ _)

pub returns-then-low-x-clause-nearest : goal.returns-then-low-x-clause-nearest
returns-then-low-x-clause-nearest c =
    let bits = to_bits binary64 in
    same_bits _ _ _ _ (ap bits (sym c.from_decimal-low.ensures) ∙ c.if-low-x.true ∙ ap bits (sym c.requires.limited.nearest)) ∙ c.requires.limited.nearest

pub returns-clause-nearest : goal.returns-clause-nearest
returns-clause-nearest c =
    raised c.args.leading c.args.up c.args.down c.args.x (omega (arith, c.requires.digits)) c.requires.limited
    (λ e. c.if-low-x.false (ap (to_bits binary64) (c.from_decimal-low.ensures ∙ e)))
