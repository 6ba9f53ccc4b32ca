use Rattle.std.proofs.Common.{arith, ◌++◌, length-append, refl}
use Rattle.std.proofs.Math.Nat.{sub-zero}
use Rattle.fast_float.proofs.Rows.{AllDigits-append}
use Rattle.bd_wide_text.proofs.LimitedLemmas.{few_after}
use Rattle.bd_wide_text.proofs.limited.too_many.Goals as goal

pub returns-then-count-le17-clause-none : goal.returns-then-count-le17-clause-none
returns-then-count-le17-clause-none c =
    let ds = c.args.whole.now ++ c.args.fraction.now in
    few_after ds 0 (AllDigits-append _ _ c.requires.0 c.requires.1) refl (omega arith) (omega (arith, length-append c.args.whole.now c.args.fraction.now))

pub returns-then-count-zeros-le17-clause-none : goal.returns-then-count-zeros-le17-clause-none
returns-then-count-zeros-le17-clause-none c =
    let ds = c.args.whole.now ++ c.args.fraction.now in
    let long = length-append c.args.whole.now c.args.fraction.now in
    few_after ds c.skip_zeros-zeros.result (AllDigits-append _ _ c.requires.0 c.requires.1) (rw sub-zero at c.skip_zeros-zeros.ensures.zeros) (omega arith) (omega arith)

pub skip_zeros-zeros-requires-clause-digits : goal.skip_zeros-zeros-requires-clause-digits
skip_zeros-zeros-requires-clause-digits c = AllDigits-append _ _ c.requires.0 c.requires.1
