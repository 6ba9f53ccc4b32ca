use Rattle.std.proofs.Common.{arith}
use Rattle.std.proofs.lemmas.Str.Parse.{digit_at}
use Rattle.std.proofs.lemmas.Int.Digits.{digits_value_more}
use Rattle.fast_float.proofs.DigitsLemmas.{is_digit}
use Rattle.bd_wide_read.proofs.decimal128.capped_value.Goals as goal

pub overflow_sub-c : goal.overflow_sub-c
overflow_sub-c c = (digit_at c.args.digits.now c.loop-c.c-index c.requires c.loop-c-test.true).0

pub loop-c-preserved : goal.loop-c-preserved
loop-c-preserved c =
    let r = digit_at c.args.digits.now c.loop-c.c-index c.requires c.loop-c-test.true in
    omega (arith, digits_value_more 10 c.args.digits.now c.loop-c.c-index c.loop-c-test.true, (is_digit _ r.0 r.1).1)
