use Rattle.std.proofs.Common.{◌+◌, ◌^◌, ◌≤◌, ◌++◌, arith, length-append}
use Rattle.std.proofs.Math.Nat.{pow-le-pow_right}
use lib.Dec.{lit<}
use Rattle.fast_float.proofs.Rows.{one_more, value_below}
use Rattle.bd_wide_text.proofs.limited.number.Goals as goal

pub overflow_mul-value : goal.overflow_mul-value
overflow_mul-value c =
    let most : 10 ^ c.loop-i.i ≤ 10 ^ 18 = pow-le-pow_right (lit< tt) {j = 18} (omega arith) in
    record { fits = omega (arith, value_below (c.args.leading.now ++ c.args.back.now) c.args.from c.loop-i.i c.requires.digits) }

pub overflow_add-value : goal.overflow_add-value
overflow_add-value c =
    let long = length-append c.args.leading.now c.args.back.now in
    let most : 10 ^ (c.loop-i.i + 1) ≤ 10 ^ 19 = pow-le-pow_right (lit< tt) {j = 19} (omega arith) in
    let next = one_more (c.args.leading.now ++ c.args.back.now) c.args.from c.loop-i.i (omega arith) in
    record { fits = omega (arith, value_below (c.args.leading.now ++ c.args.back.now) c.args.from (c.loop-i.i + 1) c.requires.digits) }

pub loop-i-preserved : goal.loop-i-preserved
loop-i-preserved c =
    let long = length-append c.args.leading.now c.args.back.now in
    omega (arith, one_more (c.args.leading.now ++ c.args.back.now) c.args.from c.loop-i.i (omega arith))
