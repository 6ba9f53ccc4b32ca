use Rattle.std.proofs.Common.{rules, arith, ◌≡◌, ◌+◌, ◌-◌, length}
use Rattle.std.proofs.lemmas.Slice.{take-put_mid_below}
use Rattle.bd_wide_text.proofs.PlainLemmas.{placed}
use Rattle.bd_wide_text.proofs.plain.put_plain.Goals as goal

pub returns-clause-appended : goal.returns-clause-appended
returns-clause-appended c =
    let long : length c.put_first.new.buffer ≡ c.args.end + 32 - c.args.end = search rules in
    (_, c.in-Some.ensures.text, placed c.args.buffer.now c.put_first.new.buffer c.args.end _ c.in-Some.count (omega (arith, c.requires.space)) (omega (arith, c.in-Some.ensures.short)))

pub returns-clause-before : goal.returns-clause-before
returns-clause-before c = take-put_mid_below c.args.end _ c.args.buffer.now c.put_first.new.buffer c.args.end (omega arith) (omega (arith, c.requires.space))
