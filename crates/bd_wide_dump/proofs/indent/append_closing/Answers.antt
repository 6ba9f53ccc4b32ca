use Rattle.std.proofs.Common.{ℕ, Ok, arith}
use Rattle.bd_wide_dump.proofs.IndentLemmas.{closed}
use Rattle.bd_wide_dump.proofs.indent.append_closing.Goals as goal

pub returns-then-is_filled : goal.returns-then-is_filled
returns-then-is_filled c =
    closed {E = ℕ} c.args.is_filled c.args.level c.args.bracket c.args.out.now.items c.append_line.new.out.items c.put.new.out.items c.args.end c.in_ok-at.at (Ok c.put.result) c.if-is_filled.true
    c.requires c.in_ok-at.ensures.text.0 (c.put.ensures.text, omega (arith, c.in_ok-at.ensures.capacity))
