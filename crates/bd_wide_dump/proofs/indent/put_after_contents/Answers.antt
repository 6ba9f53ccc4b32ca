use Rattle.std.proofs.Common.{take}
use Rattle.bd_wide_dump.proofs.IndentLemmas.{after_pieces}
use Rattle.bd_wide_dump.proofs.indent.put_after_contents.Goals as goal

pub returns-clause-text : goal.returns-clause-text
returns-clause-text c =
    rw (
      c.put.ensures.text,
      c.put_line_end-at-3.ensures.text,
      c.put-at-4.ensures.text,
      c.put_line_end-at-2.ensures.text,
      c.put-at-3.ensures.text,
      c.put-at-2.ensures.text,
      c.put_line_end-at.ensures.text,
      c.put-at.ensures.text,
    ) (after_pieces (take c.args.end c.args.out.now.items) c.args.level c.args.digits.now)
