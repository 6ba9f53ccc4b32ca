use Rattle.std.proofs.Common.{take}
use Rattle.bd_wide_dump.proofs.IndentLemmas.{before_pieces}
use Rattle.bd_wide_dump.proofs.indent.put_before_contents.Goals as goal

pub returns-clause-text : goal.returns-clause-text
returns-clause-text c =
    rw (c.put.ensures.text, c.put_line_end-at-2.ensures.text, c.put-at-2.ensures.text, c.put_line_end-at.ensures.text, c.put-at.ensures.text)
    (before_pieces (take c.args.end c.args.out.now.items) c.args.level)
