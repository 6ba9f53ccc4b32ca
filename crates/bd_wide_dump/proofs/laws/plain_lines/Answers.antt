use Rattle.bd_wide_dump.proofs.PlainLemmas.{plain_line}
use Rattle.bd_wide_dump.proofs.laws.plain_lines.Goals as goal

pub returns : goal.returns
returns c = plain_line
