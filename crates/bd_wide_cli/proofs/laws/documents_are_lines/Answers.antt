use Rattle.std.proofs.Common.{refl}
use Rattle.bd_wide_cli.proofs.PlainLineLemmas.{one_a_line, piece_is_line}
use Rattle.bd_wide_cli.proofs.laws.documents_are_lines.Goals as goal

pub returns : goal.returns
returns c = (one_a_line, refl, refl, refl, piece_is_line)
