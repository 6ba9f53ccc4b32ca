use Rattle.bd_cli_find.proofs.{PartsLemmas.joined_of, PartsLemmas.pack_from, PartsLemmas.parts_joined, PartsLemmas.parts_print, UniqueLemmas.whole_printed}
use Rattle.bd_cli_find.proofs.laws.parts_print_the_whole.Goals as goal

pub returns-clause-output : goal.returns-clause-output
returns-clause-output c = parts_print

pub returns-clause-printed : goal.returns-clause-printed
returns-clause-printed c = whole_printed

pub returns-clause-joined : goal.returns-clause-joined
returns-clause-joined c = parts_joined

pub returns-clause-packed : goal.returns-clause-packed
returns-clause-packed c = λ ds back. (pack_from ds 1 back, joined_of ds back)
