use Rattle.std.proofs.Common.{arith}
use Rattle.bd_wide_copy.proofs.CollectLemmas.{document_fits}
use Rattle.bd_wide_copy.proofs.NumbersLemmas.{adds_none, adds_collected}
use Rattle.bd_wide_copy.proofs.numbers.collect_numbers.Goals as goal

pub returns-then-document-lt5-clause-ok : goal.returns-then-document-lt5-clause-ok
returns-then-document-lt5-clause-ok c = adds_none c.args.document.now c.args.numbers.now.items (omega arith)

pub inside-requires : goal.inside-requires
inside-requires c = document_fits c.args.document.now (omega arith)

pub returns-else-is_err-clause-ok : goal.returns-else-is_err-clause-ok
returns-else-is_err-clause-ok c =
    adds_collected c.elements-added.result c.args.document.now c.inside.result.now c.args.numbers.now.items c.elements-added.new.numbers.items c.inside.ensures c.elements-added.ensures.ok
