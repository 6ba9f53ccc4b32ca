use Rattle.std.proofs.Common.{ap}
use Rattle.bd_value.specs.View.{node_tree, pairs}
use Rattle.bd_value.proofs.ViewLemmas as m
use Rattle.bd_value.proofs.node.TreeReading.first.Goals as goal

pub returns-in-Doc-clause-first : goal.returns-in-Doc-clause-first
returns-in-Doc-clause-first c = m.first_is (node_tree c.args.self) (pairs c.in-Doc.document.now) (ap node_tree c.in-Doc.is) c.args.name.now _ c.first_in.ensures

pub returns-in-Value-Doc-clause-first : goal.returns-in-Value-Doc-clause-first
returns-in-Value-Doc-clause-first c =
    m.first_is (node_tree c.args.self) (pairs c.in-Value-Doc.document)
    (m.is_doc c.args.self c.in-Value-Doc.field-0 c.in-Value-Doc.document c.in-Value-Doc.is (rw c.in-Value-Doc.is at c.in-Value-Doc.field-0-is))
    c.args.name.now _ c.first_in-in-Value-Doc.ensures
