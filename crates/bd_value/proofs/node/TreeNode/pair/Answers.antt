use Rattle.std.proofs.Common.{ap}
use Rattle.bd_value.specs.View.{node_tree, pairs}
use Rattle.bd_value.proofs.ViewLemmas as m
use Rattle.bd_value.proofs.node.TreeNode.pair.Goals as goal

pub pair_in-requires : goal.pair_in-requires
pair_in-requires c = m.inside (node_tree c.args.self) (pairs c.in-Doc.document.now) (ap node_tree c.in-Doc.is) c.args.i c.requires

pub pair_in-requires-in-Value-Doc : goal.pair_in-requires-in-Value-Doc
pair_in-requires-in-Value-Doc c = m.inside (node_tree c.args.self) (pairs c.in-Value-Doc.document)
    (m.is_doc c.args.self c.in-Value-Doc.field-0 c.in-Value-Doc.document c.in-Value-Doc.is
    (rw c.in-Value-Doc.is at c.in-Value-Doc.field-0-is)) c.args.i c.requires

pub returns-in-Doc-clause-pair : goal.returns-in-Doc-clause-pair
returns-in-Doc-clause-pair c = m.pair_is (node_tree c.args.self) (pairs c.in-Doc.document.now) (ap node_tree c.in-Doc.is) c.args.i _ c.pair_in.ensures

pub returns-in-Value-Doc-clause-pair : goal.returns-in-Value-Doc-clause-pair
returns-in-Value-Doc-clause-pair c =
    m.pair_is (node_tree c.args.self) (pairs c.in-Value-Doc.document)
    (m.is_doc c.args.self c.in-Value-Doc.field-0 c.in-Value-Doc.document c.in-Value-Doc.is (rw c.in-Value-Doc.is at c.in-Value-Doc.field-0-is))
    c.args.i _ c.pair_in-in-Value-Doc.ensures
