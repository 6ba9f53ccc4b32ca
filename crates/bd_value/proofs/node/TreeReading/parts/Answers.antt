use Rattle.std.proofs.Common.{ap, sym, subst, List, [], map}
use Rattle.bd_value.specs.Tree.{AreParts}
use Rattle.bd_value.specs.View.{node_tree, tree_of, pairs}
use Rattle.bd_value.specs.declared.document.Value.{Value}
use Rattle.bd_value.proofs.ViewLemmas as m
use Rattle.bd_value.proofs.node.TreeReading.parts.Goals as goal

pub returns-in-Doc-clause-parts : goal.returns-in-Doc-clause-parts
returns-in-Doc-clause-parts c = subst (AreParts (node_tree c.args.self)) c.as_pairs.ensures (m.doc_parts (node_tree c.args.self) (pairs c.in-Doc.document.now) (ap node_tree c.in-Doc.is))

pub returns-in-Value-Doc-clause-parts : goal.returns-in-Value-Doc-clause-parts
returns-in-Value-Doc-clause-parts c =
    subst (AreParts (node_tree c.args.self)) c.as_pairs-in-Value-Doc.ensures
    (m.doc_parts (node_tree c.args.self) (pairs c.in-Value-Doc.document) (m.is_doc c.args.self c.in-Value-Doc.field-0 c.in-Value-Doc.document c.in-Value-Doc.is
    (rw c.in-Value-Doc.is at c.in-Value-Doc.field-0-is)))

pub returns-in-Value-Array-clause-parts : goal.returns-in-Value-Array-clause-parts
returns-in-Value-Array-clause-parts c =
    subst (λ (vs : List Value). AreParts (node_tree c.args.self) (map (λ (v : Value). ([], tree_of v)) vs)) (sym c.deref.ensures.value)
    (m.array_parts (node_tree c.args.self) c.in-Value-Array.items.items
    (m.is_array c.args.self c.in-Value-Array.field-0 c.in-Value-Array.items c.in-Value-Array.is
    (rw c.in-Value-Array.is at c.in-Value-Array.field-0-is)))
