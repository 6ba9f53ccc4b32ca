use Rattle.std.proofs.Common.{ap, arith, ◌∙◌, sym}
use Rattle.bd_value.specs.View.{node_tree, pairs}
use Rattle.bd_value.proofs.ViewLemmas as m
use Rattle.bd_value.proofs.node.TreeReading.len.Goals as goal

pub returns-in-Doc : goal.returns-in-Doc
returns-in-Doc c = c.len.ensures ∙ sym (m.doc_length (node_tree c.args.self) (pairs c.in-Doc.document.now) (ap node_tree c.in-Doc.is))

pub returns-in-Value-Doc : goal.returns-in-Value-Doc
returns-in-Value-Doc c = c.len-in-Value-Doc.ensures ∙ sym (m.doc_length (node_tree c.args.self) (pairs c.in-Value-Doc.document)
    (m.is_doc c.args.self c.in-Value-Doc.field-0 c.in-Value-Doc.document c.in-Value-Doc.is (rw c.in-Value-Doc.is at c.in-Value-Doc.field-0-is)))

pub returns-in-Value-Array : goal.returns-in-Value-Array
returns-in-Value-Array c =
    let is = m.is_array c.args.self c.in-Value-Array.field-0 c.in-Value-Array.items c.in-Value-Array.is (rw c.in-Value-Array.is at c.in-Value-Array.field-0-is) in
    let e = m.array_length (node_tree c.args.self) c.in-Value-Array.items.items is in
    let r = c.len-in-Value-Array.ensures in
    omega arith
