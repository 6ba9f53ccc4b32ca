use Rattle.std.proofs.Common.{arith}
use Rattle.bd_value.specs.View.{node_tree}
use Rattle.bd_value.proofs.ViewLemmas as m
use Rattle.bd_value.proofs.node.TreeReading.element.Goals as goal

pub index-requires : goal.index-requires
index-requires c =
    let lt = m.inside_array (node_tree c.args.self) c.in-Value-Array.items.items
    (m.is_array c.args.self c.in-Value-Array.field-0 c.in-Value-Array.items c.in-Value-Array.is
    (rw c.in-Value-Array.is at c.in-Value-Array.field-0-is)) c.args.i c.requires in
    omega arith

pub returns-clause-element : goal.returns-clause-element
returns-clause-element c =
    let is = m.is_array c.args.self c.in-Value-Array.field-0 c.in-Value-Array.items c.in-Value-Array.is (rw c.in-Value-Array.is at c.in-Value-Array.field-0-is) in
    m.element_is (node_tree c.args.self) c.in-Value-Array.items.items is c.args.i c.index.result.now
    (m.inside_array (node_tree c.args.self) c.in-Value-Array.items.items is c.args.i c.requires) c.index.ensures
