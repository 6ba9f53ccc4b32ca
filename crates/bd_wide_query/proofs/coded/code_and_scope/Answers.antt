use Rattle.std.proofs.Common.{◌≡◌, ◌∙◌, Option, Some, sym, ap}
use Rattle.bd_value.specs.Tree.{Leaf, code_leaf, leaf_of}
use Rattle.bd_value.specs.View.{node_parts, node_tree, view_of}
use Rattle.bd_value.proofs.PartsLemmas.{code_is}
use Rattle.bd_wide_query.proofs.coded.code_and_scope.Goals as goal

abbrev some : Leaf → Option Leaf
some o = Some o

pub returns : goal.returns
returns c =
    let scalar : leaf_of (node_tree c.args.value) ≡ Some (code_leaf c.in-Some-CodeScope.code.now) = sym c.in-Some-CodeScope.ensures ∙ ap (λ s. some (view_of s)) c.in-Some-CodeScope.field-0-is in
    code_is (node_tree c.args.value) (node_tree c.in-Some.scope) c.in-Some-CodeScope.code.now (node_parts c.parts.result) scalar (sym c.in-Some.ensures.scope) c.parts.ensures.parts
