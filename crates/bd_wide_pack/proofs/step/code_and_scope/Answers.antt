use Rattle.std.proofs.Common.{◌≡◌, Some, sym, rules}
use Rattle.bd_value.specs.Tree.{leaf_of, code_leaf}
use Rattle.bd_value.proofs.PartsLemmas.{code_is}
use Rattle.bd_bson_view.specs.Raw.{value_tree, remaining_pairs}
use Rattle.bd_wide_pack.proofs.step.code_and_scope.Goals as goal

pub returns-in-Some-CodeScope-clause-some : goal.returns-in-Some-CodeScope-clause-some
returns-in-Some-CodeScope-clause-some c =
    let code : leaf_of (value_tree c.args.value) ≡ Some (code_leaf c.in-Some-CodeScope.code.now) = search rules in
    code_is (value_tree c.args.value) (value_tree c.in_ok-scope.scope) c.in-Some-CodeScope.code.now (remaining_pairs c.in_ok-elements.elements) code (sym c.in_ok-scope.ensures.scope) c.in_ok-elements.ensures.some
