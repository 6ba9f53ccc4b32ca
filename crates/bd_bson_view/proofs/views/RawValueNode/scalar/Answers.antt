use Rattle.std.proofs.Common.{Some, sym, ap, ◌∙◌}
use Rattle.bd_value.specs.View.{view_of}
use Rattle.bd_value.specs.Tree.{leaf_of, code_leaf}
use Rattle.bd_bson_view.proofs.ValueAtLemmas.{leaf_short}
use Rattle.bd_bson_view.proofs.views.RawValueNode.scalar.Goals as goal

pub returns-in-Scalar-clause-short : goal.returns-in-Scalar-clause-short
returns-in-Scalar-clause-short c =
    let is_holder = c.in-Scalar.ensures in
    leaf_short _ _ c.args.self.sound (view_of c.in-Scalar.scalar) (ap leaf_of is_holder.1 ∙ ap (λ o. Some o) (sym is_holder.2))

pub returns-in-CodeScope-clause-short : goal.returns-in-CodeScope-clause-short
returns-in-CodeScope-clause-short c = leaf_short _ _ c.args.self.sound (code_leaf c.in-CodeScope.code.now) (ap leaf_of c.in-CodeScope.ensures.0)
