use Rattle.std.proofs.Common.{ap₂, ◌∙◌}
use Rattle.bd_value.specs.Order.{rank_cmp}
use Rattle.bd_value.specs.View.{view_of}
use Rattle.bd_value.proofs.OrderLemmas.{rank_of_leaf}
use Rattle.bd_value.proofs.order.compare_leaves.Goals as goal

pub returns : goal.returns
returns g c =
    c.compare_ranks.ensures
    ∙ ap₂ rank_cmp (c.rank_of.ensures ∙ rank_of_leaf (g.M.Reading.tree c.args.a) (view_of c.in-Some.first) c.in-Some.ensures)
    (c.rank_of-2.ensures ∙ rank_of_leaf (g.N.Reading.tree c.args.b) (view_of c.in-Some-leaf.second) c.in-Some-leaf.ensures)
