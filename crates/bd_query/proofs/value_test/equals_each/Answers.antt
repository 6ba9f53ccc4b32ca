use Rattle.std.proofs.Common.{sym, ◌∙◌}
use Rattle.std.proofs.lemmas.List.Folds.{list_all-map}
use Rattle.bd_value.specs.{Order.equal, View.tree_of}
use Rattle.bd_query.proofs.EndTestLemmas.{some_mapped}
use Rattle.bd_query.proofs.value_test.equals_each.Goals as goal

pub returns-in_default : goal.returns-in_default
returns-in_default g c =
    rw (some_mapped tree_of c.args.members.now c.in_default.len_at_least) (c.are_equal.ensures ∙ sym (list_all-map (equal (g.N.Reading.tree c.args.node)) tree_of c.args.members.now))
