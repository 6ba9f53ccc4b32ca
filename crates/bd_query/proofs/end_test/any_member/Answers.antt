use Rattle.std.proofs.Common.{◌∙◌}
use Rattle.bd_value.specs.Order.{equal}
use Rattle.bd_path.specs.{PathNames.names_of, Reach.reach}
use Rattle.bd_query_filter.specs.{FilterMatch.value_or_null, Filter.trees_in}
use Rattle.bd_query.proofs.EndTestLemmas.{members_first}
use Rattle.bd_query.proofs.end_test.any_member.Goals as goal

pub returns : goal.returns
returns g c =
    let es = reach (g.N.Reading.tree c.args.node) (names_of c.args.path.now) in
    c.any_end.ensures ∙ members_first (λ e t. equal (value_or_null e) t) es (trees_in c.args.members.now)
