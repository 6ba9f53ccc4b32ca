use Rattle.std.proofs.Common.{sym, ◌∙◌}
use Rattle.std.proofs.lemmas.List.Folds.{list_all-map}
use Rattle.bd_value.specs.View.{tree_of}
use Rattle.bd_path.specs.{PathNames.names_of, Reach.reach}
use Rattle.bd_query_filter.specs.FilterMatch.{any_equal}
use Rattle.bd_query.proofs.EndTestLemmas.{some_mapped}
use Rattle.bd_query.proofs.end_test.equals_all.Goals as goal

pub returns-in_default : goal.returns-in_default
returns-in_default g c =
    let es = reach (g.N.Reading.tree c.args.node) (names_of c.args.path.now) in
    rw (some_mapped tree_of c.args.members.now c.in_default.len_at_least) (c.are_equalled.ensures ∙ sym (list_all-map (any_equal es) tree_of c.args.members.now))
