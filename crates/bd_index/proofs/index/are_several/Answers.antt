use Rattle.std.proofs.Common.{sym, ap, ◌∙◌}
use Rattle.std.specs.Prelude.{not}
use Rattle.bd_value.specs.Order.{equal}
use Rattle.bd_path.specs.Key.{key_tree, key_trees}
use Rattle.bd_index.proofs.{EntryLemmas.any_map, RepeatLemmas.several}
use Rattle.bd_index.proofs.index.are_several.Goals as goal

pub returns : goal.returns
returns g c =
    let first = key_tree g.N.Reading.tree c.in-Some.first.now in
    let others = key_trees g.N.Reading.tree c.in-Some.others.now in
    c.differ.ensures
    ∙ any_map (λ t. not (equal first t)) (key_tree g.N.Reading.tree) c.in-Some.others.now
    ∙ sym (several (key_trees g.N.Reading.tree c.args.keys.now) first others (ap (key_trees g.N.Reading.tree) c.in-Some.ensures.cases.0))
