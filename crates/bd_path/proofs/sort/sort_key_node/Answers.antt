use Rattle.std.proofs.Common.{unwrap_or, sym, ap, ◌∙◌}
use Rattle.bd_value.specs.Tree.{leaf, null}
use Rattle.bd_path.specs.PathNames.{names_of}
use Rattle.bd_path.proofs.SortLemmas as first
use Rattle.bd_path.proofs.sort.sort_key_node.Goals as goal

pub path_walk-whole-requires : goal.path_walk-whole-requires
path_walk-whole-requires g c = λ found. first.known_earliest g.N.Reading.tree g.N.Reading.source c.args.dir found

pub returns-in-Some : goal.returns-in-Some
returns-in-Some g c =
    let n = g.N.Reading.tree c.args.doc in
    let p = names_of c.args.path.now in
    let are = first.whole g.N.Reading.tree g.N.Reading.source c.args.dir _ c.path_walk-whole.new.found n p c.path_walk-whole.result c.path_walk-whole.ensures in
    record {
      tree = ap (λ k. unwrap_or k (leaf null)) (rw c.in-Some.is at are.earliest ∙ sym (first.earliest_is c.args.dir n p));
      same_source = rw c.in-Some.is at are.same_source;
      at_stops = rw c.in-Some.is at are.there;
    }

pub returns-in-None : goal.returns-in-None
returns-in-None g c =
    let n = g.N.Reading.tree c.args.doc in
    let p = names_of c.args.path.now in
    let are = first.whole g.N.Reading.tree g.N.Reading.source c.args.dir _ c.path_walk-whole.new.found n p c.path_walk-whole.result c.path_walk-whole.ensures in
    absurd (first.earliest_there c.args.dir n p (rw c.in-None.is at are.earliest))
