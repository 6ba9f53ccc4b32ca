use Rattle.std.proofs.Common.{◌∙◌}
use Rattle.bd_path.specs.PathNames.{names_of}
use Rattle.bd_path.proofs.KeyLemmas as added
use Rattle.bd_path.proofs.key.all_key_nodes.Goals as goal

pub path_walk-requires : goal.path_walk-requires
path_walk-requires g c = λ found. added.known_keys g.N.Reading.tree g.N.Reading.source c.args.sparse found.items

pub returns : goal.returns
returns g c =
    let n = g.N.Reading.tree c.args.doc in
    let p = names_of c.args.path.now in
    let are = added.whole g.N.Reading.tree g.N.Reading.source c.args.sparse (λ v. v.items) _ _ _ n p c.path_walk.result c.new-all.ensures.items c.path_walk.ensures c.if-not-path_walk.false in
    record { distinct = are.listed ∙ added.indexed c.args.sparse n p; same_source = are.same_source; at_stops = are.there }
