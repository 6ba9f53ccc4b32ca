use Rattle.std.proofs.Common.{◌||◌, false, sym, ap, refl}
use Rattle.bd_path.specs.{inside.Sort.earliest_key, inside.PathWalk.stop_tree, declared.key.Key.TheVariants.Null, declared.path_walk.Stop.TheVariants.Value}
use Rattle.bd_path.proofs.{SortLemmas.takes_earliest, PathWalkLemmas.no_value, PathWalkLemmas.no_value_keys}
use Rattle.bd_path.proofs.sort.EarliestCollectorCollector.take.Goals as goal

pub returns-in_default : goal.returns-in_default
returns-in_default g c = λ bytes at.
    let dir = c.args.self.now.dir in
    let s = stop_tree g.N.Reading.tree c.args.stop in
    let none = no_value g.N.Reading.tree c.args.stop c.in_default.not-Value in
    takes_earliest g.N.Reading.tree g.N.Reading.source dir bytes c.args.earliest.now _ Null s (ap (earliest_key dir) (sym (no_value_keys false s none))) tt (refl, ap (λ b. b || false) none)
    c.earlier.ensures.tree c.earlier.ensures.either

pub returns : goal.returns
returns g c = λ bytes. rw c.in-Value.is (λ is.
    takes_earliest g.N.Reading.tree g.N.Reading.source c.args.self.now.dir bytes c.args.earliest.now _ c.earliest_end-key.result
    (Value (g.N.Reading.tree c.in-Value.node)) c.earliest_end-key.ensures.tree (rw is at c.earliest_end-key.ensures.same_source) c.earliest_end-key.ensures.at_stops
    c.earlier-2.ensures.tree c.earlier-2.ensures.either)
