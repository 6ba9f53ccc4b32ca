use Rattle.std.proofs.Common.{◌++◌, ◌∷◌, []}
use Rattle.std.proofs.lemmas.Result.{on_ok_weaker}
use Rattle.bd_path.specs.{Key.is_empty_array, Key.is_no_value, inside.PathWalk.stop_tree, declared.path_walk.Stop.TheVariants.Value}
use Rattle.bd_path.proofs.KeyLemmas as added
use Rattle.bd_path.proofs.PathWalkLemmas as key
use Rattle.bd_path.proofs.key.KeyCollectorCollector.take.Goals as goal

pub returns-in-Value : goal.returns-in-Value
returns-in-Value g c = λ bytes.
    let s = Value (g.N.Reading.tree c.in-Value.node) in
    let sparse = c.args.self.now.sparse in
    rw c.in-Value.is (λ is.
    added.took g.N.Reading.tree g.N.Reading.source sparse (λ v. v.items) bytes c.args.keys.now c.add_end.new.keys s (rw is at c.add_end.ensures.same_source)
    c.add_end.result c.is_ok.result c.is_ok.ensures.value c.add_end.ensures.added
    (on_ok_weaker c.add_end.result (λ f ss. f sparse (ss ++ s ∷ []) (key.among is_empty_array ss s)) c.add_end.ensures.at_stops))

pub returns-in_default : goal.returns-in_default
returns-in_default g c = λ bytes at.
    let s = stop_tree g.N.Reading.tree c.args.stop in
    let sparse = c.args.self.now.sparse in
    let none = key.no_value g.N.Reading.tree c.args.stop c.in_default.not-Value in
    added.took g.N.Reading.tree g.N.Reading.source sparse (λ v. v.items) bytes c.args.keys.now c.add_missing.new.keys s (c.add_missing.ensures.same_source bytes)
    c.add_missing.result c.is_ok-in_default.result c.is_ok-in_default.ensures.value (rw (key.no_value_keys sparse s none) c.add_missing.ensures.added)
    (on_ok_weaker c.add_missing.result (λ f ss. f (ss ++ s ∷ []) (key.among is_no_value ss s none)) c.add_missing.ensures.at_stops)
