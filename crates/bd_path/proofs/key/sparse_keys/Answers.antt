use Rattle.std.proofs.Common.{true}
use Rattle.bd_path.specs.{PathNames.names_of, PathWalk.stops}
use Rattle.bd_path.proofs.key.sparse_keys.Goals as goal

pub returns-clause-same_source : goal.returns-clause-same_source
returns-clause-same_source g c = c.distinct_keys.ensures.same_source _ (rw (← c.deref.ensures.value) at c.in_ok-all.ensures.same_source)

pub returns-clause-at_stops : goal.returns-clause-at_stops
returns-clause-at_stops g c = c.distinct_keys.ensures.at_stops true (stops (g.N.Reading.tree c.args.doc) (names_of c.args.path.now)) (rw (← c.deref.ensures.value) at c.in_ok-all.ensures.at_stops)
