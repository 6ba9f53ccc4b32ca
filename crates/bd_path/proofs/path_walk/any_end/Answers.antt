use Rattle.bd_path.specs.PathNames.{names_of}
use Rattle.bd_path.proofs.PathWalkLemmas.{decided}
use Rattle.bd_path.proofs.path_walk.any_end.Goals as goal

pub returns : goal.returns
returns g c = decided (g.T.EndTest.passes c.args.test.now) _ _ _ _ (g.N.Reading.tree c.args.node) (names_of c.args.path.now) c.path_walk.result c.path_walk.ensures
