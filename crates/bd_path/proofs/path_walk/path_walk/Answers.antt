use Rattle.bd_path.proofs.path_walk.path_walk.Goals as goal

pub returns : goal.returns
returns g c = rw (← c.components-components.ensures) c.path_walk_from.ensures
