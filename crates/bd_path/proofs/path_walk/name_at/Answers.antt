use Rattle.bd_path.proofs.PathWalkLemmas as at
use Rattle.bd_path.proofs.path_walk.name_at.Goals as goal

pub returns : goal.returns
returns c = rw (c.as_str.ensures.value, ← c.index-path-k.is) (at.name_at c.args.path.now c.args.k c.index-path-k.result c.requires c.index-path-k.is)
