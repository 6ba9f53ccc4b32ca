use Rattle.std.proofs.Common.{arith}
use Rattle.bd_wide_rank.proofs.LimbLemmas.{two_put}
use Rattle.bd_wide_rank.proofs.limbs.put.Goals as goal

pub returns : goal.returns
returns c = two_put c.args.limbs.now _ _ c.args.number c.requires.two c.requires.zero (omega arith)
