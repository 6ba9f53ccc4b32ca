use Rattle.std.proofs.Common.{refl}
use Rattle.bd_wide_rank.proofs.LimbLemmas.{zeros}
use Rattle.bd_wide_rank.proofs.size.compare_large.Goals as goal

pub put_large-requires-clause-zero : goal.put_large-requires-clause-zero
put_large-requires-clause-zero c = zeros c.args.limbs _ refl

pub put_large-requires-2-clause-zero : goal.put_large-requires-2-clause-zero
put_large-requires-2-clause-zero c = zeros c.args.limbs _ refl
