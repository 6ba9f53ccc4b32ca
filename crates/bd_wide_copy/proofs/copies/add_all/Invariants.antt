use Rattle.std.proofs.Common.{length}
use Rattle.bd_wide_rank.specs.Table.{collected}
use Rattle.bd_wide_copy.proofs.AddLemmas.{Comes}
use Rattle.bd_wide_copy.proofs.copies.add_all.Given as goal

abbrev pub invariant-loop-size : goal.invariant-loop-size
invariant-loop-size l = Comes l.bytes l.rest (collected l.fn.numbers) (collected l.numbers)

abbrev pub decreases-loop-size : goal.decreases-loop-size
decreases-loop-size l = length l.rest
