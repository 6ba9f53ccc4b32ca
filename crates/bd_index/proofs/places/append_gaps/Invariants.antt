use Rattle.std.proofs.Common.{drop}
use Rattle.bd_index.proofs.PlacesLemmas.{Gaps}
use Rattle.bd_index.proofs.places.append_gaps.Given as goal

abbrev pub invariant-loop-span : goal.invariant-loop-span
invariant-loop-span l = Gaps l.count l.fn.gaps.items l.gaps.items l.spans (drop l.span-index l.spans) l.from
