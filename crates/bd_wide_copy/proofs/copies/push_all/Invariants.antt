use Rattle.std.proofs.Common.{◌++◌, map, take}
use Rattle.bd_wide_rank.specs.{Rank.HaveSame, Table.collected, Worth.worth_of}
use Rattle.bd_wide_copy.proofs.copies.push_all.Given as goal

abbrev pub invariant-loop-number : goal.invariant-loop-number
invariant-loop-number l = HaveSame (collected l.numbers) (map worth_of (take l.number-index l.all) ++ collected l.fn.numbers)
