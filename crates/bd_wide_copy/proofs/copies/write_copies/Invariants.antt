use Rattle.std.proofs.Common.{length}
use Rattle.std.specs.Io.{StartsWith}
use Rattle.bd_wide_copy.proofs.DumpLemmas.{Comes}
use Rattle.bd_wide_copy.proofs.copies.write_copies.Given as goal

abbrev pub invariant-loop-size : goal.invariant-loop-size
invariant-loop-size g l = record {
  comes : Comes l.longs (g.C.Codes.worth_of l.codes) (g.C.Codes.code_of l.codes) l.bytes l.rest l.fn.out.items l.out.items;
  begins : StartsWith l.out.items l.fn.out.items;
}

abbrev pub decreases-loop-size : goal.decreases-loop-size
decreases-loop-size g l = length l.rest
