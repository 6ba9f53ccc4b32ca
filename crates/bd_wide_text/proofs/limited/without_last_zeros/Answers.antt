use Rattle.std.proofs.Common.{arith}
use Rattle.bd_wide_text.proofs.LimitedLemmas.{tenth, few_tens}
use Rattle.bd_wide_text.proofs.limited.without_last_zeros.Goals as goal

pub loop-rest-preserved : goal.loop-rest-preserved
loop-rest-preserved c = record {
  some = omega arith;
  same = tenth c.loop-rest.rest c.loop-rest.zeros _ (omega arith) c.loop-rest.invariant.same;
  fits = omega arith;
}

pub returns-clause-zeros : goal.returns-clause-zeros
returns-clause-zeros c = few_tens c.loop-rest.rest c.loop-rest.zeros 17 c.loop-rest.invariant.some (omega arith)
