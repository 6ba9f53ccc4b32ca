use Rattle.std.proofs.Common.{arith}
use Rattle.bd_index.proofs.WalkLemmas.{run_ahead}
use Rattle.bd_index.proofs.entry_order.EntryOrder.at_next_run.Goals as goal

pub invariant_of-result : goal.invariant_of-result
invariant_of-result c =
    let run = c.run_start-start.ensures c.args.self.indexed in
    let some = run.some in
    let under = c.args.self.under in
    record { indexed = c.args.self.indexed; run = omega arith; inside = under; under = omega arith }

pub returns-clause-ahead : goal.returns-clause-ahead
returns-clause-ahead c =
    run_ahead c.args.self.dump.now c.args.self.index.now c.result-1.given.0 c.args.self.indexed c.args.self.next c.args.self.end
    c.run_start-start.result c.args.self.below c.requires.done c.args.self.under (c.run_start-start.ensures c.args.self.indexed)

pub returns-clause-some : goal.returns-clause-some
returns-clause-some c = (c.run_start-start.ensures c.args.self.indexed).some
