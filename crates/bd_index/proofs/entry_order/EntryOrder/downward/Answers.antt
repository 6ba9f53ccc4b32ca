use Rattle.std.proofs.Common.{arith}
use Rattle.bd_index.proofs.WalkLemmas.{downward_ahead}
use Rattle.bd_index.proofs.entry_order.EntryOrder.downward.Goals as goal

pub returns : goal.returns
returns c h = downward_ahead c.args.dump.now c.args.index.now c.result-1.given.0 h c.len.result (omega (arith, c.len.ensures))
