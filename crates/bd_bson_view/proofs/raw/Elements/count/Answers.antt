use Rattle.std.proofs.Common.{arith, drop}
use Rattle.bd_bson_view.proofs.ElementsLemmas.{few}
use Rattle.bd_bson_view.proofs.raw.Elements.count.Goals as goal

pub overflow_add-n : goal.overflow_add-n
overflow_add-n c =
    let f = few (drop c.args.self.at c.args.self.bytes.now) c.args.self.remaining in
    let i = c.loop-after.invariant in
    omega arith
