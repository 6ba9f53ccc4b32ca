use Rattle.std.proofs.Common.{arith}
use Rattle.bd_wide_copy.proofs.StartsLemmas.{counted, few_starts}
use Rattle.bd_wide_copy.proofs.dump.WideDump.len.Goals as goal

pub overflow_cast-result : goal.overflow_cast-result
overflow_cast-result c =
    let d = c.args.self.now in
    omega (arith, few_starts d.bytes.items d.starts.items d.fit d.begin d.sound, d.short, c.len.ensures)

pub returns : goal.returns
returns c =
    let d = c.args.self.now in
    λ worth ds j. omega (arith, counted d.bytes.items d.starts.items d.fit d.begin d.sound worth ds j, c.len.ensures)
