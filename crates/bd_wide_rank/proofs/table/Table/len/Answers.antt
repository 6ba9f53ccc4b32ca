use Rattle.std.proofs.Common.{arith}
use Rattle.bd_wide_rank.proofs.TableLemmas.{worths_length}
use Rattle.bd_wide_rank.proofs.table.Table.len.Goals as goal

pub returns : goal.returns
returns c = omega (arith, c.len.ensures, c.len-2.ensures, worths_length c.args.self.now)
