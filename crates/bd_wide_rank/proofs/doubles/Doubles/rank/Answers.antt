use Rattle.std.proofs.Common.{sym}
use Rattle.bd_wide_rank.proofs.RowLemmas.{double_found}
use Rattle.bd_wide_rank.proofs.doubles.Doubles.rank.Goals as goal

pub returns-in-Some : goal.returns-in-Some
returns-in-Some c =
    let row = c.args.self.now in
    let i = c.in-Some.i in
    let found = rw c.in-Some.is at c.requires.index in
    sym (double_found row.keys.items row.are_keys c.requires.rising c.args.key i found.0 (found.1 0))
