use Rattle.std.proofs.Common.{ap, sym}
use Rattle.bd_wide_rank.specs.Rows.{between_worth}
use Rattle.bd_wide_rank.specs.Worth.{worth_of}
use Rattle.bd_wide_rank.proofs.RankLemmas.{found_rank, rises}
use Rattle.bd_wide_rank.proofs.others.Others.rank.Goals as goal

pub returns-in-Some : goal.returns-in-Some
returns-in-Some c =
    let xs = c.args.self.now.numbers.items in
    let b = c.args.number in
    let found = rw c.in-Some.is at c.requires.index in
    sym (found_rank between_worth (worth_of b.number) xs c.in-Some.i found.0 (rises between_worth xs c.requires.rising) (λ d. ap worth_of (found.1 d)))
