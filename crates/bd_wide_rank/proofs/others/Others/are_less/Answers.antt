use Rattle.std.proofs.Common.{◌<◌, ◌≤◌, arith, length, ⊎_elim}
use Rattle.std.proofs.lemmas.Bool.{cases_lt}
use Rattle.bd_wide_rank.proofs.RowLemmas.{double_at}
use Rattle.bd_wide_rank.proofs.others.Others.are_less.Goals as goal

pub returns-then-below : goal.returns-then-below
returns-then-below c = λ e.
    let xs = c.args.self.now.numbers.items in
    let n = c.args.count in
    let below = rw c.deref.ensures.value at c.ends_below-below.ensures c.if-below.true in
    let above = rw c.deref-2.ensures.value at c.starts_above-above.ensures e in
    let few : n ≤ length xs = ⊎_elim (λ (some : 0 < n). (below some).0) (λ (none : n ≤ 0). omega arith) (cases_lt 0 n) in
    (few, double_at xs c.requires.rising c.args.key c.requires.key n few (λ some d. (below some).1 d) (λ inside d. above inside d))
