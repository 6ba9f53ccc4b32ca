use Rattle.std.proofs.Common.{◌<◌, ◌≤◌, arith, length, ⊎_elim}
use Rattle.std.proofs.lemmas.Bool.{cases_lt}
use Rattle.bd_wide_rank.specs.Worth.{worth_of}
use Rattle.bd_wide_rank.proofs.RowLemmas.{between_at}
use Rattle.bd_wide_rank.proofs.doubles.Doubles.are_less.Goals as goal

pub returns-then-below : goal.returns-then-below
returns-then-below c = λ e.
    let row = c.args.self.now in
    let keys = row.keys.items in
    let b = c.args.number in
    let n = c.args.count in
    let below = rw c.deref.ensures.value at c.ends_below-below.ensures c.if-below.true in
    let above = rw c.deref-2.ensures.value at c.starts_above-above.ensures e in
    let few : n ≤ length keys = ⊎_elim (λ (some : 0 < n). (below some).0) (λ (none : n ≤ 0). omega arith) (cases_lt 0 n) in
    (few, between_at keys row.are_keys c.requires b.key (worth_of b.number) b.between n few (λ some. (below some).1) above)
