use Rattle.std.proofs.Common.{◌≡◌, ◌+◌, ◌++◌, arith, length, vec_len}
use Rattle.bd_wide_rank.specs.Table.{collected, worths}
use Rattle.bd_wide_rank.specs.Key.{key_worths}
use Rattle.bd_wide_rank.specs.Rows.{between_worths}
use Rattle.bd_wide_rank.proofs.RankLemmas.{same_both}
use Rattle.bd_wide_rank.proofs.RowLemmas.{rows_distinct}
use Rattle.bd_wide_rank.proofs.TableLemmas.{row_length}
use Rattle.bd_wide_rank.proofs.numbers.Numbers.into_table.Goals as goal

pub returns-then-len-gt-MOST-clause-err : goal.returns-then-len-gt-MOST-clause-err
unfolding collected
returns-then-len-gt-MOST-clause-err c =
    let before = c.args.self in
    let doubles = c.sort.new.self in
    let others = c.sort-2.new.self in
    let keys = key_worths doubles.keys.items in
    let rest = between_worths others.numbers.items in
    let many : vec_len doubles.keys + vec_len others.numbers ≡ length (keys ++ rest) =
    omega (arith, row_length doubles.keys.items others.numbers.items, doubles.keys.ok.0, others.numbers.ok.0) in (
      keys ++ rest,
      rows_distinct doubles.keys.items doubles.are_keys c.sort.ensures.rising others.numbers.items c.sort-2.ensures.rising,
      same_both keys (key_worths before.doubles.keys.items) rest (between_worths before.others.numbers.items) c.sort.ensures.same c.sort-2.ensures.same,
      omega (arith, many, c.len.ensures, c.len-2.ensures, c.if-len-gt-MOST.true),
    )

pub returns-clause-ok : goal.returns-clause-ok
unfolding collected worths
returns-clause-ok c =
    let before = c.args.self in
    same_both (key_worths c.sort.new.self.keys.items) (key_worths before.doubles.keys.items)
    (between_worths c.sort-2.new.self.numbers.items) (between_worths before.others.numbers.items) c.sort.ensures.same c.sort-2.ensures.same
