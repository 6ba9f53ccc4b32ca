use Rattle.std.proofs.Common.{◌<◌, ◌+◌, ◌^◌, arith, sym, ◌∙◌, ap₂}
use Rattle.bd_wide_rank.specs.Table.{worths}
use Rattle.bd_wide_rank.specs.Key.{key_worth, key_worths}
use Rattle.bd_wide_rank.specs.Rows.{between_worths}
use Rattle.bd_wide_rank.proofs.RankLemmas.{rank_append}
use Rattle.bd_wide_rank.proofs.TableLemmas.{ranks_few}
use Rattle.bd_wide_rank.proofs.table.Table.rank_of_double.Goals as goal

pub overflow_add-result : goal.overflow_add-result
overflow_add-result c =
    let few : c.rank.result + c.rank_of_double.result < 2 ^ 31 = ranks_few c.args.self.now (key_worth c.args.key) _ _ c.rank.ensures c.rank_of_double.ensures in omega arith

pub returns-clause-is : goal.returns-clause-is
unfolding worths
returns-clause-is c =
    let t = c.args.self.now in
    ap₂ ◌+◌ c.rank.ensures c.rank_of_double.ensures ∙ sym (rank_append (key_worths t.doubles.keys.items) (between_worths t.others.numbers.items) (key_worth c.args.key))

pub returns-clause-fits_i32 : goal.returns-clause-fits_i32
returns-clause-fits_i32 c = ranks_few c.args.self.now (key_worth c.args.key) _ _ c.rank.ensures c.rank_of_double.ensures
