use Rattle.std.proofs.{Common.rules, lemmas.Fn.always_returns_same}
use Rattle.std.specs.Ordering.{is_lt}
use Rattle.bd_cursor_sort.specs.{inside.Ranking.keyed_row, inside.Ranking.rows_cmp, declared.ranking.Row.Row}
use Rattle.bd_cursor_sort.proofs.RankingLemmas.{rows_weak}
use Rattle.bd_cursor_sort.proofs.ranking.sort_rows.Goals as goal

pub returns-clause-rises : goal.returns-clause-rises
returns-clause-rises c =
    c.sort_unstable_by.ensures.sorted (λ (a b : Row). is_lt (rows_cmp c.args.dir (keyed_row a) (keyed_row b))) (rows_weak c.args.dir) (always_returns_same _ _ _ (λ a r f' k. search rules))
