use Rattle.std.proofs.Common.{rules}
use Rattle.std.proofs.{lemmas.Fn.always_returns_same, lemmas.List.Sorted.ranks_by}
use Rattle.bd_value.proofs.OrderLemmas.{cmp_total}
use Rattle.bd_query_filter.specs.inside.Indexes.{tree_at}
use Rattle.bd_query_filter.proofs.filter.indexes_in_order.Goals as goal

pub returns-clause-ascending : goal.returns-clause-ascending
returns-clause-ascending c =
    c.sort_unstable_by.ensures.sorted _ (ranks_by cmp_total (tree_at c.args.values.now)) (always_returns_same _ _ _ (λ a r f' k. search rules))
