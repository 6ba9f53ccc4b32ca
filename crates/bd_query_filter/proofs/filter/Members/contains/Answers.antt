use Rattle.std.proofs.Common.{◌∙◌, length, rules, subst}
use Rattle.std.specs.List.Sorted.{IsBinarySearchResult, IsSearchInRange}
use Rattle.std.proofs.lemmas.Fn.{always_returns_same}
use Rattle.bd_value.specs.Order.{cmp, equal}
use Rattle.bd_value.proofs.OrderLemmas.{cmp_total}
use Rattle.bd_query_filter.specs.inside.Indexes.{tree_at}
use Rattle.bd_query_filter.proofs.MembersLemmas.{any_of_indexes, found_as_any}
use Rattle.bd_query_filter.proofs.filter.Members.contains.Goals as goal

pub returns : goal.returns
returns g c =
    let t = g.N.Reading.tree c.args.node in
    let m = c.args.self.now in
    let key = tree_at m.values.items in
    let r = c.binary_search_by.result in
    c.is_ok.ensures.value
    ∙ found_as_any cmp cmp_total key m.indexes.items t r m.ascending
    (subst (λ indexes. IsSearchInRange r (length indexes)) c.deref.ensures.value c.binary_search_by.ensures.bound)
    (subst (λ indexes. IsBinarySearchResult (λ i. cmp (key i) t) indexes r) c.deref.ensures.value
    (c.binary_search_by.ensures.position (λ i. cmp (key i) t) (always_returns_same _ _ _ (λ a r f' k. search rules))))
    ∙ any_of_indexes (equal t) m.values.items m.indexes.items m.all
