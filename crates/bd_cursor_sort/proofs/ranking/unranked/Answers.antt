use Rattle.std.proofs.{Common.◌∙◌, Common.ap, Common.map, lemmas.List.take_all}
use Rattle.bd_cursor_sort.proofs.RankingLemmas.{none_ranked, of_rank_0}
use Rattle.bd_cursor_sort.proofs.ranking.unranked.Goals as goal

pub returns-clause-ranked : goal.returns-clause-ranked
returns-clause-ranked c = λ ds.
    let sorted = c.sort_unstable.new.self.items in
    let all = c.deref-all.result.now in
    none_ranked ds c.args.places.now sorted c.loop-place.ranked.items
    (rw c.in_ok-sorted.ensures.items at c.sort_unstable.ensures.permutation) c.sort_unstable.ensures.sorted
    (c.loop-place.invariant ∙ ap (map of_rank_0) (take_all c.loop-place.place-index all c.loop-place-test.false ∙ c.deref-all.ensures.value))
