use Rattle.std.proofs.Common.{length}
use Rattle.bd_cursor_model.specs.Source.{passes}
use Rattle.bd_bson_dump.specs.Collection.{documents}
use Rattle.bd_path.specs.Sort.{sort_paths}
use Rattle.bd_query_filter.specs.Filter.{filter_tree}
use Rattle.bd_cursor_sort.specs.{inside.Sorting.pivot_place, Selection.matches_at_of, Selection.order_of_keys}
use Rattle.bd_cursor_sort.proofs.SortingLemmas.{IsState}
use Rattle.bd_cursor_sort.proofs.sorting.first_places.Given as goal

abbrev pub invariant-loop-place : goal.invariant-loop-place
invariant-loop-place g l =
    let ds = documents l.dump in
    let ss = sort_paths l.request.sort.items in
    let pass = passes (matches_at_of ds (filter_tree l.request.filter)) (order_of_keys ds ss) (pivot_place l.last) in
    IsState ds ss l.most pass (g.P.PlaceSource.remaining l.source) (g.P.PlaceSource.remaining l.initial.source) l.places.items l.end

abbrev pub decreases-loop-place : goal.decreases-loop-place
decreases-loop-place g l = length (g.P.PlaceSource.remaining l.source)
