use Rattle.std.proofs.Common.{◌≡◌, ◌<◌, ◌≤◌, ◌++◌, IfSome, filter, length}
use Rattle.std.specs.List.{All}
use Rattle.bd_cursor_model.specs.Source.{passes}
use Rattle.bd_bson_dump.specs.Collection.{documents}
use Rattle.bd_path.specs.Sort.{sort_paths}
use Rattle.bd_query_filter.specs.Filter.{filter_tree}
use Rattle.bd_cursor_sort.specs.{inside.Sorting.pivot_place, Selection.matches_at_of, Selection.order_of_keys}
use Rattle.bd_cursor_sort.proofs.sorting.places_in_order.Given as goal

abbrev pub invariant-loop-last : goal.invariant-loop-last
invariant-loop-last g l =
    let ds = documents l.dump in
    let pass = passes (matches_at_of ds (filter_tree l.request.filter)) (order_of_keys ds (sort_paths l.request.sort.items)) (pivot_place l.last) in
    record {
      fact : l.found.items ++ filter pass (g.P.PlaceSource.remaining l.source) ≡ filter pass (g.P.PlaceSource.remaining l.initial.source);
      below : All (λ p. p < length ds) (g.P.PlaceSource.remaining l.source);
      few : IfSome l.most (λ n. length l.found.items ≤ n);
    }

abbrev pub decreases-loop-last : goal.decreases-loop-last
decreases-loop-last g l = length (g.P.PlaceSource.remaining l.source)
