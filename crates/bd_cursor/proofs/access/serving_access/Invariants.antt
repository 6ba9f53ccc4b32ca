use Rattle.std.proofs.Common.{◌≡◌, drop, map}
use Rattle.bd_bson_dump.specs.{Collection.documents, declared.collection.Dump.Dump}
use Rattle.bd_query_filter.specs.Filter.{filter_tree}
use Rattle.bd_index.specs.IndexView.{AreIndexesOf}
use Rattle.bd_cursor.specs.Access.{by_bounds, find_map, index_key}
use Rattle.bd_cursor.proofs.access.serving_access.Given as goal

abbrev pub invariant-loop-index : goal.invariant-loop-index
invariant-loop-index l =
    (dump : Dump) → AreIndexesOf dump l.indexes → let by = by_bounds (documents dump) (filter_tree l.request.filter) in
    find_map by (map index_key (drop l.index-index l.indexes)) ≡ find_map by (map index_key l.indexes)
