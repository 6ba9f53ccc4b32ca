use Rattle.std.proofs.Common.{◌≡◌, ◌≤◌, count_by}
use Rattle.std.specs.List.{range_with_len}
use Rattle.bd_bson_dump.specs.Collection.{documents}
use Rattle.bd_query_filter.specs.Filter.{filter_tree}
use Rattle.bd_cursor_sort.specs.Selection.{matches_at_of}
use Rattle.bd_cursor.proofs.explaining.count_matches.Given as goal

abbrev pub invariant-loop-place : goal.invariant-loop-place
invariant-loop-place l = record {
  counted : l.count ≡ count_by (matches_at_of (documents l.dump) (filter_tree l.filter)) (range_with_len 0 l.place);
  few : l.count ≤ l.place;
}
