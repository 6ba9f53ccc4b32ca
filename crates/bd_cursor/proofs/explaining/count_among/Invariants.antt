use Rattle.std.proofs.Common.{◌≡◌, count_by, take}
use Rattle.bd_bson_dump.specs.Collection.{documents}
use Rattle.bd_query_filter.specs.Filter.{filter_tree}
use Rattle.bd_cursor_sort.specs.Selection.{matches_at_of}
use Rattle.bd_cursor.proofs.explaining.count_among.Given as goal

abbrev pub invariant-loop-place : goal.invariant-loop-place
invariant-loop-place l = l.count ≡ count_by (matches_at_of (documents l.dump) (filter_tree l.filter)) (take l.place-index l.places)
