use Rattle.std.proofs.Common.{◌≡◌, drop}
use Rattle.bd_bson_dump.specs.{Collection.documents, Collection.document_at}
use Rattle.bd_cursor_sort.specs.inside.Sorting.{pivot_cmp, pivots_in}
use Rattle.bd_cursor_sort.proofs.pivot.Pivot.compare_keys.Given as goal

-- the remaining keys decide
abbrev pub invariant-loop-one : goal.invariant-loop-one
invariant-loop-one l =
    pivot_cmp (pivots_in (drop l.one-index l.keys)) (document_at (documents l.dump) l.place) ≡ pivot_cmp (pivots_in l.keys) (document_at (documents l.dump) l.place)
