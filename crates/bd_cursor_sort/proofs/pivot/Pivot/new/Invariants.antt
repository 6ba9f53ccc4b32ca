use Rattle.std.proofs.Common.{◌≡◌, take}
use Rattle.bd_bson_dump.specs.Collection.{documents}
use Rattle.bd_path.specs.Sort.{sort_paths}
use Rattle.bd_cursor_sort.specs.inside.Sorting.{pivot_keys, pivots_in}
use Rattle.bd_cursor_sort.proofs.pivot.Pivot.new.Given as goal

abbrev pub invariant-loop-path : goal.invariant-loop-path
invariant-loop-path l = pivots_in l.keys.items ≡ pivot_keys (documents l.dump) l.place (sort_paths (take l.path-index l.sort))
