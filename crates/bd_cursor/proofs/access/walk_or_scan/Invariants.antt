use Rattle.std.proofs.Common.{◌≡◌, drop, map}
use Rattle.bd_path.specs.Sort.{sort_paths}
use Rattle.bd_cursor.specs.Access.{by_order, find_map, index_key}
use Rattle.bd_cursor.proofs.access.walk_or_scan.Given as goal

abbrev pub invariant-loop-index : goal.invariant-loop-index
invariant-loop-index l =
    let by = by_order (sort_paths l.request.sort.items) in
    find_map by (map index_key (drop l.index-index l.indexes)) ≡ find_map by (map index_key l.indexes)
