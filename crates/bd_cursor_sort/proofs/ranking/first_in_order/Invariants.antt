use Rattle.std.proofs.Common.{◌≤◌, length, take}
use Rattle.bd_bson_dump.specs.Collection.{documents}
use Rattle.bd_path.specs.Sort.{sort_paths}
use Rattle.bd_cursor_sort.specs.inside.Ranking.{AreRanked}
use Rattle.bd_cursor_sort.proofs.ranking.first_in_order.Given as goal

abbrev pub invariant-loop-path : goal.invariant-loop-path
invariant-loop-path l = record {
  ranked : AreRanked (documents l.dump) (sort_paths (take l.path-index l.sort)) l.places l.ranked.items;
  fits_u32 : length l.places ≤ 4294967295;
}
