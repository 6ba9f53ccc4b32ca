use Rattle.std.proofs.Common.{◌≡◌, ◌++◌, All, take, map}
use Rattle.bd_bson_view.specs.Raw.{value_tree}
use Rattle.bd_bson_dump.specs.Collection.{bytes_of}
use Rattle.bd_path.specs.Key.{key_trees}
use Rattle.bd_index.specs.{Entries.keys_at, inside.IndexView.IsFoundIn, inside.IndexView.found_entry}
use Rattle.bd_index.proofs.index.add_found.Given as goal

abbrev pub invariant-loop-key : goal.invariant-loop-key
invariant-loop-key l = record {
  added : map found_entry l.found.items ≡ map found_entry l.fn.found.items ++ keys_at l.place (key_trees value_tree (take l.key-index l.keys));
  stored : All (IsFoundIn (bytes_of l.dump)) l.fn.found.items → All (IsFoundIn (bytes_of l.dump)) l.found.items;
}
