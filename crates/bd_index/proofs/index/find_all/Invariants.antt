use Rattle.std.proofs.Common.{◌≡◌, ◌++◌, Bool, drop, map}
use Rattle.std.specs.List.{All, count_by}
use Rattle.bd_bson_dump.specs.Collection.{documents, bytes_of}
use Rattle.bd_path.specs.PathNames.{names_of}
use Rattle.bd_index.specs.{Entries.KeyAt, Entries.entries_from, Entries.entries_of, inside.IndexView.IsFoundIn, inside.IndexView.found_entry}
use Rattle.bd_index.proofs.index.find_all.Given as goal

abbrev pub invariant-loop-place : goal.invariant-loop-place
invariant-loop-place l = record {
  so_far : (test : KeyAt → Bool) → count_by test (map found_entry l.found.items
      ++ entries_from l.sparse (names_of l.path) l.place (drop l.place (documents l.dump))) ≡ count_by test (entries_of l.sparse (names_of l.path) (documents l.dump));
  found_in : All (IsFoundIn (bytes_of l.dump)) l.found.items;
}
