use Rattle.std.proofs.Common.{◌≡◌, ℕ, Bool, List, map, take, All}
use Rattle.bd_path.specs.{Key.distinct, Key.AreKeysAt, Key.IsKeyOf, Key.key_tree, PathWalk.Stops}
use Rattle.bd_path.proofs.key.distinct_keys.Given as goal

abbrev pub invariant-loop-key : goal.invariant-loop-key
invariant-loop-key g l = record {
  so_far : map (key_tree g.N.Reading.tree) l.keys.items ≡ distinct (map (key_tree g.N.Reading.tree) (take l.key-index l.all));
  same_source : (bytes : List ℕ) → All (IsKeyOf g.N.Reading.source bytes) l.all → All (IsKeyOf g.N.Reading.source bytes) l.keys.items;
  at_stops : (sparse : Bool) (ss : Stops) → AreKeysAt sparse ss l.all → AreKeysAt sparse ss l.keys.items;
}
