use Rattle.std.proofs.Common.{◌≡◌, ◌++◌, Bool, length, map, All}
use Rattle.bd_value.specs.Tree.{values_of, elements_in}
use Rattle.bd_path.specs.{Key.AreKeysAt, Key.IsKeyOf, Key.key_tree, Key.distinct, PathWalk.Stops}
use Rattle.bd_path.proofs.key.add_elements.Given as goal

abbrev pub invariant-loop-next : goal.invariant-loop-next
invariant-loop-next g l = record {
  so_far : distinct (map (key_tree g.N.Reading.tree) l.keys.items ++ values_of (g.N.Reading.remaining l.remaining))
      ≡ distinct (map (key_tree g.N.Reading.tree) l.fn.keys.items ++ elements_in (g.N.Reading.tree l.fn.node));
  same_source : All (IsKeyOf g.N.Reading.source (g.N.Reading.source l.fn.node)) l.fn.keys.items → All (IsKeyOf g.N.Reading.source (g.N.Reading.source l.fn.node)) l.keys.items;
  at_stops : (sparse : Bool) (ss : Stops) → AreKeysAt sparse ss l.fn.keys.items → AreKeysAt sparse ss l.keys.items;
  source : g.N.Reading.rest_source l.remaining ≡ g.N.Reading.source l.fn.node;
}

abbrev pub decreases-loop-next : goal.decreases-loop-next
decreases-loop-next g l = length (g.N.Reading.remaining l.remaining)
