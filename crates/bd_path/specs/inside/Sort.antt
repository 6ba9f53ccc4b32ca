-- The sort key of a document, and the order of two documents in a sort (MongoDB manual, "cursor.sort()").
use Rattle.std.specs.Prelude.{◌≡◌, ℕ, Bool, false, true, List, [], ◌∷◌, Option, Some, None, IfSome, option_map, if◌then◌else◌}
use Rattle.std.specs.{List.flat_map, List.list_any, Ordering.is_lt}
use Rattle.bd_value.specs.{Tree.Tree}
use Rattle.bd_path.specs.{Key.IsKeyAt, Key.IsKeyOf, Key.key_tree, inside.Key.stop_keys}
use Rattle.bd_path.specs.{PathWalk.Stops, declared.key.Key.Key, declared.sort.Dir.Dir}
use Rattle.bd_path.specs.{declared.path_walk.Stop.Stop}
use Rattle.bd_path.specs.Sort.{dir_cmp}

-- ---- the earliest of the keys found so far

-- the one of two keys that comes first in the direction, of equal ones the first;
-- if one is missing, the other
abbrev pub earlier_key : Dir → Option Tree → Option Tree → Option Tree
earlier_key dir None b = b
earlier_key dir (Some a) None = Some a
earlier_key dir (Some a) (Some b) = if is_lt (dir_cmp dir b a) then Some b else Some a

-- the key that comes first in the direction: the least for 1, the greatest for -1; of equal ones the first
abbrev pub earliest_key : Dir → List Tree → Option Tree
earliest_key dir [] = None
earliest_key dir (k ∷ ks) = earlier_key dir (Some k) (earliest_key dir ks)

-- whether a key comes before the earliest so far, or is the first one
abbrev pub is_earlier : Dir → Option Tree → Tree → Bool
is_earlier dir None k = true
is_earlier dir (Some e) k = is_lt (dir_cmp dir k e)

-- whether a stop gives a key that comes before the earliest so far
abbrev pub gives_earlier : Dir → Option Tree → Stop Tree → Bool
gives_earlier dir e s = list_any (is_earlier dir e) (stop_keys false s)

-- The key is the earliest of those that these stops give, and if it is a node, that is in these bytes.
pub record IsEarliestFrom {N : Type 0} (tree : N → Tree) (source : N → List ℕ) (dir : Dir) (key : Option (Key N))
    (bytes : List ℕ) (ss : Stops) : Type 0 where
  pub earliest : option_map (key_tree tree) key ≡ earliest_key dir (flat_map (stop_keys false) ss)
  pub same_source : IfSome key (IsKeyOf source bytes)
  pub there : IfSome key (IsKeyAt false ss)
