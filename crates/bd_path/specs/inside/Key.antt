-- The keys of a document on a path: by them it is sorted, and an index has them as entries.
use Rattle.std.specs.Prelude.{◌≡◌, ℕ, List, [], ◌∷◌, ◌++◌, Bool, not, if◌then◌else◌}
use Rattle.std.specs.List.{flat_map, list_any}
use Rattle.bd_value.specs.Order.{equal}
use Rattle.bd_value.specs.Tree.{Tree}
use Rattle.bd_path.specs.{PathWalk.Stops, declared.key.Key.Key}
use Rattle.bd_path.specs.{declared.path_walk.Stop.Stop, declared.path_walk.Stop.TheVariants.Value}
use Rattle.bd_path.specs.Key.{missing_key, end_keys, distinct, key_trees, AreKeysOf, AreKeysAt}

-- ---- distinct keys, one at a time

-- the keys and one more, unless it equals one of them
abbrev pub with_key : List Tree → Tree → List Tree
with_key ks k = if list_any (λ x. equal x k) ks then ks else ks ++ k ∷ []

-- the keys with some more after them, each of these dropped if it equals an earlier one
abbrev pub with_keys : List Tree → List Tree → List Tree
with_keys ks [] = ks
with_keys ks (t ∷ ts) = with_keys (with_key ks t) ts

-- ---- keys found so far; those that equal an earlier one do not count

-- the keys that a stop of a path walk gives
abbrev pub stop_keys : Bool → Stop Tree → List Tree
stop_keys sparse (Value t) = end_keys t
stop_keys sparse _ = missing_key sparse

-- The new keys are the old keys and these, of equal ones the first.
abbrev pub AddsKeys : {N : Type 0} → (N → Tree) → List (Key N) → List (Key N) → List Tree → Type 0
AddsKeys tree before after more = distinct (key_trees tree after) ≡ distinct (key_trees tree before ++ more)

-- whether a key equals none of these keys
abbrev pub is_new : List Tree → Tree → Bool
is_new ks k = not (list_any (λ x. equal x k) ks)

-- whether a stop gives a key that equals none of those found so far
abbrev pub gives_new : Bool → List Tree → Stop Tree → Bool
gives_new sparse ks s = list_any (is_new (distinct ks)) (stop_keys sparse s)

-- The keys found are those of these stops, of equal ones the first, and each node is in these bytes.
pub record AreKeysFrom {N : Type 0} (tree : N → Tree) (source : N → List ℕ) (sparse : Bool) (ks : List (Key N))
    (bytes : List ℕ) (ss : Stops) : Type 0 where
  pub listed : distinct (key_trees tree ks) ≡ distinct (flat_map (stop_keys sparse) ss)
  pub same_source : AreKeysOf source bytes ks
  pub there : AreKeysAt sparse ss ks
