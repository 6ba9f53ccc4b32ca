-- The keys of a document on a path: by them it is sorted, and an index has them as entries.
use Rattle.std.specs.Prelude.{◌≡◌, ℕ, List, [], ◌∷◌, Bool, true, false, not, map, All}
use Rattle.std.specs.List.{filter, list_any}
use Rattle.bd_value.specs.Order.{equal}
use Rattle.bd_value.specs.Tree.{Tree, leaf, null, undefined, array, no_items, list_of}
use Rattle.bd_path.specs.{Reach.Collecting, Reach.Names, Reach.collecting, PathWalk.Stops, declared.key.Key.Key}
use Rattle.bd_path.specs.{declared.path_walk.Stop.Stop, declared.path_walk.Stop.TheVariants.Value}
use Rattle.bd_path.specs.declared.key.Key.TheVariants.{Node, Null, Undefined}

-- the keys that a missing field gives: null, and in a sparse index none
abbrev pub missing_key : Bool → List Tree
missing_key true = []
missing_key false = leaf null ∷ []

-- the first list, or if it is empty the second
abbrev pub or_else : List Tree → List Tree → List Tree
or_else [] ys = ys
or_else (x ∷ xs) ys = x ∷ xs

-- the keys that a value at the end of a path gives:
-- the elements of an array, undefined if it is empty, else the value itself
abbrev pub end_keys : Tree → List Tree
end_keys (array ts) = or_else (list_of ts) (leaf undefined ∷ [])
end_keys t = t ∷ []

-- collects the keys on a path; an array that gives no key gives what a missing field gives
abbrev pub key_collecting : List Tree → Collecting Tree
key_collecting missing = record { at_end = end_keys; missing = missing; of_array = λ ks. or_else ks missing }

-- the keys of a document on a path, equal ones repeated
abbrev pub all_keys : Bool → Tree → Names → List Tree
all_keys sparse t path = collecting (key_collecting (missing_key sparse)) t path

-- the keys without those that equal an earlier one: of an int32 5 and an int64 5 the first stays
abbrev pub distinct : List Tree → List Tree
distinct [] = []
distinct (k ∷ ks) = k ∷ filter (λ x. not (equal k x)) (distinct ks)

-- the keys that an index has of a document, sparse or not: of equal ones the first
abbrev pub indexed_keys : Bool → Tree → Names → List Tree
indexed_keys sparse t path = distinct (all_keys sparse t path)

-- The keys of a document on a path, never none, of equal ones the first: the values that the path reaches,
-- of an array its elements, null for a missing field, and undefined for an empty array.
abbrev pub keys : Tree → Names → List Tree
keys t path = indexed_keys false t path

-- the keys that a sparse index has of a document:
-- those of `keys` without the nulls of missing fields; there may be none
abbrev pub sparse_keys : Tree → Names → List Tree
sparse_keys t path = indexed_keys true t path

-- ---- keys in memory

-- the value of a key in memory: that of its node, or null or undefined
abbrev pub key_tree : {N : Type 0} → (N → Tree) → Key N → Tree
key_tree tree (Node n) = tree n
key_tree tree Null = leaf null
key_tree tree Undefined = leaf undefined

-- the values of some keys in memory, in order
abbrev pub key_trees : {N : Type 0} → (N → Tree) → List (Key N) → List Tree
key_trees tree ks = map (key_tree tree) ks

-- If the key is a node, that is a value in these bytes.
abbrev pub IsKeyOf : {N : Type 0} → (N → List ℕ) → List ℕ → Key N → Type 0
IsKeyOf source bytes (Node n) = source n ≡ bytes
IsKeyOf source bytes _ = Unit {0}

-- Each node among the keys is a value in these bytes.
abbrev pub AreKeysOf : {N : Type 0} → (N → List ℕ) → List ℕ → List (Key N) → Type 0
AreKeysOf source bytes ks = All (IsKeyOf source bytes) ks

-- whether a path walk stops here without a value
abbrev pub is_no_value : Stop Tree → Bool
is_no_value (Value t) = false
is_no_value _ = true

-- whether a path walk stops here at an empty array
abbrev pub is_empty_array : Stop Tree → Bool
is_empty_array (Value (array no_items)) = true
is_empty_array _ = false

-- A key comes from these stops: null from one without a value, and not in a sparse index;
-- undefined from an empty array; else it is a node.
abbrev pub IsKeyAt : {N : Type 0} → Bool → Stops → Key N → Type 0
IsKeyAt sparse ss (Node n) = Unit {0}
IsKeyAt sparse ss Null = (sparse ≡ false) × (list_any is_no_value ss ≡ true)
IsKeyAt sparse ss Undefined = list_any is_empty_array ss ≡ true

-- Each of the keys comes from one of these stops.
abbrev pub AreKeysAt : {N : Type 0} → Bool → Stops → List (Key N) → Type 0
AreKeysAt sparse ss ks = All (IsKeyAt sparse ss) ks
