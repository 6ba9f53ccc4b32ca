-- The documents that have an entry inside bounds, and spans of positions in the entries of an index.
use Rattle.std.specs.Prelude.{◌≡◌, ◌==◌, ℕ, Bool, ◌&&◌, List, count_by}
use Rattle.std.specs.Prelude.{Option, option_map}
use Rattle.std.specs.{Borrow.Bor, List.list_any, List.Sorted.IsStrictlyIncreasing}
use Rattle.bd_value.specs.Tree.{Doc}
use Rattle.bd_path.specs.Reach.{Names}
use Rattle.bd_index_bounds.specs.Bounds.{KeyBounds, is_among}
use Rattle.bd_index_bounds.specs.{BoundsView.keys_within, declared.bounds.Bounds.Bounds}
use Rattle.bd_index.specs.{Entries.KeyAt, Entries.entries_of}

-- the bounds that borrowed bounds represent; None is unbounded
abbrev pub lent_bounds : Option (Bor Bounds) → KeyBounds
lent_bounds bounds = option_map (λ b. keys_within b.now) bounds

-- whether the key of an entry is inside bounds
abbrev pub has_key_in : KeyBounds → KeyAt → Bool
has_key_in bounds e = is_among bounds e.0

-- These are the numbers of the documents with an entry inside the bounds, ascending, each once;
-- `entries` is the number of entries inside.
pub record AreWithin (sparse : Bool) (path : Names) (ds : List Doc) (bounds : KeyBounds) (places : List ℕ)
    (entries : ℕ) : Type 0 where
  pub ascend : IsStrictlyIncreasing places
  pub members : (p : ℕ) → list_any (λ q. q == p) places
      ≡ list_any (λ e. has_key_in bounds e && (e.1 == p)) (entries_of sparse path ds)
  pub counted : entries ≡ count_by (has_key_in bounds) (entries_of sparse path ds)
