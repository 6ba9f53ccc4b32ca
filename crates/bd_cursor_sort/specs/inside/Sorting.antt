-- The first n documents of a sorted list, and a pivot:
-- a document that others are compared with, by its keys on the paths of a sort.
use Rattle.std.specs.Prelude.{◌≡◌, ◌-◌, ◌≤◌, ℕ, nat_lt, not, Bool, true, false, List, [], ◌∷◌, length, map, take}
use Rattle.std.specs.Prelude.{slice_index_or}
use Rattle.std.specs.{Prelude.Option, Prelude.Some, Prelude.None, Prelude.option_map, List.Sorted.IsPermutation}
use Rattle.std.specs.{List.Sorted.IsSortedBy, Ordering.ordering_then, declared.cmp.Ordering.Ordering}
use Rattle.std.specs.{declared.cmp.Ordering.TheVariants.Equal}
use Rattle.bd_value.specs.Tree.{Doc, Tree}
use Rattle.bd_path.specs.{Sort.SortPath, Sort.dir_cmp, Sort.sort_key, PathNames.names_of}
use Rattle.bd_bson_dump.specs.Collection.{document_at}
use Rattle.bd_index_prefix.specs.Prefix.{stored_key}
use Rattle.bd_cursor_sort.specs.{declared.pivot.Pivot.Pivot, declared.pivot.PivotKey.PivotKey}

-- The new list is the first `most` of the old one, sorted.
pub record AreFirst (lt : ℕ → ℕ → Bool) (most : ℕ) (old new : List ℕ) : Type 0 where
  pub sorted : List ℕ
  pub same : IsPermutation old sorted
  pub rises : IsSortedBy lt sorted
  pub is : new ≡ take most sorted

-- The document number, if any, is the last of `most`.
abbrev pub IsEnd : ℕ → List ℕ → Option ℕ → Type 0
IsEnd most ps None = Unit {0}
IsEnd most ps (Some p) = (most ≤ length ps) × (p ≡ slice_index_or ps (most - 1) 0)

-- whether p comes before another document number; true without one
abbrev pub is_before_pivot : (ℕ → ℕ → Bool) → Option ℕ → ℕ → Bool
is_before_pivot lt None p = true
is_before_pivot lt (Some q) p = lt p q

-- whether as many were found as are needed; never without a limit
abbrev pub has_enough : Option ℕ → ℕ → Bool
has_enough None count = false
has_enough (Some most) count = not (nat_lt count most)

-- ---- pivots

-- the paths of a sort, each with a key in memory
abbrev pub pivots_in : List PivotKey → List (SortPath × Tree)
pivots_in ks = map (λ (k : PivotKey). (record { path = names_of k.path.now; dir = k.dir }, stored_key k.key.key)) ks

-- the paths of a sort, each with the key of the document with that number
abbrev pub pivot_keys : List Doc → ℕ → List SortPath → List (SortPath × Tree)
pivot_keys ds p ss = map (λ s. (s, sort_key s.dir (document_at ds p) s.path)) ss

-- the order of a document against these keys: the first path on which they differ decides
abbrev pub pivot_cmp : List (SortPath × Tree) → Tree → Ordering
pivot_cmp [] t = Equal
pivot_cmp (m ∷ ms) t = ordering_then (dir_cmp m.0.dir (sort_key m.0.dir t m.0.path) m.1) (pivot_cmp ms t)

-- The keys in memory are those of the document with its number.
abbrev pub IsPivot : List Doc → List SortPath → Pivot → Type 0
IsPivot ds ss m = pivots_in m.keys.items ≡ pivot_keys ds m.place ss

-- the document number of a pivot, if any
abbrev pub pivot_place : Option Pivot → Option ℕ
pivot_place = option_map (λ m. m.place)
