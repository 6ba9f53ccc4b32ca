-- The documents that have an entry inside bounds, and spans of positions in the entries of an index.
use Rattle.std.specs.Prelude.{◌≡◌, ◌<◌, ◌≤◌, ℕ, Bool, ◌&&◌, not, nat_lt, List, [], ◌∷◌, ◌++◌, length}
use Rattle.std.specs.Prelude.{slice_index_or, slice_range}
use Rattle.std.specs.{List.list_any}
use Rattle.bd_index_bounds.specs.Bounds.{KeySet}
use Rattle.bd_index.specs.{Entries.KeyAt, declared.places.Span.Span}

-- whether position k of the entries is in a span: from its start on, and before its end
abbrev pub is_in_span : ℕ → Span → Bool
is_in_span k s = not (nat_lt k s.from) && nat_lt k s.to

-- whether position k of the entries is in one of the spans
abbrev pub is_covered : List Span → ℕ → Bool
is_covered spans k = list_any (is_in_span k) spans

-- The spans come one after the other, between these two positions.
abbrev pub AreInOrder : ℕ → ℕ → List Span → Type 0
AreInOrder low high [] = low ≤ high
AreInOrder low high (s ∷ spans) = (low ≤ s.from) × (s.from ≤ s.to) × AreInOrder s.to high spans

-- The spans cover the entries whose keys are in the set, and no others.
pub record CoverKeys (es : List KeyAt) (keys : KeySet) (spans : List Span) : Type 0 where
  pub order : AreInOrder 0 (length es) spans
  pub cover : (k : ℕ) (d : KeyAt) → k < length es → is_covered spans k ≡ keys (slice_index_or es k d).0

-- the members of a list that the spans cover, span by span
abbrev pub pieces : {A : Type 0} → List A → List Span → List A
pieces xs [] = []
pieces xs (s ∷ spans) = slice_range xs s.from s.to ++ pieces xs spans
