-- The entries of an index on a path: the keys of the documents of a dump,
-- each with the number of its document.
use Rattle.std.specs.Prelude.{◌≡◌, ◌==◌, ◌<◌, ◌≤◌, ℕ, ◌-◌, Bool, true, ◌&&◌, List}
use Rattle.std.specs.Prelude.{slice_index_or}
use Rattle.std.specs.Ordering.{is_lt}
use Rattle.bd_value.specs.{Order.cmp, Order.equal}
use Rattle.bd_index.specs.Entries.{KeyAt}

-- whether two entries are of one document and have equal keys
abbrev pub is_same_entry : KeyAt → KeyAt → Bool
is_same_entry a b = (a.1 == b.1) && equal a.0 b.0

-- The entries from `start` to before `end` have equal keys, and those before them have lesser keys.
pub record IsRun (es : List KeyAt) (start end : ℕ) : Type 0 where
  pub some : start < end
  pub equals : (k : ℕ) (d : KeyAt) → start ≤ k → k < end →
      equal (slice_index_or es k d).0 (slice_index_or es (end - 1) d).0 ≡ true
  pub below : (k : ℕ) (d : KeyAt) → k < start → is_lt
      (cmp (slice_index_or es k d).0 (slice_index_or es (end - 1) d).0) ≡ true
