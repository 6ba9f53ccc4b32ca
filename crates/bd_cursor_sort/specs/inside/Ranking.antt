-- Documents that are sorted by one path after the other.
-- Each has a rank by the paths so far: the lower rank comes first, and documents that tie have the same rank.
use Rattle.std.specs.Prelude.{◌≡◌, ◌<◌, ℕ, ◌+◌, List, [], ◌∷◌, length, map, Option, Some, None, if◌then◌else◌}
use Rattle.std.specs.Prelude.{slice_index_or}
use Rattle.std.specs.Ordering.{is_lt, nat_cmp, ordering_then}
use Rattle.std.specs.{List.Sorted.IsPermutation, List.Sorted.IsSortedBy, declared.cmp.Ordering.Ordering}
use Rattle.bd_value.specs.Tree.{Doc, Tree}
use Rattle.bd_path.specs.{Sort.SortPath, Sort.dir_cmp, Sort.sort_key, declared.sort.Dir.Dir}
use Rattle.bd_cursor_model.specs.Answer.{before}
use Rattle.bd_bson_dump.specs.Collection.{document_at}
use Rattle.bd_index_prefix.specs.Prefix.{stored_key}
use Rattle.bd_cursor_sort.specs.{Selection.order_of_keys, declared.ranking.Ranked.Ranked, declared.ranking.Row.Row}

-- a document by its rank on the paths so far, its number, and its key on the next path
pub record Keyed : Type 0 where
  pub rank : ℕ
  pub place : ℕ
  pub key : Tree

-- the document, rank and key that a row in memory represents
abbrev pub keyed_row : Row → Keyed
keyed_row r = record { rank = r.rank; place = r.place; key = stored_key r.key.key }

-- a ranked document with its sort key on the next path
abbrev pub keyed : List Doc → SortPath → Ranked → Keyed
keyed ds s r = record { rank = r.rank; place = r.place; key = sort_key s.dir (document_at ds r.place) s.path }

-- the order of documents by rank, and within one rank by their keys
abbrev pub keyed_cmp : Dir → Keyed → Keyed → Ordering
keyed_cmp dir a b = ordering_then (nat_cmp a.rank b.rank) (dir_cmp dir a.key b.key)

-- the order of documents by rank, then by key, then by number
abbrev pub rows_cmp : Dir → Keyed → Keyed → Ordering
rows_cmp dir a b = ordering_then (keyed_cmp dir a b) (nat_cmp a.place b.place)

-- the new rank of a document in a sorted list:
-- one more than the last one's if it comes after that by rank and key, otherwise the same
abbrev pub next_rank : Dir → ℕ → Option Keyed → Keyed → ℕ
next_rank dir rank None y = rank
next_rank dir rank (Some x) y = if is_lt (keyed_cmp dir x y) then rank + 1 else rank

-- the new ranks of sorted documents, from `rank` on
abbrev pub ranks_from : Dir → ℕ → Option Keyed → List Keyed → List Ranked
ranks_from dir rank last [] = []
ranks_from dir rank last (y ∷ ys) =
    record { rank = next_rank dir rank last y; place = y.place }
    ∷ ranks_from dir (next_rank dir rank last y) (Some y) ys

-- the document number of a ranked document
abbrev pub place_of : Ranked → ℕ
place_of r = r.place

-- The documents are these, in the order of the sort, and their ranks compare as their sort keys do.
pub record AreRanked (ds : List Doc) (ss : List SortPath) (ps : List ℕ) (rs : List Ranked) : Type 0 where
  pub same : IsPermutation ps (map place_of rs)
  pub rises : IsSortedBy (before (order_of_keys ds ss)) (map place_of rs)
  pub in_order : (i j : ℕ) (d : Ranked) → i < length rs → j < length rs →
      nat_cmp (slice_index_or rs i d).rank (slice_index_or rs j d).rank
      ≡ order_of_keys ds ss (slice_index_or rs i d).place (slice_index_or rs j d).place
