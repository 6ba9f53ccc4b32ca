-- The entries of an index on a path: the keys of the documents of a dump,
-- each with the number of its document.
use Rattle.std.specs.Prelude.{◌≡◌, ℕ, ◌+◌, Bool, List, [], ◌∷◌, ◌++◌, map, count_by}
use Rattle.std.specs.Prelude.{length, nat_lt, if◌then◌else◌}
use Rattle.std.specs.{List.list_any, List.Sorted.IsSortedBy, declared.cmp.Ordering.Ordering}
use Rattle.std.specs.Ordering.{is_lt, nat_cmp, ordering_then}
use Rattle.bd_value.specs.{Order.cmp, Tree.Tree, Tree.Doc, Tree.doc, Tree.fields_of}
use Rattle.bd_path.specs.{Key.indexed_keys, Key.keys, Reach.Names}

-- an entry: a key, and the number of its document
abbrev pub KeyAt : Type 0
KeyAt = Tree × ℕ

-- an entry for each of these keys, all of one document
abbrev pub keys_at : ℕ → List Tree → List KeyAt
keys_at place ks = map (λ k. (k, place)) ks

-- the entries of documents whose numbers begin at `place`: one for each key of each
abbrev pub entries_from : Bool → Names → ℕ → List Doc → List KeyAt
entries_from sparse path place [] = []
entries_from sparse path place (d ∷ ds) =
    keys_at place (indexed_keys sparse (doc (fields_of d)) path) ++ entries_from sparse path (place + 1) ds

-- the entries of an index on a path, sparse or not:
-- one for each key of each document, in the order of the documents
abbrev pub entries_of : Bool → Names → List Doc → List KeyAt
entries_of sparse path ds = entries_from sparse path 0 ds

-- whether a document has more than one key on the path, so that an index there is multikey
abbrev pub has_two_keys : Names → Tree → Bool
has_two_keys path t = nat_lt 1 (length (keys t path))

-- whether some document has two keys on the path,
-- a null for a missing field included (MongoDB manual, "Multikey Indexes")
abbrev pub is_multikey : Names → List Doc → Bool
is_multikey path ds = list_any (λ d. has_two_keys path (doc (fields_of d))) ds

-- the order of entries: by key, then by document number
abbrev pub entry_cmp : KeyAt → KeyAt → Ordering
entry_cmp a b = ordering_then (cmp a.0 b.0) (nat_cmp a.1 b.1)

-- These are all entries of the documents and no others, sorted by key and then by document number.
pub record AreEntries (sparse : Bool) (path : Names) (ds : List Doc) (es : List KeyAt) : Type 0 where
  pub same : (test : KeyAt → Bool) → count_by test es ≡ count_by test (entries_of sparse path ds)
  pub sorted : IsSortedBy (λ a b. is_lt (entry_cmp a b)) es

-- an entry put before the first one whose key is not greater
abbrev pub put_down : KeyAt → List KeyAt → List KeyAt
put_down e [] = e ∷ []
put_down e (x ∷ xs) = if is_lt (cmp e.0 x.0) then x ∷ put_down e xs else e ∷ (x ∷ xs)

-- sorted entries in downward order: the greatest key first, of equal keys the lowest document number first
abbrev pub downward : List KeyAt → List KeyAt
downward [] = []
downward (e ∷ es) = put_down e (downward es)
