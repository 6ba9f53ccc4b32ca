-- The dump of an index in memory: where the keys of its entries are in the bytes of the dump.
use Rattle.std.proofs.Common.{sym, ◌∙◌}
use Rattle.std.proofs.Props.{props}
use Rattle.std.specs.Prelude.{◌≡◌, ℕ, List, [], ◌∷◌, Bool}
use Rattle.std.specs.{Coded.Coded-set, Coded.coded_ℕ, List.All, List.AllZip}
use mathlib.Core.HLevel.{is_prop→PathP}
use Rattle.bd_bson_view.specs.{Sound.IsAt, Sound.IsAt-prop, Sound.one_is_at}
use Rattle.bd_bson_dump.specs.{Collection.bytes_of, Collection.documents, declared.collection.Dump.Dump}
use Rattle.bd_path.specs.{PathNames.names_of, Reach.Names, declared.path.Path.Path}
use Rattle.bd_index.specs.Entries.{AreEntries, KeyAt, is_multikey}
use Rattle.bd_index.specs.{declared.entry.Entry.Entry, declared.index.Index.Index}

-- the path that an index was built on
abbrev pub index_path : Index → Path
index_path index = index.path

-- the names of the path that an index was built on
abbrev pub index_names : Index → Names
index_names index = names_of index.path

-- whether an index was built without entries for missing fields
abbrev pub index_is_sparse : Index → Bool
index_is_sparse index = index.sparse

-- what an index says of whether some document has two keys
abbrev pub index_is_multikey : Index → Bool
index_is_multikey index = index.multikey

-- The entry in memory is this one: its key is in the bytes at its offset,
-- and it has the same document number.
abbrev pub KeepsEntry : List ℕ → Entry → KeyAt → Type 0
KeepsEntry bytes stored e = IsAt bytes stored.key e.0 × (stored.place ≡ e.1)

-- The entries in memory are these, in the same order, each with its key in the bytes of the dump.
abbrev pub KeepsEntries : List ℕ → List Entry → List KeyAt → Type 0
KeepsEntries bytes stored es = AllZip (KeepsEntry bytes) stored es

-- The entries in memory are those of this dump's documents on the path, sparse or not.
pub record KeepsDump (sparse : Bool) (path : Names) (dump : Dump) (stored : List Entry) : Type 0 where
  pub entries : List KeyAt
  pub entries_are_at : KeepsEntries (bytes_of dump) stored entries
  pub are : AreEntries sparse path (documents dump) entries

-- The index in memory has the entries of this dump's documents, and its multikey flag is right.
pub record IsIndexOf (dump : Dump) (index : Index) : Type 0 where
  pub keeps : KeepsDump (index_is_sparse index) (index_names index) dump index.entries.items
  pub many : index_is_multikey index ≡ is_multikey (index_names index) (documents dump)

-- ---- there is at most one proof of it, so a ghost field may contain it

-- entries in memory represent at most one list of entries
pub same_entries : (bytes : List ℕ) (stored : List Entry) (es fs : List KeyAt) → KeepsEntries bytes stored es →
    KeepsEntries bytes stored fs → es ≡ fs
same_entries bytes [] [] [] p q = λ i. []
same_entries bytes [] [] (f ∷ fs) p q = absurd q
same_entries bytes [] (e ∷ es) fs p q = absurd p
same_entries bytes (k ∷ ks) [] fs p q = absurd p
same_entries bytes (k ∷ ks) (e ∷ es) [] p q = absurd q
same_entries bytes (k ∷ ks) (e ∷ es) (f ∷ fs) p q = let key = one_is_at bytes k.key e.0 f.0 p.0.0 q.0.0 in
    let place = sym p.0.1 ∙ q.0.1 in let others = same_entries bytes ks es fs p.1 q.1 in
    λ i. (key i, place i) ∷ others i

pub KeepsEntries-prop : (bytes : List ℕ) (stored : List Entry) (es : List KeyAt) → IsProp (KeepsEntries bytes stored es)
KeepsEntries-prop bytes [] [] p q = λ i. tt
KeepsEntries-prop bytes [] (e ∷ es) p q = absurd p
KeepsEntries-prop bytes (k ∷ ks) [] p q = absurd p
KeepsEntries-prop bytes (k ∷ ks) (e ∷ es) p q =
    λ i. (
      (IsAt-prop bytes k.key e.0 p.0.0 q.0.0 i, Coded-set coded_ℕ k.place e.1 p.0.1 q.0.1 i),
      KeepsEntries-prop bytes ks es p.1 q.1 i,
    )

pub KeepsDump-prop : (sparse : Bool) (path : Names) (dump : Dump) (stored : List Entry) →
    IsProp (KeepsDump sparse path dump stored)
KeepsDump-prop sparse path dump stored p q =
    let e : p.entries ≡ q.entries = same_entries (bytes_of dump) stored p.entries q.entries p.entries_are_at q.entries_are_at in
    λ i. record {
      entries = e i;
      entries_are_at = is_prop→PathP (λ k. KeepsEntries (bytes_of dump) stored (e k))
          (λ k. KeepsEntries-prop (bytes_of dump) stored (e k)) p.entries_are_at q.entries_are_at i;
      are = is_prop→PathP (λ k. AreEntries sparse path (documents dump) (e k)) (λ k. hlevel props) p.are q.are i;
    }

pub IsIndexOf-prop : (dump : Dump) (index : Index) → IsProp (IsIndexOf dump index)
IsIndexOf-prop dump index = hlevel (KeepsDump-prop, props)

-- Each of the indexes is an index of this dump.
abbrev pub AreIndexesOf : Dump → List Index → Type 0
AreIndexesOf dump indexes = All (IsIndexOf dump) indexes

pub AreIndexesOf-prop : (dump : Dump) (indexes : List Index) → IsProp (AreIndexesOf dump indexes)
AreIndexesOf-prop dump indexes = hlevel IsIndexOf-prop
