-- Dumps of documents of all types, by value: what they are, their copies and their numbers.
use Rattle.std.specs.Prelude.{◌≡◌, ◌≤◌, ◌<◌, ◌⊎◌, ℕ, ℤ, List, [], ◌∷◌, ◌++◌, length, map, slice_get, slice_index, take, true, Some}
use Rattle.bd_value.specs.{Limits.longest_input, Tree.Doc, Tree.Scalar}
use Rattle.bd_bson_view.specs.Spelling.{Grammar, IsDocumentBy, valued}
use Rattle.bd_bson_view.specs.declared.raw_parts.ElementType.{ElementType}
use Rattle.bd_bson_check.specs.{Dump.IsDump, Dump.frame_fault_under, Fault.HasNoOffset, Fault.IsWantOfMemory, Fault.fault_view}
use Rattle.bd_bson_check.specs.declared.fault.{Fault.Fault, FaultKind.FaultKind}
use Rattle.bd_bson_check.specs.declared.profile.Profile.TheVariants.{All}
use Rattle.bd_wide_copy.specs.{Classes.classed, Copy.coded_document, Copy.number_coded, Numbers.document_numbers}
use Rattle.bd_wide_rank.specs.{Rank.HaveSame, Worth.worth}
use Rattle.bd_wide_copy.specs.Starts.{have_no_fault, starts_of}
use Rattle.bd_wide_copy.specs.declared.dump.WideDump.{WideDump}
use Rattle.bd_wide_copy.specs.declared.longs.Longs.{Longs}
use Rattle.bd_wide_copy.specs.declared.starts.Starts.{Starts}

-- The bytes are these documents by the grammar, one after the other with nothing between.
-- By that of the nineteen kinds it is `AreJoined`.
abbrev pub AreJoinedBy : Grammar → List Doc → List ℕ → Type 0
AreJoinedBy g [] bytes = bytes ≡ []
AreJoinedBy g (d ∷ ds) bytes = (prefix : List ℕ) × (rest : List ℕ) × IsDocumentBy g d prefix × AreJoinedBy g ds rest
    × (bytes ≡ prefix ++ rest)

-- Whatever a number is worth: the bytes are some documents of all types, one after the other with nothing between.
abbrev pub AreDocuments : List ℕ → Type 0
AreDocuments bytes = (worth : ElementType → List ℕ → ℤ) → (ds : List Doc) × AreJoinedBy (valued worth) ds bytes

-- Of whatever documents the bytes are by value: this is how many they are.
abbrev pub IsCount : List ℕ → ℕ → Type 0
IsCount bytes n = (worth : ElementType → List ℕ → ℤ) (ds : List Doc) → AreJoinedBy (valued worth) ds bytes → n ≡ length ds

-- Of whatever documents the bytes are by value: these are the bytes of the document with that number, after those before it.
abbrev pub IsDocumentAt : List ℕ → ℕ → List ℕ → Type 0
IsDocumentAt bytes n document = (worth : ElementType → List ℕ → ℤ) (ds : List Doc) → AreJoinedBy (valued worth) ds bytes
    → (d : Doc) × (slice_get ds n ≡ Some d) × IsDocumentBy (valued worth) d document
    × (before : List ℕ) × (after : List ℕ) × AreJoinedBy (valued worth) (take n ds) before × (bytes ≡ before ++ (document ++ after))

-- the documents, each with another scalar in place of each scalar
abbrev pub coded_documents : (Scalar → Scalar) → List Doc → List Doc
coded_documents f ds = map (coded_document f) ds

-- Of whatever documents the bytes are by value and class: this is the dump of the documents with codes, in the same order, and it is
-- no longer.
abbrev pub IsCopyOfDump : Longs → (ElementType → List ℕ → ℤ) → (ℤ → ℤ) → List ℕ → List ℕ → Type 0
IsCopyOfDump longs worth code bytes new = (ds : List Doc) → AreJoinedBy (classed longs worth) ds bytes
    → IsDump (coded_documents (number_coded code) ds) new × (length new ≤ length bytes)

-- Of whatever documents the bytes are by value: these are the numbers in them, perhaps not as often, and no others.
abbrev pub AreNumbersOfAll : List ℕ → List ℤ → Type 0
AreNumbersOfAll bytes numbers = (ds : List Doc) → AreJoinedBy (valued worth) ds bytes → HaveSame numbers (document_numbers ds)

-- The fault in memory is that of the first document that has one under all types, with its number; before it are documents without.
pub record IsFirstFault (bytes : List ℕ) (e : Fault) : Type 0 where
  pub before : List ℕ
  pub rest : List ℕ
  pub splits : bytes ≡ before ++ rest
  pub documents : AreDocuments before
  pub counted : IsCount before e.document
  pub fails : frame_fault_under All (length before) rest ≡ Some (fault_view e)

-- Why bytes were not read as a dump: there are too many, which is tried first, or memory ran out, or a document has a fault, of
-- which the first is reported.
abbrev pub IsUnread : List ℕ → Fault → Type 0
IsUnread bytes e = ((longest_input < length bytes) × HasNoOffset FaultKind.DumpTooLong e)
    ⊎ ((length bytes ≤ longest_input) × (IsWantOfMemory e ⊎ IsFirstFault bytes e))

-- the bytes that a dump in memory was read from
abbrev pub bytes_of : WideDump → List ℕ
bytes_of dump = dump.bytes.items

-- The documents of these bytes, which have no fault, begin there.
pub record AreStartsOf (starts : Starts) (bytes : List ℕ) : Type 0 where
  pub fit : (i : ℕ) → slice_index bytes i < 256
  pub begin : starts.starts.items ≡ starts_of bytes
  pub sound : have_no_fault All bytes starts.starts.items ≡ true
