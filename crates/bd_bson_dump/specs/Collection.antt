-- The documents of a dump that was read, and why one was not.
use Rattle.std.specs.Prelude.{◌≡◌, ◌<◌, ◌≤◌, ◌⊎◌, ℕ, List, [], length, slice_get, slice_index_or}
use Rattle.std.specs.List.{filter_map}
use Rattle.bd_value.specs.{Limits.longest_input, Tree.Doc, Tree.Tree, Tree.doc, Tree.fields_of}
use Rattle.bd_bson_check.specs.{Dump.FailsAfter, Fault.fault_view, Fault.HasNoOffset, Fault.IsWantOfMemory}
use Rattle.bd_bson_check.specs.declared.fault.{Fault.Fault, FaultKind.FaultKind}
use Rattle.bd_bson_dump.specs.{Starts.documents_starting_at, declared.collection.Dump.Dump}

-- the documents of a dump in memory, in file order
unfoldable pub documents : Dump → List Doc
documents dump = documents_starting_at dump.bytes.items dump.starts.items dump.are_at

-- the bytes that a dump in memory was read from
abbrev pub bytes_of : Dump → List ℕ
bytes_of dump = dump.bytes.items

-- The fault in memory is that of the first document that has one, with its number;
-- those before it are well-formed.
pub record IsFirstFault (bytes : List ℕ) (e : Fault) : Type 0 where
  pub before : List Doc
  pub fails : FailsAfter before (fault_view e) bytes
  pub document : e.document ≡ length before

-- Why bytes were not read as a dump: there are too many, which is tried first, or memory ran out,
-- or a document has a fault, of which the first is reported.
abbrev pub IsUnread : List ℕ → Fault → Type 0
IsUnread bytes e = ((longest_input < length bytes) × HasNoOffset FaultKind.DumpTooLong e)
    ⊎ ((length bytes ≤ longest_input) × (IsWantOfMemory e ⊎ IsFirstFault bytes e))

-- the document with that number; the empty document if there is none
abbrev pub document_at : List Doc → ℕ → Tree
document_at ds place = doc (fields_of (slice_index_or ds place []))

-- the documents with these numbers, in this order; numbers that no document has are skipped
abbrev pub documents_at : List Doc → List ℕ → List Doc
documents_at ds = filter_map (slice_get ds)
