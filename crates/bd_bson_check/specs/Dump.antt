-- Documents one after the other with nothing between, as mongodump writes a collection.
use Rattle.std.specs.Prelude.{◌≡◌, ◌≤◌, ◌+◌, ◌||◌, ℕ, List, [], ◌∷◌, ◌++◌, length, take, drop, nat_lt, if◌then◌else◌}
use Rattle.std.specs.Prelude.{Option, Some, None, Result, Ok, Err}
use Rattle.std.specs.Int.{w32, from_le_bytes}
use Rattle.bd_value.specs.{Limits.longest_document, Limits.longest_input, Tree.Doc}
use Rattle.bd_bson_view.specs.{Spelling.IsDocument, Raw.document_pairs, declared.raw.RawDoc.RawDoc}
use Rattle.bd_bson_check.specs.{Fault.Fault, FirstFault.fault_under, declared.fault.FaultKind.FaultKind, declared.profile.Profile.Profile}

-- the length that a document states: its first four bytes as a number, least byte first; below 2^32
abbrev pub stated_length : List ℕ → ℕ
stated_length bytes = from_le_bytes w32 (take 4 bytes)

-- the length of the document at the start, None at the end of the bytes; or the fault:
-- fewer than four bytes, or a length that is below 5, above 16,793,600 or beyond the end
abbrev pub frame_length : List ℕ → Result (Option ℕ) FaultKind
frame_length [] = Ok None
frame_length (b ∷ bytes) = if nat_lt (length (b ∷ bytes)) 4 then Err FaultKind.ShortLength
    else (if nat_lt (stated_length (b ∷ bytes)) 5 || nat_lt longest_document (stated_length (b ∷ bytes))
    || nat_lt (length (b ∷ bytes)) (stated_length (b ∷ bytes)) then Err FaultKind.BadLength
    else Ok (Some (stated_length (b ∷ bytes))))

-- the fault, under a profile, of the document at the start, whose length was read or is at fault
abbrev pub framed_under : Profile → ℕ → List ℕ → Result (Option ℕ) FaultKind → Option Fault
framed_under profile base bytes (Ok None) = None
framed_under profile base bytes (Ok (Some n)) = fault_under profile base (take n bytes)
framed_under profile base bytes (Err kind) = Some (record { kind = kind; offset = base; path = [] })

-- the first fault, under a profile, of the document at the start of bytes, the first of which is at this offset of the
-- dump; None if it has none, and at the end of the bytes
abbrev pub frame_fault_under : Profile → ℕ → List ℕ → Option Fault
frame_fault_under profile base bytes = framed_under profile base bytes (frame_length bytes)

-- the fault of the document at the start, whose length was read or is at fault
abbrev pub framed_fault : ℕ → List ℕ → Result (Option ℕ) FaultKind → Option Fault
framed_fault base bytes frame = framed_under Profile.Named base bytes frame

-- the first fault of the document at the start of bytes, the first of which is at this offset of the dump;
-- None if it is well-formed, and at the end of the bytes
abbrev pub frame_fault : ℕ → List ℕ → Option Fault
frame_fault base bytes = frame_fault_under Profile.Named base bytes

-- The document at this offset, as a view, and the offset after it; None at the end of the bytes.
abbrev pub IsNext : List ℕ → ℕ → Option (RawDoc × ℕ) → Type 0
IsNext bytes at None = drop at bytes ≡ []
IsNext bytes at (Some p) = (prefix : List ℕ) × IsDocument (document_pairs p.0) prefix
    × (drop at bytes ≡ prefix ++ drop p.1 bytes) × (at + length prefix ≡ p.1) × (p.1 ≤ length bytes)

-- The bytes are these documents, one after the other with nothing between.
abbrev pub AreJoined : List Doc → List ℕ → Type 0
AreJoined [] bytes = bytes ≡ []
AreJoined (d ∷ ds) bytes =
    (prefix : List ℕ) × (rest : List ℕ) × IsDocument d prefix × AreJoined ds rest × (bytes ≡ prefix ++ rest)

-- The bytes are a dump of these documents: at most 4,294,967,295 bytes, with nothing between them.
abbrev pub IsDump : List Doc → List ℕ → Type 0
IsDump ds bytes = AreJoined ds bytes × (length bytes ≤ longest_input)

-- The bytes begin with these documents, and the document after them has this fault.
abbrev pub FailsAfter : List Doc → Fault → List ℕ → Type 0
FailsAfter ds f bytes = (prefix : List ℕ) × (rest : List ℕ) × AreJoined ds prefix × (bytes ≡ prefix ++ rest)
    × (frame_fault (length prefix) rest ≡ Some f)

-- The bytes are these documents, or, if there is a fault, they begin with these,
-- and the document after them has it.
abbrev pub IsDumpScan : List Doc → Option Fault → List ℕ → Type 0
IsDumpScan ds None bytes = AreJoined ds bytes
IsDumpScan ds (Some f) bytes = FailsAfter ds f bytes
