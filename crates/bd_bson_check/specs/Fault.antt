-- A fault: which check failed first, at which byte, and the names from the top to the item.
use Rattle.std.specs.Prelude.{◌≡◌, ◌⊎◌, ℕ, List, [], ◌∷◌, map, Option, Some, None}
use Rattle.std.specs.Prelude.{string_bytes, codes}
use Rattle.bd_bson_check.specs.declared.fault.{Fault.Fault as FaultInMemory, FaultKind.FaultKind}

-- The first check of BSON that fails: its kind, its byte offset from the start of the dump, and the path of
-- names, array indexes and `$scope` from the top to the item; empty for a fault of the document itself.
pub record Fault : Type 0 where
  pub kind : FaultKind
  pub offset : ℕ
  pub path : List (List ℕ)

-- the same fault with a name put before its path, as the document around the item reports it
abbrev pub longer : List ℕ → Fault → Fault
longer name f = record { kind = f.kind; offset = f.offset; path = name ∷ f.path }

-- the fault that one in memory reports, without the number of its document
abbrev pub fault_view : FaultInMemory → Fault
fault_view e = record { kind = e.kind; offset = e.offset; path = map string_bytes e.path.items }

-- The fault in memory is this one, of the document with that number.
pub record IsFault (number : ℕ) (f : Fault) (e : FaultInMemory) : Type 0 where
  pub same : f ≡ fault_view e
  pub document : e.document ≡ number

-- The fault in memory has this kind, and document 0, offset 0 and the empty path.
pub record HasNoOffset (fault : FaultKind) (e : FaultInMemory) : Type 0 where
  pub kind : e.kind ≡ fault
  pub document : e.document ≡ 0
  pub offset : e.offset ≡ 0
  pub path : e.path.items ≡ []

-- The fault in memory says that memory ran out.
abbrev pub IsWantOfMemory : FaultInMemory → Type 0
IsWantOfMemory e = HasNoOffset FaultKind.NoMemory e

-- The path has a name: the fault is of an item inside the document.
abbrev pub HasNames : List (List ℕ) → Type 0
HasNames [] = ⊥
HasNames (name ∷ names) = Unit {0}

-- The fault in memory is the one that there is, or says that memory ran out for its path.
abbrev pub ReportsFault : ℕ → Option Fault → FaultInMemory → Type 0
ReportsFault number None e = ⊥
ReportsFault number (Some f) e = (HasNames f.path × IsWantOfMemory e) ⊎ IsFault number f e

-- the message of a kind of fault
unfoldable pub fault_words : FaultKind → List ℕ
fault_words FaultKind.ShortLength = codes "length cut short"
fault_words FaultKind.BadLength = codes "bad length"
fault_words FaultKind.NoTerminator = codes "no terminator"
fault_words FaultKind.UnknownType = codes "unknown type"
fault_words FaultKind.Double = codes "double"
fault_words FaultKind.Decimal128 = codes "decimal128"
fault_words FaultKind.NameUnended = codes "name not ended"
fault_words FaultKind.BadUtf8 = codes "not UTF-8"
fault_words FaultKind.BadStringLength = codes "bad string length"
fault_words FaultKind.StringUnended = codes "string not ended"
fault_words FaultKind.BadBoolean = codes "bad boolean"
fault_words FaultKind.BadBinaryLength = codes "bad binary length"
fault_words FaultKind.BadScopeLength = codes "bad scope length"
fault_words FaultKind.TooDeep = codes "too deep"
fault_words FaultKind.ValueShort = codes "value cut short"
fault_words FaultKind.DumpTooLong = codes "dump too long"
fault_words FaultKind.NoMemory = codes "no memory"
