-- Which lines are packed, and as what.
use Rattle.std.specs.Prelude.{◌≡◌, ◌≤◌, ◌<◌, ℕ, List, length}
use Rattle.bd_value.specs.{Limits.longest_document, Tree.Doc}
use Rattle.bd_value.specs.{Tree.doc, Tree.fields_of}
use Rattle.bd_bson_write.specs.TreeBytes.{bytes_of}
use Rattle.bd_extjson.specs.{Read.ReadsAs}
use Rattle.bd_extjson_fault.specs.TextFault.{text_fault}
use Rattle.bd_extjson_pack.specs.declared.line.LineFault.{LineFault}
use Rattle.bd_extjson_pack.specs.declared.line.LineFault.TheVariants as faults

-- the BSON of a document, with array elements named by their indexes
abbrev pub plain : Doc → List ℕ
plain d = bytes_of (doc (fields_of d))

-- The line is Extended JSON of this document, whose BSON is at most 16,793,600 bytes.
abbrev pub IsPackable : List ℕ → Doc → Type 0
IsPackable line d = ReadsAs line d × (length (plain d) ≤ longest_document)

-- The line is no document, and this is the fault of its text; or the line is too long.
abbrev pub IsBad : List ℕ → LineFault → Type 0
IsBad line (faults.Unread f) = ((d : Doc) → ReadsAs line d → ⊥) × (f ≡ text_fault line)
IsBad line faults.TooLong = (d : Doc) × ReadsAs line d × (longest_document < length (plain d))
