-- Which lines are packed as documents of all types, as which bytes, and why others are not.
use Rattle.std.specs.Prelude.{◌≡◌, ◌⊎◌, ◌≤◌, ◌<◌, ℕ, List, [], length}
use Rattle.bd_value.specs.{Limits.longest_document, Tree.Doc}
use Rattle.bd_value.specs.Tree.{doc, Fields, fields_of}
use Rattle.bd_extjson_fault.specs.declared.json_fault.JsonFault.{JsonFault}
use Rattle.bd_extjson_fault.specs.declared.json_fault.JsonFaultKind.TheVariants as kinds
use Rattle.bd_extjson_pack.specs.Packable.{plain}
use Rattle.bd_extjson_pack.specs.declared.line.LineFault.{LineFault}
use Rattle.bd_extjson_pack.specs.declared.line.LineFault.TheVariants as faults
use Rattle.bd_wide_number.specs.declared.number.Number.{Number}
use Rattle.bd_wide_pack.specs.Filled.{AreFilled}
use Rattle.bd_wide_pack.specs.Written.{IsWritten}
use Rattle.bd_wide_substitute.specs.Both.{IsRead, IsUnread}

-- The bytes are written for a document with these numbers, where the two documents have other values.
pub record IsMixed (wholes texts : Doc) (numbers : List Number) (bytes : List ℕ) : Type 0 where
  pub fields : Fields
  pub filled : AreFilled fields (fields_of wholes) (fields_of texts) numbers []
  pub written : IsWritten (doc fields) bytes

-- The line is Extended JSON of a document of all types, and these are its bytes, at most 16,793,600.
pub record IsPacked (line bytes : List ℕ) : Type 0 where
  pub wholes : Doc
  pub texts : Doc
  pub numbers : List Number
  pub read : IsRead line wholes texts numbers
  pub mixed : IsMixed wholes texts numbers bytes
  pub short : length bytes ≤ longest_document

-- Both texts are documents, and no document has the numbers where they differ.
pub record IsUnlike (line : List ℕ) (fault : JsonFault) : Type 0 where
  pub wholes : Doc
  pub texts : Doc
  pub numbers : List Number
  pub read : IsRead line wholes texts numbers
  pub none : (fs : Fields) → AreFilled fs (fields_of wholes) (fields_of texts) numbers [] → ⊥
  pub is : fault ≡ record { kind = kinds.NotADocument; at = 0 }

-- The document of the line has more than 16,793,600 bytes, or one with another value for each number has.
pub record IsTooLong (line : List ℕ) : Type 0 where
  pub wholes : Doc
  pub texts : Doc
  pub numbers : List Number
  pub read : IsRead line wholes texts numbers
  pub long : (longest_document < length (plain wholes)) ⊎ ((longest_document < length (plain texts))
      ⊎ ((bytes : List ℕ) × IsMixed wholes texts numbers bytes × (longest_document < length bytes)))

-- The line is no document of all types, and this is what is wrong with it.
abbrev pub IsBad : List ℕ → LineFault → Type 0
IsBad line (faults.Unread fault) = IsUnread line fault ⊎ IsUnlike line fault
IsBad line faults.TooLong = IsTooLong line
