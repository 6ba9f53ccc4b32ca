-- Why a text is not a document, as a message, and where.
use Rattle.std.specs.Prelude.{◌≡◌, ◌≤◌, ℕ, List, codes}
use Rattle.std.specs.{Str.IsUtf8, Str.Lossy.utf8_valid_len}
use Rattle.bd_extjson_fault.specs.{declared.json_fault.JsonFault.JsonFault, declared.json_fault.JsonFaultKind.JsonFaultKind}
use Rattle.bd_extjson_fault.specs.declared.json_fault.JsonFaultKind.TheVariants as kinds

-- the number of a fault in a reply
abbrev pub json_fault_number : JsonFaultKind → ℕ
json_fault_number kinds.Syntax = 1
json_fault_number kinds.NotADocument = 2
json_fault_number kinds.TooDeep = 3
json_fault_number kinds.BadWrapper = 4
json_fault_number kinds.NotInProfile = 5
json_fault_number kinds.NumberRange = 6
json_fault_number kinds.NulInName = 7
json_fault_number kinds.TrailingText = 8
json_fault_number kinds.NoMemory = 9

-- the message of a fault
unfoldable pub json_fault_words : JsonFaultKind → List ℕ
json_fault_words kinds.Syntax = codes "not JSON"
json_fault_words kinds.NotADocument = codes "not a document"
json_fault_words kinds.TooDeep = codes "too deep"
json_fault_words kinds.BadWrapper = codes "bad wrapper"
json_fault_words kinds.NotInProfile = codes "not in the profile"
json_fault_words kinds.NumberRange = codes "number out of range"
json_fault_words kinds.NulInName = codes "zero in a name"
json_fault_words kinds.TrailingText = codes "text after the document"
json_fault_words kinds.NoMemory = codes "no memory"

-- the offset of a fault is in its text of n bytes, or at the text's end; a fault without an offset has 0
pub record IsLocated (size : ℕ) (fault : JsonFault) : Type 0 where
  pub inside : fault.at ≤ size
  pub whole : fault.kind ≡ kinds.NotADocument → fault.at ≡ 0
  pub memory : fault.kind ≡ kinds.NoMemory → fault.at ≡ 0

-- a text that is not UTF-8 is reported as not JSON, at its first byte that is not UTF-8
pub record ReportsBadUtf8 (text : List ℕ) (fault : JsonFault) : Type 0 where
  pub kind : ¬ (IsUtf8 text) → fault.kind ≡ kinds.Syntax
  pub at : ¬ (IsUtf8 text) → fault.at ≡ utf8_valid_len text
