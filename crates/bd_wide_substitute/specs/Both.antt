-- The two documents of a text, one with whole numbers for its doubles and decimal128 and one with empty texts, or its fault.
use Rattle.std.specs.Prelude.{◌≡◌, ◌||◌, ◌&&◌, ◌==◌, not, nat_lt, ℕ, List, [], drop, Bool, true, false, if◌then◌else◌, Result, Ok, Err}
use Rattle.std.specs.Option.{ok_or}
use Rattle.bd_value.specs.Tree.{Doc}
use Rattle.bd_extjson.specs.Read.{reading}
use Rattle.bd_extjson_fault.specs.TextFault.{text_fault}
use Rattle.bd_extjson_fault.specs.declared.json_fault.JsonFault.{JsonFault}
use Rattle.bd_extjson_fault.specs.declared.json_fault.JsonFaultKind.{JsonFaultKind}
use Rattle.bd_extjson_fault.specs.declared.json_fault.JsonFaultKind.TheVariants as kinds
use Rattle.bd_wide_number.specs.declared.number.Number.{Number}
use Rattle.bd_wide_substitute.specs.Substitutes.{ArePieces, Piece, all_numbers, all_values, origin, text, whole, with_fillers}
use Rattle.bd_wide_substitute.specs.Reported.{IsReported}

-- whether a fault has no byte, since the text as a whole is no document
abbrev pub has_no_byte : JsonFaultKind → Bool
has_no_byte kinds.NotADocument = true
has_no_byte kind = false

-- whether an object is not the wrapper that its name says
abbrev pub is_bad_wrapper : JsonFaultKind → Bool
is_bad_wrapper kinds.BadWrapper = true
is_bad_wrapper kind = false

-- The earlier of two faults, by their bytes. At one byte a bad wrapper is first; a fault without a byte comes last.
abbrev pub earlier : JsonFault → JsonFault → JsonFault
earlier one other = if has_no_byte one.kind then other
    else (if has_no_byte other.kind || nat_lt one.at other.at then one
    else (if one.at == other.at && not (is_bad_wrapper other.kind) then one else other))

-- the document of a text, or its fault
abbrev pub document_of : List ℕ → Result Doc JsonFault
document_of source = ok_or (reading source) (text_fault source)

-- two documents, or the earlier fault of their texts
abbrev pub both : Result Doc JsonFault → Result Doc JsonFault → Result (Doc × Doc) JsonFault
both (Ok w) (Ok t) = Ok (w, t)
both (Err f) (Ok t) = Err f
both (Ok w) (Err g) = Err g
both (Err f) (Err g) = Err (earlier f g)

-- the documents of pieces, with whole numbers for the numbers and with empty texts
abbrev pub both_documents : List Piece → Result (Doc × Doc) JsonFault
both_documents pieces = both (document_of (with_fillers whole pieces)) (document_of (with_fillers text pieces))

-- The text has no doubles and no decimal128, and no dates and UUIDs as texts.
abbrev pub HasNoValues : List ℕ → Type 0
HasNoValues source = (pieces : List Piece) × ArePieces source pieces × (all_values pieces ≡ [])

-- The text in pieces, and the two documents that it is with other values for its numbers.
pub record IsRead (source : List ℕ) (wholes texts : Doc) (numbers : List Number) : Type 0 where
  pub pieces : List Piece
  pub are : ArePieces source pieces
  pub documents : both_documents pieces ≡ Ok (wholes, texts)
  pub all : numbers ≡ all_numbers pieces

-- With other values for its numbers the text is not a document both times, and this is reported, at the byte of the text.
pub record IsUnread (source : List ℕ) (fault : JsonFault) : Type 0 where
  pub pieces : List Piece
  pub are : ArePieces source pieces
  pub first : JsonFault
  pub documents : both_documents pieces ≡ Err first
  pub at : fault.at ≡ origin pieces first.at
  pub kind : IsReported (drop fault.at source) first.kind fault.kind
