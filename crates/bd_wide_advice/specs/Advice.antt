-- What `bsonwide` says to write where a text is not Extended JSON: the form of a value that mongosh writes otherwise, or that a wrapper
-- has with other contents.
use Rattle.std.specs.Prelude.{ℕ, ◌==◌, ◌&&◌, ◌||◌, nat_eq, nat_lt, Bool, false, if◌then◌else◌, List, [], ◌∷◌, codes, drop}
use Rattle.std.specs.Prelude.{Option, Some, None}
use Rattle.std.specs.{Char.is_ascii_alphanumeric, List.starts_with, Option.option_or}
use Rattle.bd_extjson_fault.specs.declared.json_fault.JsonFaultKind.{JsonFaultKind}
use Rattle.bd_extjson_fault.specs.declared.json_fault.JsonFaultKind.TheVariants as kinds
use Rattle.bd_extjson_fault.specs.JsonSyntax.{beyond_all, beyond_white}

-- what a value begins with as mongosh writes it, at which a text stops being JSON; and its form in Extended JSON v2
abbrev pub shell_words : List (List ℕ × List ℕ)
shell_words =
    (codes "ObjectId(", codes "write {\"$oid\":\"..\"}")
    ∷ (codes "ISODate(", codes "write {\"$date\":\"2026-10-01T00:00:00Z\"}")
    ∷ (codes "Date(", codes "write {\"$date\":\"2026-10-01T00:00:00Z\"}")
    ∷ (codes "UUID(", codes "write {\"$uuid\":\"..\"}")
    ∷ (codes "NumberInt(", codes "write {\"$numberInt\":\"..\"}")
    ∷ (codes "Int32(", codes "write {\"$numberInt\":\"..\"}")
    ∷ (codes "NumberLong(", codes "write {\"$numberLong\":\"..\"}")
    ∷ (codes "Long(", codes "write {\"$numberLong\":\"..\"}")
    ∷ (codes "NumberDecimal(", codes "write {\"$numberDecimal\":\"..\"}")
    ∷ (codes "Decimal128(", codes "write {\"$numberDecimal\":\"..\"}")
    ∷ (codes "Double(", codes "write {\"$numberDouble\":\"..\"}")
    ∷ (codes "NaN", codes "write {\"$numberDouble\":\"NaN\"}")
    ∷ (codes "Infinity", codes "write {\"$numberDouble\":\"Infinity\"}")
    ∷ (codes "Timestamp(", codes "write {\"$timestamp\":{\"t\":..,\"i\":..}}")
    ∷ (codes "BinData(", codes "write {\"$binary\":{\"base64\":\"..\",\"subType\":\"..\"}}")
    ∷ (codes "MinKey", codes "write {\"$minKey\":1}")
    ∷ (codes "MaxKey", codes "write {\"$maxKey\":1}")
    ∷ (codes "/", codes "regular expressions are not supported")
    ∷ (codes "'", codes "write names and strings in double quotation marks")
    ∷ []

-- the forms of Extended JSON v2 of the values of wrappers, by the name after the brace
abbrev pub wrapper_names : List (List ℕ × List ℕ)
wrapper_names =
    (codes "\"$oid\"", codes "write {\"$oid\":\"..\"} with 24 hexadecimal digits")
    ∷ (codes "\"$date\"", codes "write {\"$date\":\"2026-10-01T00:00:00Z\"}")
    ∷ (codes "\"$uuid\"", codes "write {\"$uuid\":\"00112233-4455-6677-8899-aabbccddeeff\"}")
    ∷ (codes "\"$numberInt\"", codes "write {\"$numberInt\":\"..\"}")
    ∷ (codes "\"$numberLong\"", codes "write {\"$numberLong\":\"..\"}")
    ∷ (codes "\"$numberDecimal\"", codes "write {\"$numberDecimal\":\"..\"}")
    ∷ (codes "\"$numberDouble\"", codes "write {\"$numberDouble\":\"..\"}")
    ∷ (codes "\"$timestamp\"", codes "write {\"$timestamp\":{\"t\":..,\"i\":..}}")
    ∷ (codes "\"$binary\"", codes "write {\"$binary\":{\"base64\":\"..\",\"subType\":\"..\"}}")
    ∷ []

-- what a table has for the first of its words that bytes begin with
abbrev pub advice_in : List (List ℕ × List ℕ) → List ℕ → Option (List ℕ)
advice_in [] bytes = None
advice_in (row ∷ rows) bytes = if starts_with nat_eq bytes row.0 then Some row.1 else advice_in rows bytes

-- the form in place of a word of mongosh
unfoldable pub shell_advice : List ℕ → Option (List ℕ)
shell_advice bytes = advice_in shell_words bytes

-- the form in place of a wrapper, after its brace
unfoldable pub form_advice : List ℕ → Option (List ℕ)
form_advice inside = advice_in wrapper_names inside

-- what follows `new`, whose first byte could begin `null`; else the bytes
abbrev pub after_new : List ℕ → List ℕ
after_new bytes = if starts_with nat_eq bytes (codes "ew ") then drop 3 bytes else bytes

-- whether a byte can be part of a name without quotation marks
abbrev pub is_of_name : ℕ → Bool
is_of_name c = is_ascii_alphanumeric c || (c == 36 || c == 46 || c == 95 || nat_lt 127 c)

-- whether the next byte is a colon
abbrev pub begins_colon : List ℕ → Bool
begins_colon [] = false
begins_colon (c ∷ cs) = c == 58

-- whether bytes begin with a name without quotation marks, and a colon
abbrev pub begins_name : List ℕ → Bool
begins_name [] = false
begins_name (c ∷ cs) = is_of_name c && begins_colon (beyond_white (beyond_all is_of_name cs))

-- what to write in place of a name without quotation marks
unfoldable pub name_advice : List ℕ → Option (List ℕ)
name_advice bytes = if begins_name bytes then Some (codes "write names in double quotation marks") else None

-- what to write in place of the bytes at which a text stops being JSON
abbrev pub word_advice : List ℕ → Option (List ℕ)
word_advice bytes = option_or (shell_advice (after_new bytes)) (name_advice bytes)

-- what to write in place of a wrapper
abbrev pub wrapper_advice : List ℕ → Option (List ℕ)
wrapper_advice [] = None
wrapper_advice (c ∷ inside) = if c == 123 then form_advice (beyond_white inside) else None

-- what to write where a text has a fault of this kind, by its bytes from there on
abbrev pub advice_of : JsonFaultKind → List ℕ → Option (List ℕ)
advice_of kinds.Syntax bytes = word_advice bytes
advice_of kinds.BadWrapper bytes = wrapper_advice bytes
advice_of _ bytes = None
