-- A text of Extended JSON with other values, of the same length, for its doubles and decimal128, and with each date and each UUID
-- that is a text in canonical form.
use Rattle.std.specs.Prelude.{◌≡◌, ◌≢◌, ◌⊎◌, ℕ, ◌+◌, ◌-◌, ◌==◌, ◌||◌, not, nat_eq, nat_lt, ℤ, Bool, true, false, if◌then◌else◌, List, [], ◌∷◌, ◌++◌, length, codes, replicate, take, drop}
use Rattle.std.specs.Prelude.{Option, Some, None, option_map, option_and_then, Result, Ok, Err}
use Rattle.std.specs.{Char.is_ascii_digit, Cmp.Lexicographic.pointwise, List.list_any, Option.option_map_or}
use Rattle.uuid.specs.Text.{parsed_hyphenated}
use Rattle.bd_value.specs.Tree.{binary, date}
use Rattle.bd_extjson_text.specs.Text.{scalar_text}
use Rattle.bd_wide_number.specs.declared.number.Number.{Number}
use Rattle.bd_wide_number.specs.declared.number.Number.TheVariants.{Double, Decimal128}
use Rattle.bd_wide_read.specs.DateText.{date_of}
use Rattle.bd_wide_read.specs.DecimalText.{IsRead, numeric_of}
use Rattle.bd_wide_read.specs.DoubleText.{double_bits, number_bits}
use Rattle.bd_wide_read.specs.declared.fault.TextFault.{TextFault}
use Rattle.bd_wide_read.specs.declared.fault.TextFault.TheVariants.{BadText}
use Rattle.bd_wide_substitute.specs.declared.wrapped.ValueType.{ValueType}
use Rattle.bd_wide_substitute.specs.declared.wrapped.ValueType.TheVariants as types
use Rattle.bd_wide_substitute.specs.declared.wrapped.WideValue.{WideValue}
use Rattle.bd_wide_substitute.specs.declared.wrapped.WideValue.TheVariants as values

-- ---- the parts of a text (RFC 8259)

-- white space
abbrev pub is_blank : ℕ → Bool
is_blank c = c == 32 || c == 9 || c == 10 || c == 13

-- the bytes of numbers
abbrev pub is_of_number : ℕ → Bool
is_of_number c = is_ascii_digit c || (c == 43 || c == 45 || c == 46 || c == 69 || c == 101)

-- what follows the bytes at the start that pass a test
abbrev pub after : (ℕ → Bool) → List ℕ → List ℕ
after test [] = []
after test (c ∷ cs) = if test c then after test cs else c ∷ cs

abbrev mutual
  -- what follows a string, after its first quote: after the next quote without a backslash before it
  pub after_string : List ℕ → List ℕ
  after_string [] = []
  after_string (c ∷ cs) = if c == 34 then cs else (if c == 92 then after_escaped cs else after_string cs)

  -- the same after a backslash
  pub after_escaped : List ℕ → List ℕ
  after_escaped [] = []
  after_escaped (c ∷ cs) = after_string cs

-- ---- values

-- what follows a word; None if it does not come first
abbrev pub strip : List ℕ → List ℕ → Option (List ℕ)
strip word bytes = if pointwise nat_eq (take (length word) bytes) word then Some (drop (length word) bytes) else None

-- what follows white space and a word; None if they do not come first
abbrev pub after_word : List ℕ → List ℕ → Option (List ℕ)
after_word word bytes = strip word (after is_blank bytes)

-- whether a byte is no quote
abbrev pub is_no_quote : ℕ → Bool
is_no_quote c = not (c == 34)

-- the bytes before this rest of them, which begins with a quote, and what follows the quote; None without a quote
abbrev pub quoted_before : List ℕ → List ℕ → Option (List ℕ × List ℕ)
quoted_before bytes [] = None
quoted_before bytes (quote ∷ rest) = Some (take (length bytes - length (quote ∷ rest)) bytes, rest)

-- the contents of a string up to the next quote, and what follows the quote
abbrev pub quoted : List ℕ → Option (List ℕ × List ℕ)
quoted inside = quoted_before inside (after is_no_quote inside)

-- the contents of a string, and what follows the brace that comes after it
abbrev pub before_brace : List ℕ × List ℕ → Option (List ℕ × List ℕ)
before_brace p = option_map (λ rest. (p.0, rest)) (after_word (codes "}") p.1)

-- the contents of the only string of an object, after its name, and what follows the object
abbrev pub last_string : List ℕ → Option (List ℕ × List ℕ)
last_string bytes =
    option_and_then before_brace
    (option_and_then quoted (option_and_then (after_word (codes "\"")) (after_word (codes ":") bytes)))

-- the wrapper of a value: its type, and what its string is, if it has only that
abbrev pub Wrapper : Type 0
Wrapper = ValueType × Option (List ℕ × List ℕ)

-- the wrapper of this type after its brace, if this name comes first, spelled so; else another
abbrev pub named : ValueType → List ℕ → List ℕ → Option Wrapper → Option Wrapper
named type name inside other = option_map_or (λ end. Some (type, last_string end)) (after_word name inside) other

-- the wrapper of a value after its brace
abbrev pub wrapper_inside : List ℕ → Option Wrapper
wrapper_inside inside =
    named types.Double (codes "\"$numberDouble\"") inside
    (named types.Decimal128 (codes "\"$numberDecimal\"") inside
    (named types.Date (codes "\"$date\"") inside
    (named types.Uuid (codes "\"$uuid\"") inside None)))

-- the wrapper of a value that bytes begin with
abbrev pub wrapper_at : List ℕ → Option Wrapper
wrapper_at [] = None
wrapper_at (c ∷ inside) = if c == 123 then wrapper_inside inside else None

-- the double of these bits, or the fault
abbrev pub double_meaning : Result ℕ TextFault → Result WideValue TextFault
double_meaning (Ok bits) = Ok (values.Number (Double bits))
double_meaning (Err fault) = Err fault

-- the date of a text that is one
abbrev pub date_meaning : Option ℤ → Result WideValue TextFault
date_meaning (Some z) = Ok (values.Date z)
date_meaning None = Err BadText

-- the UUID of a text that is one
abbrev pub uuid_meaning : Option (List ℕ) → Result WideValue TextFault
uuid_meaning (Some bytes) = Ok (values.Uuid bytes)
uuid_meaning None = Err BadText

-- The contents of the string of a wrapper are read as this value, or have this fault.
abbrev pub IsMeant : ValueType → List ℕ → Result WideValue TextFault → Type 0
IsMeant types.Double contents meaning = meaning ≡ double_meaning (double_bits contents)
IsMeant types.Date contents meaning = meaning ≡ date_meaning (date_of contents)
IsMeant types.Uuid contents meaning = meaning ≡ uuid_meaning (parsed_hyphenated contents)
IsMeant types.Decimal128 contents (Ok (values.Number (Decimal128 low high))) = IsRead (numeric_of contents) (Ok (low, high))
IsMeant types.Decimal128 contents (Err fault) = IsRead (numeric_of contents) (Err fault)
IsMeant types.Decimal128 contents meaning = ⊥

-- The bytes begin with the wrapper of this value, and this follows.
abbrev pub BeginsValue : List ℕ → WideValue → List ℕ → Type 0
BeginsValue bytes v rest = (type : ValueType) × (contents : List ℕ)
    × (wrapper_at bytes ≡ Some (type, Some (contents, rest))) × IsMeant type contents (Ok v)

-- The bytes are a double without a wrapper: a number with a fraction or an exponent.
abbrev pub IsDouble : ℕ → List ℕ → Type 0
IsDouble bits bytes = (list_any (λ c. c == 46 || c == 69 || c == 101) bytes ≡ true) × (number_bits bytes ≡ Ok bits)

-- The bytes are this value without a wrapper: a double.
abbrev pub IsBare : WideValue → List ℕ → Type 0
IsBare v bytes = (bits : ℕ) × (v ≡ values.Number (Double bits)) × IsDouble bits bytes

-- ---- a text in pieces

-- a piece of a text: bytes that stay, or those of a value
pub data Piece : Type 0 where
  same : List ℕ → Piece
  value : List ℕ → WideValue → Piece

-- the bytes of a piece
abbrev pub original : Piece → List ℕ
original (same bytes) = bytes
original (value bytes v) = bytes

-- The bytes are a string up to what follows it.
abbrev pub IsString : List ℕ → List ℕ → Type 0
IsString bytes rest = (inside : List ℕ) × (bytes ≡ 34 ∷ inside) × (after_string (inside ++ rest) ≡ rest)

-- The bytes are of numbers, and none of the rest belongs to them.
abbrev pub IsRun : List ℕ → List ℕ → Type 0
IsRun bytes rest = (after is_of_number bytes ≡ []) × (after is_of_number rest ≡ rest)

-- The bytes are no double.
abbrev pub IsNoDouble : List ℕ → Type 0
IsNoDouble bytes = (bits : ℕ) → IsDouble bits bytes → ⊥

-- One byte that is neither a quote nor of a number, and with which no wrapper of a value begins.
abbrev pub IsOther : List ℕ → List ℕ → Type 0
IsOther bytes rest = (c : ℕ) × (bytes ≡ c ∷ []) × (c ≢ 34) × (is_of_number c ≡ false)
    × ((v : WideValue) (more : List ℕ) → BeginsValue (c ∷ rest) v more → ⊥)

-- The piece is before the rest of a text: strings and runs of bytes of numbers are whole, and each value is a piece.
abbrev pub IsBefore : Piece → List ℕ → Type 0
IsBefore (same bytes) rest = IsString bytes rest ⊎ ((IsRun bytes rest × IsNoDouble bytes) ⊎ IsOther bytes rest)
IsBefore (value bytes v) rest = BeginsValue (bytes ++ rest) v rest ⊎ (IsBare v bytes × IsRun bytes rest)

-- The text is these pieces.
abbrev pub ArePieces : List ℕ → List Piece → Type 0
ArePieces text [] = text ≡ []
ArePieces text (p ∷ ps) = (rest : List ℕ) × (text ≡ original p ++ rest) × IsBefore p rest × ArePieces rest ps

-- ---- what a value becomes

-- in one text each number is a whole number, in the other a string
pub data Filler : Type 0 where
  whole : Filler
  text : Filler

-- a value of n bytes: `0`, or `""`, and blanks
abbrev pub filler_of : Filler → ℕ → List ℕ
filler_of whole n = 48 ∷ replicate (n - 1) 32
filler_of text n = 34 ∷ 34 ∷ replicate (n - 2) 32

-- what a value of n bytes becomes: a date and a UUID their text in canonical form
abbrev pub value_text : Filler → ℕ → WideValue → List ℕ
value_text s n (values.Number x) = filler_of s n
value_text s n (values.Date z) = scalar_text (date z)
value_text s n (values.Uuid bytes) = scalar_text (binary 4 bytes)

-- what a piece becomes
abbrev pub filled : Filler → Piece → List ℕ
filled s (same bytes) = bytes
filled s (value bytes v) = value_text s (length bytes) v

-- the value of a piece
abbrev pub values_in : Piece → List WideValue
values_in (same bytes) = []
values_in (value bytes v) = v ∷ []

-- the number that a value is
abbrev pub number_of : WideValue → List Number
number_of (values.Number n) = n ∷ []
number_of v = []

-- the number of a piece
abbrev pub numbers_in : Piece → List Number
numbers_in (same bytes) = []
numbers_in (value bytes v) = number_of v

-- the pieces with other values for the numbers, and the dates and UUIDs in canonical form
abbrev pub with_fillers : Filler → List Piece → List ℕ
with_fillers s [] = []
with_fillers s (p ∷ ps) = filled s p ++ with_fillers s ps

-- the values of all pieces
abbrev pub all_values : List Piece → List WideValue
all_values [] = []
all_values (p ∷ ps) = values_in p ++ all_values ps

-- the numbers of all pieces
abbrev pub all_numbers : List Piece → List Number
all_numbers [] = []
all_numbers (p ∷ ps) = numbers_in p ++ all_numbers ps

-- ---- the bytes of the text and of what it becomes

-- the byte of a value for a byte of what it becomes: a date and a UUID are as a whole at their first
abbrev pub byte_in : WideValue → ℕ → ℕ
byte_in (values.Number n) at = at
byte_in v at = 0

-- the same for a piece
abbrev pub byte_within : Piece → ℕ → ℕ
byte_within (same bytes) at = at
byte_within (value bytes v) at = byte_in v at

-- the byte of the text for a byte of what its pieces become; after the last, the end of the text
abbrev pub origin : List Piece → ℕ → ℕ
origin [] at = 0
origin (p ∷ ps) at = if nat_lt at (length (filled whole p)) then byte_within p at
    else length (original p) + origin ps (at - length (filled whole p))
