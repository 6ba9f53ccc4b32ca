-- The first check that fails, from left to right,
-- in bytes that must be one document (BSON 1.1). No tree is built.
-- Each function checks one item at the start of its bytes, and gives the bytes after it, or the fault.
-- e is the offset that the item may not exceed, and the bytes end there:
-- the item is at offset `e - length bytes`.
use Rattle.std.specs.Prelude.{◌≢◌, ℕ, zero, suc, ◌+◌, ◌-◌, List, [], ◌∷◌, length, take, drop, Option, Some, None, option_map}
use Rattle.std.specs.Prelude.{Result, Ok, Err, Bool, true, false, nat_lt, ◌==◌, ◌||◌, ◌&&◌, not, if◌then◌else◌, decimal}
use Rattle.std.specs.Prelude.{codes, slice_index_or}
use Rattle.std.specs.{List.position, Option.ok_or, Option.option_map_or, Result.result_err, Str.is_utf8}
use Rattle.std.specs.{Str.Lossy.utf8_valid_len, Int.w32, Int.from_le_bytes}
use Rattle.bd_value.specs.{Limits.longest_document, Limits.most_levels, declared.node.Kind.Kind}
use Rattle.bd_bson_view.specs.{Spelling.type_at, Sizes.number_of, declared.raw_parts.{ElementType.ElementType, Holder.Holder}}
use Rattle.bd_bson_check.specs.{Fault.Fault, Fault.longer, declared.fault.FaultKind.FaultKind, declared.profile.Profile.Profile}
use Rattle.bd_bson_check.specs.declared.fault.FaultKind.TheVariants.{ShortLength, BadLength, NoTerminator, UnknownType}
use Rattle.bd_bson_check.specs.declared.fault.FaultKind.TheVariants.{Double, Decimal128, NameUnended, BadUtf8}
use Rattle.bd_bson_check.specs.declared.fault.FaultKind.TheVariants.{BadStringLength, StringUnended, BadBoolean}
use Rattle.bd_bson_check.specs.declared.fault.FaultKind.TheVariants.{BadBinaryLength, BadScopeLength, TooDeep, ValueShort}

-- the offset of the item that these bytes begin with; they end at e
abbrev pub offset_of : ℕ → List ℕ → ℕ
offset_of e bytes = e - length bytes

infixl 10 ◌>>=◌
-- what follows an item without a fault; after a fault nothing more is checked
abbrev pub ◌>>=◌ : {A B : Type 0} → Result A Fault → (A → Result B Fault) → Result B Fault
(Ok x) >>= f = f x
(Err e) >>= f = Err e

-- the fault of that kind at that byte offset, with the empty path: names are added on the way up
abbrev pub fault : {A : Type 0} → FaultKind → ℕ → Result A Fault
fault kind at = Err (record { kind = kind; offset = at; path = [] })

-- an `int32`, and the bytes after it; fewer than four bytes are the fault `short`
abbrev pub skip_number : FaultKind → ℕ → List ℕ → Result (ℕ × List ℕ) Fault
skip_number short e bytes = if nat_lt (length bytes) 4 then fault short (offset_of e bytes)
    else Ok (from_le_bytes w32 (take 4 bytes), drop 4 bytes)

-- the bytes after a zero byte; if another byte is there, or none, the fault has that kind
abbrev pub skip_zero : FaultKind → ℕ → List ℕ → Result (List ℕ) Fault
skip_zero kind e [] = fault kind (e - 0)
skip_zero kind e (zero ∷ rest) = Ok rest
skip_zero kind e (suc b ∷ rest) = fault kind (e - suc (length rest))

-- a text at that offset; if it is not UTF-8, the fault is at the first bad byte
abbrev pub text_at : ℕ → List ℕ → Result (List ℕ) Fault
text_at at bytes = if is_utf8 bytes then Ok bytes else fault BadUtf8 (at + utf8_valid_len bytes)

-- a `cstring`: its text, and the bytes after its zero. If there is no zero, the fault has that kind.
unfoldable pub skip_name : FaultKind → ℕ → List ℕ → Result (List ℕ × List ℕ) Fault
skip_name kind e bytes = do
  k ← ok_or (position (λ b. b == 0) bytes) (record { kind = kind; offset = offset_of e bytes; path = [] })
  name ← text_at (offset_of e bytes) (take k bytes)
  Ok (name, drop (k + 1) bytes)

-- the bytes after a value of n bytes; the fault is `value cut short`
abbrev pub skip_fixed : ℕ → ℕ → List ℕ → Result (List ℕ) Fault
skip_fixed n e bytes = if nat_lt (length bytes) n then fault ValueShort (offset_of e bytes) else Ok (drop n bytes)

-- the bytes after a boolean (element 0x08), which is 00 or 01
abbrev pub skip_boolean : ℕ → List ℕ → Result (List ℕ) Fault
skip_boolean e [] = fault ValueShort (e - 0)
skip_boolean e (b ∷ rest) = if nat_lt 1 b then fault BadBoolean (e - suc (length rest)) else Ok rest

-- the bytes after a `string`: its length, its text in UTF-8, a zero
unfoldable pub skip_string : ℕ → List ℕ → Result (List ℕ) Fault
skip_string e bytes = do
  n ← skip_number ValueShort e bytes
  if n.0 == 0 || nat_lt (length n.1) n.0 then fault BadStringLength (offset_of e bytes)
      else (skip_zero StringUnended e (drop (n.0 - 1) n.1)
      >>= λ rest. text_at (offset_of e n.1) (take (n.0 - 1) n.1) >>= λ text. Ok rest)

-- the bytes after a regular expression (element 0x0B): two `cstring`s
abbrev pub skip_regex : ℕ → List ℕ → Result (List ℕ) Fault
skip_regex e bytes = do
  pattern ← skip_name StringUnended e bytes
  options ← skip_name StringUnended e pattern.1
  Ok options.1

-- the bytes after the data of binary, of this subtype and count; in subtype 02 (binary,
-- old) the data begins with an int32 that counts the rest. `at` is the offset of the value.
abbrev pub skip_data : ℕ → ℕ → ℕ → List ℕ → Result (List ℕ) Fault
skip_data at subtype count bytes = if subtype == 2 && nat_lt count 4 then fault BadBinaryLength at
    else (if subtype == 2 && not (number_of bytes == count - 4) then fault BadBinaryLength (at + 5)
    else Ok (drop count bytes))

-- the bytes after binary (element 0x05): a count that is not negative and not beyond e, the subtype, the data
unfoldable pub skip_binary : ℕ → List ℕ → Result (List ℕ) Fault
skip_binary e bytes = if nat_lt (length bytes) 5 then fault ValueShort (offset_of e bytes)
    else (if nat_lt 2147483647 (number_of bytes) || nat_lt (length bytes) (5 + number_of bytes)
    then fault BadBinaryLength (offset_of e bytes)
    else skip_data (offset_of e bytes) (slice_index_or bytes 4 0) (number_of bytes) (drop 5 bytes))

-- The frame of a document: its length, its elements, a zero; at the top it must be all of the bytes.
-- The result: the bytes of the elements, the offset of their end, and the bytes after the document.
unfoldable pub skip_frame : Bool → ℕ → List ℕ → Result (List ℕ × ℕ × List ℕ) Fault
skip_frame top e bytes = do
  n ← skip_number (if top then ShortLength else ValueShort) e bytes
  if nat_lt n.0 5 || nat_lt longest_document n.0 || nat_lt (length bytes) n.0 || (top && not (n.0 == length bytes))
      then fault BadLength (offset_of e bytes)
      else (skip_zero NoTerminator e (drop (n.0 - 5) n.1)
      >>= λ rest. Ok (take (n.0 - 5) n.1, offset_of e (drop (n.0 - 5) n.1), rest))

-- the length of code with scope (element 0x0F):
-- the bytes of its code and scope, the offset of their end, and the bytes after it
unfoldable pub skip_code_frame : ℕ → List ℕ → Result (List ℕ × ℕ × List ℕ) Fault
skip_code_frame e bytes = do
  n ← skip_number ValueShort e bytes
  if nat_lt n.0 14 || nat_lt (length bytes) n.0 then fault BadScopeLength (offset_of e bytes)
      else Ok (take (n.0 - 4) n.1, offset_of e (drop (n.0 - 4) n.1), drop (n.0 - 4) n.1)

-- how a value that contains values is checked, by its kind, by the offset q of its element's type byte, by e, and by
-- its bytes
abbrev pub Nested : Type 0
Nested = Holder → ℕ → ℕ → List ℕ → Result (List ℕ) Fault

-- the bytes after a value of that kind; q is the offset of its element's type byte,
-- where a value too deep is reported
abbrev pub skip_value : Nested → Kind → ℕ → ℕ → List ℕ → Result (List ℕ) Fault
skip_value nested Kind.MinKey q e bytes = Ok bytes
skip_value nested Kind.Undefined q e bytes = Ok bytes
skip_value nested Kind.Null q e bytes = Ok bytes
skip_value nested Kind.MaxKey q e bytes = Ok bytes
skip_value nested Kind.Int32 q e bytes = skip_fixed 4 e bytes
skip_value nested Kind.Int64 q e bytes = skip_fixed 8 e bytes
skip_value nested Kind.Date q e bytes = skip_fixed 8 e bytes
skip_value nested Kind.Timestamp q e bytes = skip_fixed 8 e bytes
skip_value nested Kind.ObjectId q e bytes = skip_fixed 12 e bytes
skip_value nested Kind.Bool q e bytes = skip_boolean e bytes
skip_value nested Kind.Text q e bytes = skip_string e bytes
skip_value nested Kind.Symbol q e bytes = skip_string e bytes
skip_value nested Kind.Code q e bytes = skip_string e bytes
skip_value nested Kind.DbPointer q e bytes = skip_string e bytes >>= λ rest. skip_fixed 12 e rest
skip_value nested Kind.Binary q e bytes = skip_binary e bytes
skip_value nested Kind.Regex q e bytes = skip_regex e bytes
skip_value nested Kind.Doc q e bytes = nested Holder.Document q e bytes
skip_value nested Kind.Array q e bytes = nested Holder.Array q e bytes
skip_value nested Kind.CodeScope q e bytes = nested Holder.CodeScope q e bytes

-- a double or a decimal128, which takes n bytes: a profile reads it, or it is a fault of that kind at its type byte,
-- and its bytes are not read
abbrev pub skip_wide : Profile → FaultKind → ℕ → ℕ → ℕ → List ℕ → Result (List ℕ) Fault
skip_wide Profile.Named kind n q e bytes = fault kind q
skip_wide Profile.All kind n q e bytes = skip_fixed n e bytes

-- the bytes after a value of that type, under a profile
abbrev pub skip_typed : Profile → Nested → ElementType → ℕ → ℕ → List ℕ → Result (List ℕ) Fault
skip_typed profile nested ElementType.Double q e bytes = skip_wide profile Double 8 q e bytes
skip_typed profile nested ElementType.Decimal128 q e bytes = skip_wide profile Decimal128 16 q e bytes
skip_typed profile nested (ElementType.Kept kind) q e bytes = skip_value nested kind q e bytes

-- how the path of a fault names an element: in an array by its index, in a document by its name
abbrev pub label : Option ℕ → List ℕ → List ℕ
label index name = option_map_or decimal index name

-- the same result, with the name put before the path of a fault in it
abbrev pub within : {A : Type 0} → List ℕ → Result A Fault → Result A Fault
within name (Ok x) = Ok x
within name (Err f) = Err (longer name f)

-- the bytes after an element: its type byte, its name, its value
unfoldable pub skip_element : Profile → Nested → Option ℕ → ℕ → List ℕ → Result (List ℕ) Fault
skip_element profile nested index e [] = fault UnknownType e
skip_element profile nested index e (b ∷ bytes) = do
  type ← ok_or (type_at b) (record { kind = UnknownType; offset = e - suc (length bytes); path = [] })
  name ← skip_name NameUnended e bytes
  within (label index name.0) (skip_typed profile nested type (e - suc (length bytes)) e name.1)

-- All elements of a document or an array. The first number bounds the steps:
-- the count of the bytes is always enough.
unfoldable pub skip_elements : Profile → Nested → Option ℕ → ℕ → ℕ → List ℕ → Result (Unit {0}) Fault
skip_elements profile nested index zero e bytes = Ok tt
skip_elements profile nested index (suc n) e [] = Ok tt
skip_elements profile nested index (suc n) e (b ∷ bytes) = do
  rest ← skip_element profile nested index e (b ∷ bytes)
  skip_elements profile nested (option_map suc index) n e rest

-- the bytes after a document, or after an array, whose elements are counted from 0
abbrev pub skip_body : Profile → Nested → Bool → ℕ → List ℕ → Result (List ℕ) Fault
skip_body profile nested in_array e bytes = do
  f ← skip_frame false e bytes
  skip_elements profile nested (if in_array then Some 0 else None) (length f.0) f.1 f.0 >>= λ u. Ok f.2

-- the bytes after code with scope, whose scope must end where it ends
abbrev pub skip_code_scope : Nested → ℕ → ℕ → List ℕ → Result (List ℕ) Fault
skip_code_scope nested q e bytes = do
  f ← skip_code_frame e bytes
  scope ← skip_string f.1 f.0
  after ← within (codes "$scope") (nested Holder.Document q f.1 scope)
  if nat_lt 0 (length after) then fault BadScopeLength (offset_of e bytes) else Ok f.2

-- The bytes after a value that contains values, with `depth_left` levels remaining for it;
-- code with scope takes one and its scope another.
unfoldable pub skip_nested : Profile → ℕ → Nested
skip_nested profile zero holder q e bytes = fault TooDeep q
skip_nested profile (suc depth_left) Holder.Document q e bytes = skip_body profile (skip_nested profile depth_left) false e bytes
skip_nested profile (suc depth_left) Holder.Array q e bytes = skip_body profile (skip_nested profile depth_left) true e bytes
skip_nested profile (suc zero) Holder.CodeScope q e bytes = fault TooDeep q
skip_nested profile (suc (suc depth_left)) Holder.CodeScope q e bytes = skip_code_scope (skip_nested profile (suc depth_left)) q e bytes

-- the document that all of the bytes must be, at level 1 of 200
unfoldable pub skip_document : Profile → ℕ → List ℕ → Result (Unit {0}) Fault
skip_document profile e bytes = do
  f ← skip_frame true e bytes
  skip_elements profile (skip_nested profile (most_levels - 1)) None (length f.0) f.1 f.0

-- the first fault, under a profile, of bytes that must be one document, the first of which is at offset `base` of the
-- dump; None if they have none
abbrev pub fault_under : Profile → ℕ → List ℕ → Option Fault
fault_under profile base bytes = result_err (skip_document profile (base + length bytes) bytes)

-- the first fault of bytes that must be one document, the first of which is at offset `base` of the dump;
-- None if they are a document
abbrev pub first_fault : ℕ → List ℕ → Option Fault
first_fault base bytes = fault_under Profile.Named base bytes

-- There is no fault, or it is not that of a double or a decimal128.
abbrev pub ReportsNoNumber : Option Fault → Type 0
ReportsNoNumber None = Unit {0}
ReportsNoNumber (Some f) = (f.kind ≢ Double) × (f.kind ≢ Decimal128)
