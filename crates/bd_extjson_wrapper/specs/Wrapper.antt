-- The objects that mean values of other kinds (Extended JSON v2, conversion table): which, and what is in them.
use Rattle.std.specs.Prelude.{◌≡◌, ℕ, ◌+◌, ◌*◌, ℤ, pos, List, [], ◌∷◌, Bool, true, false, ◌==◌, ◌&&◌, nat_lt}
use Rattle.std.specs.Prelude.{if◌then◌else◌, Option, Some, None, option_map, option_and_then, unwrap_or, Result, Ok}
use Rattle.std.specs.Prelude.{Err, codes}
use Rattle.std.specs.{Option.option_zip, Result.result_ok, Str.bytes_eq}
use Rattle.base64.specs.{Engines.standard, GeneralPurpose.decode_of}
use Rattle.hex.specs.Hex.{decode_sized, hex_digit_value}
use Rattle.json.specs.{Find.as_bool, Find.as_str, Find.as_number, Find.as_object, Token.Token}
use Rattle.json.specs.Json as json
use Rattle.json.specs.Json.{Json, Members, members, members_step, value}
use Rattle.bd_value.specs.Tree as trees
use Rattle.bd_value.specs.{Tree.Scalar, Fits.has_zero}
use Rattle.bd_extjson_wrapper.specs.{WholeNumber.whole_32, WholeNumber.whole_64, declared.wrapper.Trouble.Trouble}
use Rattle.bd_extjson_wrapper.specs.{declared.wrapper.Wrapper.Wrapper}
use Rattle.bd_extjson_wrapper.specs.declared.wrapper.Trouble.TheVariants as troubles
use Rattle.bd_extjson_wrapper.specs.declared.wrapper.Wrapper.TheVariants as kinds

-- the seventeen names that make an object a wrapper if they come first:
-- those of Extended JSON v2, canonical and relaxed, and earlier ones
abbrev pub wrappers : List (List ℕ × Wrapper)
wrappers = (codes "$numberInt", kinds.NumberInt) ∷ (codes "$numberLong", kinds.NumberLong)
    ∷ (codes "$numberDouble", kinds.NumberDouble) ∷ (codes "$numberDecimal", kinds.NumberDecimal)
    ∷ (codes "$oid", kinds.Oid) ∷ (codes "$symbol", kinds.Symbol) ∷ (codes "$binary", kinds.Binary)
    ∷ (codes "$uuid", kinds.Uuid) ∷ (codes "$code", kinds.Code) ∷ (codes "$scope", kinds.Scope)
    ∷ (codes "$timestamp", kinds.Timestamp) ∷ (codes "$regularExpression", kinds.RegularExpression)
    ∷ (codes "$dbPointer", kinds.DbPointer) ∷ (codes "$date", kinds.Date) ∷ (codes "$minKey", kinds.MinKey)
    ∷ (codes "$maxKey", kinds.MaxKey) ∷ (codes "$undefined", kinds.Undefined) ∷ []

-- the wrapper that this table has for a name, if it has one
abbrev pub wrapper_in : List (List ℕ × Wrapper) → List ℕ → Option Wrapper
wrapper_in [] name = None
wrapper_in (w ∷ ws) name = if bytes_eq name w.0 then Some w.1 else wrapper_in ws name

-- the wrapper with this name, such as `$oid`; None for any other name
unfoldable pub wrapper_of : List ℕ → Option Wrapper
wrapper_of name = wrapper_in wrappers name

-- whether the wrapper of a name is `$code`
abbrev pub is_code_name : Option Wrapper → Bool
is_code_name (Some kinds.Code) = true
is_code_name _ = false

-- whether the wrapper of a name is `$scope`
abbrev pub is_scope_name : Option Wrapper → Bool
is_scope_name (Some kinds.Scope) = true
is_scope_name _ = false

-- The value of such an object has a text or data, which takes memory.
abbrev pub TakesMemory : Wrapper → Type 0
TakesMemory kinds.Symbol = Unit {0}
TakesMemory kinds.Code = Unit {0}
TakesMemory kinds.Binary = Unit {0}
TakesMemory kinds.RegularExpression = Unit {0}
TakesMemory kinds.DbPointer = Unit {0}
TakesMemory _ = ⊥

-- the value of an object's one member, if there is no other and it has that name
abbrev pub only_member : List ℕ → Members → Option Json
only_member name (json.member k j json.no_members) = if bytes_eq k name then Some j else None
only_member _ _ = None

-- the value in a JSON object of that one name; None if it has another or more
unfoldable pub only : List ℕ → Json → Option Json
only name j = option_and_then (only_member name) (as_object j)

-- the values of an object's two members, that of the name a first, if these are their names in either order
abbrev pub pair_members : List ℕ → List ℕ → Members → Option (Json × Json)
pair_members a b (json.member k j (json.member l i json.no_members)) =
    if bytes_eq k a && bytes_eq l b then Some (j, i) else if bytes_eq k b && bytes_eq l a then Some (i, j) else None
pair_members _ _ _ = None

-- the values in a JSON object of exactly these two names, in either order
unfoldable pub pair : List ℕ → List ℕ → Json → Option (Json × Json)
pair a b j = option_and_then (pair_members a b) (as_object j)

-- two values, each read by its own rule; None if one of them cannot be read
abbrev pub both_in : {A B : Type 0} → (Json → Option A) → (Json → Option B) → Json × Json → Option (A × B)
both_in f g p = option_zip (f p.0) (g p.1)

-- the 12 bytes of an ObjectId: a JSON string of 24 hexadecimal digits of either case
abbrev pub id_of : Json → Option (List ℕ)
id_of j = option_and_then (λ s. result_ok (decode_sized s 12)) (as_str j)

-- the data of binary: a JSON string of base64 (RFC 4648), padded, with no bits remaining
abbrev pub data_in : Json → Option (List ℕ)
data_in j = option_and_then (λ s. result_ok (decode_of standard s)) (as_str j)

-- a subtype, in one or two hexadecimal digits of either case
abbrev pub digits_in : List ℕ → Option ℕ
digits_in (a ∷ []) = hex_digit_value a
digits_in (a ∷ b ∷ []) = option_map (λ p. p.0 * 16 + p.1) (option_zip (hex_digit_value a) (hex_digit_value b))
digits_in _ = None

-- the subtype of binary, 0 to 255: a JSON string of one or two hexadecimal digits
abbrev pub subtype_in : Json → Option ℕ
subtype_in j = option_and_then digits_in (as_str j)

-- the number, if it is from 0 to 4,294,967,295
abbrev pub if_word : ℤ → Option ℕ
if_word (pos n) = if nat_lt n 4294967296 then Some n else None
if_word z = None

-- `t` and `i` of `$timestamp`: a bare JSON number, whole, from 0 to 4,294,967,295
abbrev pub word_in : Json → Option ℕ
word_in j = option_and_then (λ s. option_and_then if_word (whole_64 s)) (as_number j)

-- a text of a regular expression: a JSON string without a zero
abbrev pub name_in : Json → Option (List ℕ)
name_in j = option_and_then (λ s. if has_zero s then None else Some s) (as_str j)

-- the text of `$numberLong`: a JSON string that writes an int64 in decimal
abbrev pub long_in : Json → Option ℤ
long_in j = option_and_then whole_64 (as_str j)

-- whether there is a number, and it is 1
abbrev pub is_one : Option ℤ → Bool
is_one (Some (pos n)) = n == 1
is_one _ = false

-- whether it is the bare JSON number 1, as after `$minKey` and `$maxKey`
abbrev pub one : Json → Bool
one j = is_one (option_and_then whole_64 (as_number j))

-- the scalar that a wrapper of one name means (Extended JSON v2, conversion table),
-- by the value after that name; None if it is malformed or not supported
abbrev pub single : Wrapper → Json → Option Scalar
single kinds.NumberInt j = option_map (λ z. trees.int32 z) (option_and_then whole_32 (as_str j))
single kinds.NumberLong j = option_map (λ z. trees.int64 z) (long_in j)
single kinds.Oid j = option_map (λ b. trees.object_id b) (id_of j)
single kinds.Symbol j = option_map (λ s. trees.symbol s) (as_str j)
single kinds.Binary j =
    option_map (λ p. trees.binary p.1 p.0)
    (option_and_then (both_in data_in subtype_in) (pair (codes "base64") (codes "subType") j))
single kinds.Code j = option_map (λ s. trees.code s) (as_str j)
single kinds.Timestamp j =
    option_map (λ p. trees.timestamp p.0 p.1)
    (option_and_then (both_in word_in word_in) (pair (codes "t") (codes "i") j))
single kinds.RegularExpression j =
    option_map (λ p. trees.regex p.0 p.1)
    (option_and_then (both_in name_in name_in) (pair (codes "pattern") (codes "options") j))
single kinds.DbPointer j =
    option_map (λ p. trees.db_pointer p.0 p.1)
    (option_and_then (both_in as_str (λ i. option_and_then id_of (only (codes "$oid") i)))
    (pair (codes "$ref") (codes "$id") j))
single kinds.Date j = option_map (λ z. trees.date z) (option_and_then long_in (only (codes "$numberLong") j))
single kinds.MinKey j = if one j then Some trees.min_key else None
single kinds.MaxKey j = if one j then Some trees.max_key else None
single kinds.Undefined j = if unwrap_or (as_bool j) false then Some trees.undefined else None
single _ _ = None

-- what was read of tokens, put through f, and the tokens after it; None if f gives none
abbrev pub through : {J A : Type 0} → (J → Option A) → Option (J × List Token) → Option (A × List Token)
through f None = None
through f (Some p) = option_map (λ a. (a, p.1)) (f p.0)

-- the members of a JSON object from a name on, or from its opening brace, and the tokens after it
abbrev pub after_key : ℕ → ℕ → Option (List ℕ) → List Token → Option (Members × List Token)
after_key depth n key ts = members_step (value depth) (members (value depth) n) key ts

-- Why there is no result: memory ran out, or the definition gives None.
abbrev pub Fails : {A : Type 0} → Trouble → Option A → Type 0
Fails troubles.Memory there = Unit {0}
Fails troubles.Refused there = there ≡ None

-- The view of the result is what the definition gives; or that is None, or memory ran out.
abbrev pub Gives : {X A : Type 0} → (X → A) → Result X Trouble → Option A → Type 0
Gives view (Ok x) there = there ≡ Some (view x)
Gives view (Err e) there = Fails e there
