-- Canonical Extended JSON v2: the text of a value and of a document, without white space.
-- The first half is the grammar of JSON (RFC 8259), the second the conversion table of Extended JSON v2.
use Rattle.std.specs.Prelude.{ℕ, ℤ, ◌/◌, ◌%◌, List, [], ◌∷◌, ◌++◌, Bool, ◌==◌, ◌||◌, nat_lt, if◌then◌else◌, codes}
use Rattle.std.specs.Prelude.{decimal}
use Rattle.std.specs.{Char.digit_char, Fmt.signed_decimal, List.flat_map, List.join_with_byte}
use Rattle.base64.specs.{Engines.standard, GeneralPurpose.encode_of}
use Rattle.hex.specs.Hex.{encode_lower}
use Rattle.bd_value.specs.Tree.{Scalar, min_key, undefined, null, int32, int64, text as string, symbol, binary}
use Rattle.bd_value.specs.Tree.{object_id, boolean, date, timestamp, regex, db_pointer, code, max_key, Tree, leaf, doc}
use Rattle.bd_value.specs.Tree.{array, code_scope, Items, no_items, item, Fields, no_fields, field}

-- RFC 8259, section 7: the quotation mark, the reverse solidus and the control characters must be escaped.
abbrev pub needs_escape : ℕ → Bool
needs_escape b = b == 34 || b == 92 || nat_lt b 32

-- RFC 8259, section 7: the short escape if there is one,
-- else \u00 and two lower-case digits, else the byte itself.
-- Bytes from 128 on, and so all characters beyond ASCII, are written as they are.
unfoldable pub escape_byte : ℕ → List ℕ
escape_byte b = if b == 34 || b == 92 then 92 ∷ b ∷ []
    else (if b == 8 then codes "\\b"
    else (if b == 12 then codes "\\f"
    else (if b == 10 then codes "\\n"
    else (if b == 13 then codes "\\r"
    else (if b == 9 then codes "\\t"
    else (if nat_lt b 32 then codes "\\u00" ++ (digit_char (b / 16) ∷ digit_char (b % 16) ∷ [])
    else b ∷ []))))))

-- RFC 8259, section 7: the text between the quotation marks of a string
abbrev pub escaped : List ℕ → List ℕ
escaped = flat_map escape_byte

-- RFC 8259, section 7: a string with this content, between quotation marks
unfoldable pub quoted : List ℕ → List ℕ
quoted s = 34 ∷ (escaped s ++ 34 ∷ [])

-- RFC 8259, section 5: an array of these values
abbrev pub listed : List (List ℕ) → List ℕ
listed values = 91 ∷ (join_with_byte 44 values ++ 93 ∷ [])

-- RFC 8259, section 4: an object of these members
abbrev pub object : List (List ℕ) → List ℕ
object members = 123 ∷ (join_with_byte 44 members ++ 125 ∷ [])

-- RFC 8259, section 4: a member: its name as a string, a colon, the text of its value
abbrev pub member : List ℕ → List ℕ → List ℕ
member name value = quoted name ++ 58 ∷ value

-- a JSON object of this one member
abbrev pub wrapper_text : List ℕ → List ℕ → List ℕ
wrapper_text name value = object (member name value ∷ [])

-- RFC 4648, section 4: bytes in base64, with padding
unfoldable pub base64_text : List ℕ → List ℕ
base64_text bytes = encode_of standard bytes

-- bytes in hexadecimal, two lower-case digits each
unfoldable pub hex_text : List ℕ → List ℕ
hex_text bytes = encode_lower bytes

-- Extended JSON v2, conversion table, canonical: an int64, `{"$numberLong":".."}`
abbrev pub long_text : ℤ → List ℕ
long_text z = wrapper_text (codes "$numberLong") (quoted (signed_decimal z))

-- Extended JSON v2, conversion table, canonical: an ObjectId, `{"$oid":".."}` with 24 lower-case digits
abbrev pub id_text : List ℕ → List ℕ
id_text id = wrapper_text (codes "$oid") (quoted (hex_text id))

-- Extended JSON v2, conversion table, column "Canonical Extended JSON":
-- the text of a scalar, without white space
unfoldable pub scalar_text : Scalar → List ℕ
scalar_text min_key = wrapper_text (codes "$minKey") (codes "1")
scalar_text undefined = wrapper_text (codes "$undefined") (codes "true")
scalar_text null = codes "null"
scalar_text (int32 z) = wrapper_text (codes "$numberInt") (quoted (signed_decimal z))
scalar_text (int64 z) = long_text z
scalar_text (string s) = quoted s
scalar_text (symbol s) = wrapper_text (codes "$symbol") (quoted s)
scalar_text (binary subtype bytes) =
    wrapper_text (codes "$binary")
    (object (member (codes "base64") (quoted (base64_text bytes))
    ∷ member (codes "subType") (quoted (hex_text (subtype ∷ []))) ∷ []))
scalar_text (object_id id) = id_text id
scalar_text (boolean b) = if b then codes "true" else codes "false"
scalar_text (date z) = wrapper_text (codes "$date") (long_text z)
scalar_text (timestamp seconds increment) =
    wrapper_text (codes "$timestamp")
    (object (member (codes "t") (decimal seconds) ∷ member (codes "i") (decimal increment) ∷ []))
scalar_text (regex pattern options) =
    wrapper_text (codes "$regularExpression")
    (object (member (codes "pattern") (quoted pattern) ∷ member (codes "options") (quoted options) ∷ []))
scalar_text (db_pointer space id) =
    wrapper_text (codes "$dbPointer")
    (object (member (codes "$ref") (quoted space) ∷ member (codes "$id") (id_text id) ∷ []))
scalar_text (code s) = wrapper_text (codes "$code") (quoted s)
scalar_text max_key = wrapper_text (codes "$maxKey") (codes "1")

-- The same for the values that contain values: each of these by its own text, in the stored order.
abbrev mutual
  -- the canonical Extended JSON v2 of any value, without white space
  pub text : Tree → List ℕ
  text (leaf s) = scalar_text s
  text (doc fs) = object (fields_text fs)
  text (array ts) = listed (items_text ts)
  text (code_scope s fs) =
      object (member (codes "$code") (quoted s) ∷ member (codes "$scope") (object (fields_text fs)) ∷ [])

  -- the texts of the elements of an array, in order
  pub items_text : Items → List (List ℕ)
  items_text no_items = []
  items_text (item t ts) = text t ∷ items_text ts

  -- the members of a document's text, in stored order; a name that repeats is written each time
  pub fields_text : Fields → List (List ℕ)
  fields_text no_fields = []
  fields_text (field n t fs) = member n (text t) ∷ fields_text fs
