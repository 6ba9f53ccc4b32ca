-- Extended JSON v2 of documents of all 21 types, canonical or relaxed, without white space.
use Rattle.std.specs.Prelude.{◌≡◌, ◌<◌, ℕ, ℤ, List, [], ◌∷◌, ◌++◌, Bool, true, false, length, drop, slice_index, codes}
use Rattle.std.specs.Float.{Ieee.Float, Ieee.of_bits, binary64, float_is_finite}
use Rattle.std.specs.Fmt.{signed_decimal}
use Rattle.std.specs.Int.{w32, w64, cast_signed}
use Rattle.bd_value.specs.Tree.{Scalar, int32, int64, date, Tree, leaf, doc, array, code_scope, Items, no_items, item}
use Rattle.bd_value.specs.Tree.{Fields, no_fields, field, Doc, fields_of}
use Rattle.bd_bson_view.specs.Spelling.{NumberKind, as_double, as_int32, as_int64, as_decimal128, number_type, number_size}
use Rattle.bd_bson_view.specs.{Spelling.IsDocumentBy, Spelling.valued, Sizes.number_of, Sizes.long_of}
use Rattle.bd_extjson_text.specs.Text.{scalar_text, object, listed, member, quoted}
use Rattle.bd_wide_text.specs.{Double.IsDoubleText, Decimal128.decimal128_text}
use Rattle.bd_wide_dump.specs.declared.format.JsonFormat.{JsonFormat}
use Rattle.bd_wide_dump.specs.declared.format.JsonFormat.TheVariants.{Canonical, Relaxed}
use Rattle.bd_wide_dump.specs.{Raw.raw, RelaxedDate.IsDateText}

-- Each is a byte.
abbrev pub AreBytes : List ℕ → Type 0
AreBytes bytes = (i : ℕ) → slice_index bytes i < 256

-- The text of a scalar of the nineteen kinds: Extended JSON v2, conversion table.
abbrev pub IsKindText : JsonFormat → Scalar → List ℕ → Type 0
IsKindText Relaxed (int32 z) text = text ≡ signed_decimal z
IsKindText Relaxed (int64 z) text = text ≡ signed_decimal z
IsKindText Relaxed (date z) text = IsDateText z text
IsKindText _ s text = text ≡ scalar_text s

-- whether a double is written without a wrapper: if it is finite, in relaxed form
abbrev pub is_bare : JsonFormat → Float → Bool
is_bare Relaxed double = float_is_finite double
is_bare Canonical double = false

-- the text of a double with these digits, without a wrapper or in it
abbrev pub double_text : Bool → List ℕ → List ℕ
double_text true number = number
double_text false number = codes "{\"$numberDouble\":\"" ++ (number ++ codes "\"}")

-- The text of a double by its bits, without a wrapper or in it.
abbrev pub IsDoubleIn : Bool → ℕ → List ℕ → Type 0
IsDoubleIn bare bits text = (number : List ℕ) × IsDoubleText bits number × (text ≡ double_text bare number)

-- the text of a decimal128 by its bytes
abbrev pub decimal_text : List ℕ → List ℕ
decimal_text value =
    codes "{\"$numberDecimal\":\"" ++ (decimal128_text (long_of value) (long_of (drop 8 value)) ++ codes "\"}")

-- The text of a number by its type and the bytes of its value: Extended JSON v2, conversion table.
abbrev pub IsNumberText : JsonFormat → NumberKind → List ℕ → List ℕ → Type 0
IsNumberText format as_int32 value text = IsKindText format (int32 (cast_signed w32 (number_of value))) text
IsNumberText format as_int64 value text = IsKindText format (int64 (cast_signed w64 (long_of value))) text
IsNumberText format as_double value text =
    IsDoubleIn (is_bare format (of_bits binary64 (long_of value))) (long_of value) text
IsNumberText format as_decimal128 value text = text ≡ decimal_text value

-- The text is that of the number with this type and these bits, as a format writes numbers of these bytes.
pub record IsRawBy (Written : NumberKind → List ℕ → List ℕ → Type 0) (z : ℤ) (text : List ℕ) : Type 0 where
  pub kind : NumberKind
  pub value : List ℕ
  pub fits : AreBytes value
  pub sized : length value ≡ number_size kind
  pub is : raw (number_type kind) value ≡ z
  pub written : Written kind value text

-- The same in Extended JSON.
abbrev pub IsRawText : JsonFormat → ℤ → List ℕ → Type 0
IsRawText format = IsRawBy (IsNumberText format)

-- The text is that of a scalar in a document of all types, in which each number is its type and its bits.
abbrev pub IsScalarText : JsonFormat → Scalar → List ℕ → Type 0
IsScalarText format (int64 z) text = IsRawText format z text
IsScalarText format s text = IsKindText format s text

-- The same for the values that contain values: each of these by its own text, in the stored order.
abbrev mutual
  -- The text is that of any value.
  pub IsTextOf : JsonFormat → Tree → List ℕ → Type 0
  IsTextOf format (leaf s) text = IsScalarText format s text
  IsTextOf format (doc fs) text = (members : List (List ℕ)) × AreMembers format fs members × (text ≡ object members)
  IsTextOf format (array ts) text = (values : List (List ℕ)) × AreTexts format ts values × (text ≡ listed values)
  IsTextOf format (code_scope s fs) text = (members : List (List ℕ)) × AreMembers format fs members
      × (text ≡ object (member (codes "$code") (quoted s) ∷ member (codes "$scope") (object members) ∷ []))

  -- These are the texts of the elements of an array, in order.
  pub AreTexts : JsonFormat → Items → List (List ℕ) → Type 0
  AreTexts format no_items values = values ≡ []
  AreTexts format (item t ts) values =
      (value : List ℕ) × (rest : List (List ℕ)) × IsTextOf format t value × AreTexts format ts rest × (values ≡ value ∷ rest)

  -- These are the members of a document's text, in stored order; a name that repeats is written each time.
  pub AreMembers : JsonFormat → Fields → List (List ℕ) → Type 0
  AreMembers format no_fields members = members ≡ []
  AreMembers format (field n t fs) members = (value : List ℕ) × (rest : List (List ℕ)) × IsTextOf format t value × AreMembers format fs rest
      × (members ≡ member n value ∷ rest)

-- The bytes are a document of all types, and the text is that of the document.
abbrev pub IsTextOfBytes : JsonFormat → List ℕ → List ℕ → Type 0
IsTextOfBytes format bytes text = (d : Doc) × IsDocumentBy (valued raw) d bytes × IsTextOf format (doc (fields_of d)) text

-- The bytes are a document of all types, and the line is its text and a newline.
abbrev pub IsLineOf : JsonFormat → List ℕ → List ℕ → Type 0
IsLineOf format bytes line = (text : List ℕ) × IsTextOfBytes format bytes text × (line ≡ text ++ 10 ∷ [])
