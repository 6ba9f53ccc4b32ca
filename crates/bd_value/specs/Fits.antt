-- What the type of a value in memory guarantees of its tree:
-- each number fits, bytes are bytes, and texts are UTF-8.
-- Also whether a name, or a text of a regular expression, contains a zero byte, which BSON cannot store there.
use Rattle.std.specs.Prelude.{◌≡◌, ◌<◌, ◌^◌, ℕ, List, length, slice_index, IsUtf8, [], ◌∷◌, Bool, false, ◌&&◌, ◌||◌}
use Rattle.std.specs.Prelude.{◌==◌}
use Rattle.std.specs.{Int.w32, Int.w64, Int.RustNames.FitsSigned}
use Rattle.bd_value.specs.Tree.{code_leaf, scalar_leaf, Leaf, Scalar, int32, int64, text, symbol, binary, object_id, date}
use Rattle.bd_value.specs.Tree.{timestamp, regex, db_pointer, code, Tree, leaf, doc, array, code_scope, Items, no_items}
use Rattle.bd_value.specs.Tree.{item, Fields, no_fields, field, Doc}

-- Each number of the list is a byte: from 0 to 255.
abbrev pub AreBytes : List ℕ → Type 0
AreBytes bytes = (i : ℕ) → slice_index bytes i < 256

-- The list is the 12 bytes of an ObjectId (BSON 1.1, element 0x07; also the id of a DBPointer, 0x0C).
abbrev pub IsId : List ℕ → Type 0
IsId id = (length id ≡ 12) × AreBytes id

-- For any property `IsSuch` of texts, codes and names.
module _ (IsSuch : List ℕ → Type 0) where
  -- A scalar is within its BSON 1.1 type: an int32 has 32 bits, an int64 and a date 64,
  -- the two numbers of a timestamp 32 each; a subtype is one byte, an id 12 bytes; and each text `IsSuch`.
  abbrev pub ScalarFits : Scalar → Type 0
  ScalarFits (int32 z) = FitsSigned w32 z
  ScalarFits (int64 z) = FitsSigned w64 z
  ScalarFits (text s) = IsSuch s
  ScalarFits (symbol s) = IsSuch s
  ScalarFits (binary subtype bytes) = (subtype < 256) × AreBytes bytes
  ScalarFits (object_id id) = IsId id
  ScalarFits (date z) = FitsSigned w64 z
  ScalarFits (timestamp seconds increment) = (seconds < 2 ^ 32) × (increment < 2 ^ 32)
  ScalarFits (regex pattern options) = IsSuch pattern × IsSuch options
  ScalarFits (db_pointer space id) = IsSuch space × IsId id
  ScalarFits (code s) = IsSuch s
  ScalarFits _ = Unit {0}

  abbrev mutual
    -- A value fits: each scalar in it fits, at every level, and each name, text and code `IsSuch`.
    pub TreeFits : Tree → Type 0
    TreeFits (leaf s) = ScalarFits s
    TreeFits (doc fs) = FieldsFit fs
    TreeFits (array ts) = ItemsFit ts
    TreeFits (code_scope s fs) = IsSuch s × FieldsFit fs

    -- Each element of an array fits.
    pub ItemsFit : Items → Type 0
    ItemsFit no_items = Unit {0}
    ItemsFit (item t ts) = TreeFits t × ItemsFit ts

    -- Each name of a document `IsSuch`, and each value of it fits.
    pub FieldsFit : Fields → Type 0
    FieldsFit no_fields = Unit {0}
    FieldsFit (field n t fs) = IsSuch n × (TreeFits t × FieldsFit fs)

  -- The scalar, or the code of code with scope, fits its BSON type.
  abbrev pub LeafFits : Leaf → Type 0
  LeafFits (scalar_leaf s) = ScalarFits s
  LeafFits (code_leaf s) = IsSuch s

-- A value fits its BSON types, and its names, texts and codes are UTF-8: so does each value in memory.
abbrev pub Fits : Tree → Type 0
Fits = TreeFits IsUtf8

-- Every text is accepted: any bytes, UTF-8 or not.
abbrev pub IsAny : List ℕ → Type 0
IsAny s = Unit {0}

-- A value fits its BSON types, whatever bytes its names, texts and codes are.
abbrev pub FitsTypes : Tree → Type 0
FitsTypes = TreeFits IsAny

-- whether a byte of the text is 0: then BSON's `cstring` cannot store it, and `string` can
abbrev pub has_zero : List ℕ → Bool
has_zero [] = false
has_zero (b ∷ bs) = (b == 0) || has_zero bs

-- whether the pattern or the options of a regular expression (element 0x0B) contain a zero byte;
-- false for every other scalar, since a `string` may contain zeros
abbrev pub zero_in_scalar : Scalar → Bool
zero_in_scalar (regex pattern options) = has_zero pattern || has_zero options
zero_in_scalar s = false

abbrev mutual
  -- whether a `cstring` of the value contains a zero byte, at any level:
  -- the name of a field, or a text of a regular expression; BSON has no bytes for such a value
  pub zero_in : Tree → Bool
  zero_in (leaf s) = zero_in_scalar s
  zero_in (doc fs) = zero_in_fields fs
  zero_in (array ts) = zero_in_items ts
  zero_in (code_scope s fs) = zero_in_fields fs

  -- whether one of these fields has a zero in a `cstring`: in its name, or inside its value
  pub zero_in_fields : Fields → Bool
  zero_in_fields no_fields = false
  zero_in_fields (field name t fs) = has_zero name || (zero_in t || zero_in_fields fs)

  -- whether one of these elements has a zero in a `cstring` inside it; the names of elements are not stored
  pub zero_in_items : Items → Bool
  zero_in_items no_items = false
  zero_in_items (item t ts) = zero_in t || zero_in_items ts

-- whether a value among the parts has a zero in a `cstring`, or, if they are fields, a name has one
abbrev pub zero_in_parts : Bool → Doc → Bool
zero_in_parts named [] = false
zero_in_parts named (p ∷ ps) = (named && has_zero p.0) || (zero_in p.1 || zero_in_parts named ps)

-- whether the scalar has a zero in a `cstring`; false for the code of code with scope, which is a `string`
abbrev pub zero_in_leaf : Leaf → Bool
zero_in_leaf (scalar_leaf s) = zero_in_scalar s
zero_in_leaf (code_leaf s) = false
