-- Which bytes are which document (BSON 1.1, the grammar of `document`).
use Rattle.std.specs.Prelude.{◌≡◌, ◌≢◌, ◌≤◌, ◌<◌, ◌^◌, ℕ, ℤ, ◌+◌, Bool, true, false, Option, List, [], ◌∷◌, ◌++◌, length}
use Rattle.std.specs.Prelude.{IsUtf8, FitsSigned, ◌==◌, nat_eq, if◌then◌else◌}
use Rattle.std.specs.{List.AllByRecursion, Map.lookup}
use Rattle.std.specs.Int.{w32, w64, to_le_bytes, cast_unsigned}
use Rattle.bd_value.specs.{Limits.longest_document, Limits.most_levels, View.kind_of, declared.node.Kind.Kind}
use Rattle.bd_value.specs.Tree as trees
use Rattle.bd_value.specs.Tree.{Scalar, Tree, leaf, doc, array, code_scope, Items, no_items, item, Fields, no_fields}
use Rattle.bd_value.specs.Tree.{field, Doc, fields_of, Leaf, scalar_leaf, code_leaf}
use Rattle.bd_value.specs.declared.node.Kind.TheVariants as kinds
use Rattle.bd_bson_view.specs.declared.raw_parts.ElementType.{ElementType}
use Rattle.bd_bson_view.specs.declared.raw_parts.ElementType.TheVariants.{Kept, Double, Decimal128}
pub use Rattle.bd_value.specs.Tree.{depth, fields_depth, items_depth}

-- BSON 1.1, `element`: the type byte of a kind
abbrev pub type_byte : Kind → ℕ
type_byte kinds.Text = 2
type_byte kinds.Doc = 3
type_byte kinds.Array = 4
type_byte kinds.Binary = 5
type_byte kinds.Undefined = 6
type_byte kinds.ObjectId = 7
type_byte kinds.Bool = 8
type_byte kinds.Date = 9
type_byte kinds.Null = 10
type_byte kinds.Regex = 11
type_byte kinds.DbPointer = 12
type_byte kinds.Code = 13
type_byte kinds.Symbol = 14
type_byte kinds.CodeScope = 15
type_byte kinds.Int32 = 16
type_byte kinds.Timestamp = 17
type_byte kinds.Int64 = 18
type_byte kinds.MaxKey = 127
type_byte kinds.MinKey = 255

-- BSON 1.1, `element`: each type byte with its type; double (0x01) and decimal128 (0x13) too
abbrev pub types : List (ℕ × ElementType)
types =
    (1, Double) ∷ (2, Kept kinds.Text) ∷ (3, Kept kinds.Doc) ∷ (4, Kept kinds.Array) ∷ (5, Kept kinds.Binary)
    ∷ (6, Kept kinds.Undefined)
    ∷ (7, Kept kinds.ObjectId) ∷ (8, Kept kinds.Bool) ∷ (9, Kept kinds.Date)
    ∷ (10, Kept kinds.Null) ∷ (11, Kept kinds.Regex)
    ∷ (12, Kept kinds.DbPointer) ∷ (13, Kept kinds.Code) ∷ (14, Kept kinds.Symbol)
    ∷ (15, Kept kinds.CodeScope) ∷ (16, Kept kinds.Int32)
    ∷ (17, Kept kinds.Timestamp) ∷ (18, Kept kinds.Int64) ∷ (19, Decimal128) ∷ (127, Kept kinds.MaxKey)
    ∷ (255, Kept kinds.MinKey) ∷ []

-- the type of a type byte; None if BSON 1.1 has no such type
abbrev pub type_at : ℕ → Option ElementType
type_at b = lookup (nat_eq b) types

-- whether a value of this kind contains other values: documents, arrays and code with scope do
abbrev pub is_holder : Kind → Bool
is_holder kinds.Doc = true
is_holder kinds.Array = true
is_holder kinds.CodeScope = true
is_holder _ = false

-- `int32`: four bytes, least first
unfoldable pub number : ℕ → List ℕ
number n = to_le_bytes w32 n

-- `int64`, `uint64`: eight bytes, least first
unfoldable pub long : ℕ → List ℕ
long n = to_le_bytes w64 n

-- `cstring` without its last byte: the text is UTF-8 with no zero in it.
abbrev pub IsName : List ℕ → Type 0
IsName n = IsUtf8 n × AllByRecursion (λ b. b ≢ 0) n

-- `string`: the length of the text with its zero, the text, the zero
abbrev pub string : List ℕ → List ℕ
string s = number (length s + 1) ++ (s ++ 0 ∷ [])

-- `document`: the length of all of its bytes, the elements, a zero
abbrev pub framed : List ℕ → List ℕ
framed body = number (length body + 5) ++ (body ++ 0 ∷ [])

-- `binary`: its data, which in subtype 02 (binary, old) begins with the count of the bytes after it
abbrev pub data_of : ℕ → List ℕ → List ℕ
data_of subtype payload = if subtype == 2 then number (length payload) ++ payload else payload

-- `code_w_s`: the length of all of its bytes, the code, the scope
abbrev pub scoped : List ℕ → List ℕ → List ℕ
scoped code scope = number (length (string code ++ scope) + 4) ++ (string code ++ scope)

-- `element`: the type byte, the name ended by a zero, the value
abbrev pub element : Tree → List ℕ → List ℕ → List ℕ
element t name value = type_byte (kind_of t) ∷ (name ++ 0 ∷ value)

-- The text is one that a `string` can contain: UTF-8, and with its zero of a length that fits 32 bits.
abbrev pub IsText : List ℕ → Type 0
IsText s = IsUtf8 s × (length s + 1 < 2 ^ 32)

-- the four types of numbers
pub data NumberKind : Type 0 where
  as_double : NumberKind
  as_int32 : NumberKind
  as_int64 : NumberKind
  as_decimal128 : NumberKind

-- the type of a kind of number
abbrev pub number_type : NumberKind → ElementType
number_type as_double = Double
number_type as_int32 = Kept kinds.Int32
number_type as_int64 = Kept kinds.Int64
number_type as_decimal128 = Decimal128

-- BSON 1.1, `element`: the type byte of a kind of number
abbrev pub number_byte : NumberKind → ℕ
number_byte as_double = 1
number_byte as_int32 = 16
number_byte as_int64 = 18
number_byte as_decimal128 = 19

-- how many bytes its value has
abbrev pub number_size : NumberKind → ℕ
number_size as_double = 8
number_size as_int32 = 4
number_size as_int64 = 8
number_size as_decimal128 = 16

-- the bytes of a scalar after its type byte and name (BSON 1.1), least byte first;
-- none for null, undefined, MinKey and MaxKey
abbrev pub scalar_bytes : Scalar → List ℕ
scalar_bytes (trees.int32 z) = number (cast_unsigned w32 z)
scalar_bytes (trees.int64 z) = long (cast_unsigned w64 z)
scalar_bytes (trees.date z) = long (cast_unsigned w64 z)
scalar_bytes (trees.timestamp seconds increment) = number increment ++ number seconds
scalar_bytes (trees.boolean b) = (if b then 1 else 0) ∷ []
scalar_bytes (trees.object_id id) = id
scalar_bytes (trees.text s) = string s
scalar_bytes (trees.symbol s) = string s
scalar_bytes (trees.code s) = string s
scalar_bytes (trees.db_pointer s id) = string s ++ id
scalar_bytes (trees.regex pattern options) = pattern ++ 0 ∷ (options ++ 0 ∷ [])
scalar_bytes (trees.binary subtype payload) = number (length (data_of subtype payload))
    ++ subtype ∷ data_of subtype payload
scalar_bytes _ = []

-- The scalar is within its type, so that its bytes spell it: numbers have the bits of their types, texts are UTF-8.
abbrev pub CanSpell : Scalar → Type 0
CanSpell (trees.int32 z) = FitsSigned w32 z
CanSpell (trees.int64 z) = FitsSigned w64 z
CanSpell (trees.date z) = FitsSigned w64 z
CanSpell (trees.timestamp seconds increment) = (seconds < 2 ^ 32) × (increment < 2 ^ 32)
CanSpell (trees.object_id id) = length id ≡ 12
CanSpell (trees.text s) = IsText s
CanSpell (trees.symbol s) = IsText s
CanSpell (trees.code s) = IsText s
CanSpell (trees.db_pointer s id) = IsText s × (length id ≡ 12)
CanSpell (trees.regex pattern options) = IsName pattern × IsName options
CanSpell (trees.binary subtype payload) = (subtype < 256) × (length (data_of subtype payload) < 2 ^ 31)
CanSpell _ = Unit {0}

-- The scalar is within its type, and these are its bytes.
abbrev pub IsScalar : Scalar → List ℕ → Type 0
IsScalar s bytes = CanSpell s × (bytes ≡ scalar_bytes s)

-- The grammar of a document, but for its scalars: which bytes spell a scalar, and where these are in an element.
pub record Grammar : Type 1 where
  -- The bytes spell the scalar.
  pub Spells : Scalar → List ℕ → Type 0
  -- the bytes of an element, by the value, its name and the bytes that spell it
  pub written : Tree → List ℕ → List ℕ → List ℕ

-- The bytes spell the value. An array is spelled as a document whose names are any names.
abbrev mutual
  -- The bytes spell the value after its type byte and name (BSON 1.1, `element`);
  -- of a document they are all of its bytes.
  pub IsValueBy : Grammar → Tree → List ℕ → Type 0
  IsValueBy g (leaf s) bytes = g.Spells s bytes
  IsValueBy g (doc fs) bytes = (body : List ℕ) × AreFieldsBy g fs body × (bytes ≡ framed body)
  IsValueBy g (array ts) bytes = (body : List ℕ) × AreItemsBy g ts body × (bytes ≡ framed body)
  IsValueBy g (code_scope s fs) bytes =
      (body : List ℕ) × AreFieldsBy g fs body × (bytes ≡ scoped s (framed body)) × IsText s

  -- `e_list`: the bytes are the elements of a document, one after the other.
  pub AreFieldsBy : Grammar → Fields → List ℕ → Type 0
  AreFieldsBy g no_fields bytes = bytes ≡ []
  AreFieldsBy g (field name t fs) bytes =
      (value : List ℕ) × (rest : List ℕ) × IsName name × IsValueBy g t value × AreFieldsBy g fs rest
      × (bytes ≡ g.written t name value ++ rest)

  -- `e_list`: the bytes are the elements of an array, one after the other, whatever their names.
  pub AreItemsBy : Grammar → Items → List ℕ → Type 0
  AreItemsBy g no_items bytes = bytes ≡ []
  AreItemsBy g (item t ts) bytes = (name : List ℕ) × (value : List ℕ) × (rest : List ℕ) × IsName name × IsValueBy g t value
      × AreItemsBy g ts rest × (bytes ≡ g.written t name value ++ rest)

-- The bytes are this document by the grammar: at most 16,793,600 bytes, and at most 200 levels.
pub record IsDocumentBy (g : Grammar) (d : Doc) (bytes : List ℕ) : Type 0 where
  pub spells : IsValueBy g (doc (fields_of d)) bytes
  pub short : length bytes ≤ longest_document
  pub shallow : depth (doc (fields_of d)) ≤ most_levels

-- ---- the nineteen kinds

-- BSON 1.1 without double and decimal128: each kind has one type byte
abbrev pub nineteen : Grammar
nineteen = record { Spells = IsScalar; written = element }

-- The bytes spell the value after its type byte and name (BSON 1.1, `element`); of a document they are all of its bytes.
abbrev pub IsValue : Tree → List ℕ → Type 0
IsValue = IsValueBy nineteen

-- `e_list`: the bytes are the elements of a document, one after the other.
abbrev pub AreFields : Fields → List ℕ → Type 0
AreFields = AreFieldsBy nineteen

-- `e_list`: the bytes are the elements of an array, one after the other, whatever their names.
abbrev pub AreItems : Items → List ℕ → Type 0
AreItems = AreItemsBy nineteen

-- The bytes are this document (BSON 1.1): at most 16,793,600 bytes, and at most 200 levels.
abbrev pub IsDocument : Doc → List ℕ → Type 0
IsDocument = IsDocumentBy nineteen

-- ---- all types, with numbers by value

-- A number as it is spelled: its type byte, and the bytes of its value. Its worth is z, by `worth`.
pub record IsNumber (worth : ElementType → List ℕ → ℤ) (z : ℤ) (bytes : List ℕ) : Type 0 where
  pub kind : NumberKind
  pub value : List ℕ
  pub typed : bytes ≡ number_byte kind ∷ value
  pub sized : length value ≡ number_size kind
  pub is_worth : worth (number_type kind) value ≡ z

-- Of a number the type byte comes first, and is before the name in the element.
abbrev pub written_typed : Tree → List ℕ → List ℕ → List ℕ
written_typed (leaf (trees.int64 z)) name (type ∷ value) = type ∷ (name ++ 0 ∷ value)
written_typed t name value = element t name value

-- the scalars of all types: each number is a whole number, its worth, as an int64; others as ever
abbrev pub IsValuedScalar : (ElementType → List ℕ → ℤ) → Scalar → List ℕ → Type 0
IsValuedScalar worth (trees.int32 z) bytes = ⊥
IsValuedScalar worth (trees.int64 z) bytes = IsNumber worth z bytes
IsValuedScalar worth s bytes = IsScalar s bytes

-- BSON 1.1, all 21 types: int32, int64, double and decimal128 by their worth
abbrev pub valued : (ElementType → List ℕ → ℤ) → Grammar
valued worth = record { Spells = IsValuedScalar worth; written = written_typed }

-- The text is no longer than a document may be: 16,793,600 bytes.
abbrev pub IsShort : List ℕ → Type 0
IsShort text = length text ≤ longest_document

-- Each text, and the data, of the scalar or the code is no longer than a document may be.
abbrev pub LeafIsShort : Leaf → Type 0
LeafIsShort (scalar_leaf (trees.text s)) = IsShort s
LeafIsShort (scalar_leaf (trees.symbol s)) = IsShort s
LeafIsShort (scalar_leaf (trees.binary subtype payload)) = IsShort payload
LeafIsShort (scalar_leaf (trees.regex pattern options)) = IsShort pattern × IsShort options
LeafIsShort (scalar_leaf (trees.db_pointer space id)) = IsShort space
LeafIsShort (scalar_leaf (trees.code s)) = IsShort s
LeafIsShort (code_leaf s) = IsShort s
LeafIsShort _ = Unit {0}
