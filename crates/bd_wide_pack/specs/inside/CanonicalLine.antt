-- Canonical text of documents of all types as it is packed: each value beside its text and its bytes. Used only in proofs.
use Rattle.std.specs.Prelude.{◌≡◌, ◌⊎◌, ℕ, zero, suc, List, [], ◌∷◌, ◌++◌, decimal, false, None, IsUtf8}
use Rattle.bd_value.specs.{Fits.has_zero, View.kind_of}
use Rattle.bd_value.specs.Tree.{Scalar, Tree, leaf, doc, array, code_scope, Items, no_items, item, Fields, no_fields, field}
use Rattle.bd_bson_view.specs.Spelling.{framed, long, scalar_bytes, type_byte}
use Rattle.bd_extjson_text.specs.Text.{listed, member, object}
use Rattle.bd_extjson_wrapper.specs.Wrapper.{wrapper_of}
use Rattle.bd_wide_number.specs.declared.number.Number.{Number}
use Rattle.bd_wide_number.specs.declared.number.Number.TheVariants.{Whole, Double, Decimal128}
use Rattle.bd_wide_pack.specs.inside.Printed.{IsKindPrinted, IsNumberPrinted}

-- A scalar of the nineteen kinds: its text, its type byte and its bytes.
pub record IsKindLine (s : Scalar) (text : List ℕ) (type : ℕ) (bytes : List ℕ) : Type 0 where
  pub printed : IsKindPrinted s text
  pub typed : type ≡ type_byte (kind_of (leaf printed.scalar))
  pub spelled : bytes ≡ scalar_bytes printed.scalar

-- the type byte of a double or a decimal128, and its bytes
abbrev pub number_bytes : Number → List ℕ
number_bytes (Double bits) = 1 ∷ long bits
number_bytes (Decimal128 low high) = 19 ∷ (long low ++ long high)
number_bytes (Whole z) = []

-- A double or a decimal128: the same.
pub record IsNumberLine (s : Scalar) (text : List ℕ) (type : ℕ) (bytes : List ℕ) : Type 0 where
  pub printed : IsNumberPrinted s text
  pub spelled : number_bytes printed.number ≡ type ∷ bytes

-- A value of at most `depth_left` levels: its text, its type byte, and the bytes after its name.
abbrev mutual
  pub IsLine : ℕ → Tree → List ℕ → ℕ → List ℕ → Type 0
  IsLine depth_left (leaf s) text type bytes = IsKindLine s text type bytes ⊎ IsNumberLine s text type bytes
  IsLine zero t text type bytes = ⊥
  IsLine (suc depth_left) (doc fs) text type bytes = (members : List (List ℕ)) × (body : List ℕ)
      × AreFieldLines depth_left fs members body × (text ≡ object members) × (type ≡ 3) × (bytes ≡ framed body)
  IsLine (suc depth_left) (array ts) text type bytes = (values : List (List ℕ)) × (body : List ℕ)
      × AreItemLines depth_left 0 ts values body × (text ≡ listed values) × (type ≡ 4) × (bytes ≡ framed body)
  IsLine (suc depth_left) (code_scope s fs) text type bytes = ⊥

  -- the fields of a document: the members of its text, and their elements; no name is that of a wrapper
  pub AreFieldLines : ℕ → Fields → List (List ℕ) → List ℕ → Type 0
  AreFieldLines depth_left no_fields members body = (members ≡ []) × (body ≡ [])
  AreFieldLines depth_left (field name t fs) members body = (text : List ℕ) × (type : ℕ) × (bytes : List ℕ)
      × (others : List (List ℕ)) × (rest : List ℕ) × (IsUtf8 name × (has_zero name ≡ false) × (wrapper_of name ≡ None))
      × IsLine depth_left t text type bytes × AreFieldLines depth_left fs others rest × (members ≡ member name text ∷ others)
      × (body ≡ (type ∷ (name ++ 0 ∷ bytes)) ++ rest)

  -- the elements of an array, the first of which has this index
  pub AreItemLines : ℕ → ℕ → Items → List (List ℕ) → List ℕ → Type 0
  AreItemLines depth_left index no_items values body = (values ≡ []) × (body ≡ [])
  AreItemLines depth_left index (item t ts) values body = (text : List ℕ) × (type : ℕ) × (bytes : List ℕ)
      × (others : List (List ℕ)) × (rest : List ℕ) × IsLine depth_left t text type bytes
      × AreItemLines depth_left (suc index) ts others rest × (values ≡ text ∷ others)
      × (body ≡ (type ∷ (decimal index ++ 0 ∷ bytes)) ++ rest)
