-- `$type` and the four types of numbers: double, int, long and decimal (MongoDB manual, "$type").
use Rattle.std.specs.Prelude.{◌≡◌, ◌⊎◌, ℕ, ℤ, pos, Bool, true, false, ◌&&◌, ◌||◌, not, List, Option, Some, None, codes, if◌then◌else◌}
use Rattle.std.specs.{Bool.beq, List.list_any, Ordering.int_eq, Str.bytes_eq}
use Rattle.bd_value.specs.declared.node.Kind.TheVariants as kinds
use Rattle.bd_value.specs.Tree.{int32, int64, text, Tree, leaf, doc, array, code_scope, Items, no_items, item, elements_in}
use Rattle.bd_value.specs.Tree.{Fields, no_fields, field}
use Rattle.bd_bson_view.specs.declared.raw_parts.ElementType.{ElementType}
use Rattle.bd_bson_view.specs.declared.raw_parts.ElementType.TheVariants as elements
use Rattle.bd_wide_copy.specs.Classes.{is_long}
use Rattle.bd_wide_copy.specs.declared.longs.Longs.{Longs}
use Rattle.bd_wide_query.specs.declared.types.NumberType.{NumberType}
use Rattle.bd_wide_query.specs.declared.types.NumberType.TheVariants as types

-- ---- which types an operand names

-- the number of a type
abbrev pub type_code : NumberType → ℤ
type_code types.Double = pos 1
type_code types.Int = pos 16
type_code types.Long = pos 18
type_code types.Decimal = pos 19

-- the name of a type
abbrev pub type_name : NumberType → List ℕ
type_name types.Double = codes "double"
type_name types.Int = codes "int"
type_name types.Long = codes "long"
type_name types.Decimal = codes "decimal"

-- the type in a document
abbrev pub element_type : NumberType → ElementType
element_type types.Double = elements.Double
element_type types.Int = elements.Kept kinds.Int32
element_type types.Long = elements.Kept kinds.Int64
element_type types.Decimal = elements.Decimal128

-- whether a value is the number or the name of a type alone
abbrev pub is_alone : NumberType → Tree → Bool
is_alone k (leaf (text s)) = bytes_eq s (type_name k)
is_alone k (leaf (int32 z)) = int_eq z (type_code k)
is_alone k (leaf (int64 z)) = int_eq z (type_code k)
is_alone k t = false

-- whether a value is `number`, the name of each of the four
abbrev pub is_number_name : Tree → Bool
is_number_name (leaf (text s)) = bytes_eq s (codes "number")
is_number_name t = false

-- whether a value is the number or the name of a type
abbrev pub is_type : NumberType → Tree → Bool
is_type k t = is_alone k t || is_number_name t

-- whether an operand of `$type`, a type or an array of types, names a type
abbrev pub names_type : NumberType → Tree → Bool
names_type k t = is_type k t || list_any (is_type k) (elements_in t)

-- ---- whether a query separates two types

-- whether the value of a name, if that is `$type`, names both types or neither
abbrev pub is_alike_at : NumberType → NumberType → List ℕ → Tree → Bool
is_alike_at j k name t = if bytes_eq name (codes "$type") then beq (names_type j t) (names_type k t) else true

-- whether each `$type` in a value, at any level, names both types or neither
abbrev mutual
  -- in a value
  pub is_alike : NumberType → NumberType → Tree → Bool
  is_alike j k (leaf s) = true
  is_alike j k (doc fs) = fields_are_alike j k fs
  is_alike j k (array ts) = items_are_alike j k ts
  is_alike j k (code_scope s fs) = fields_are_alike j k fs

  -- in fields
  pub fields_are_alike : NumberType → NumberType → Fields → Bool
  fields_are_alike j k no_fields = true
  fields_are_alike j k (field n t fs) = (is_alike_at j k n t && is_alike j k t) && fields_are_alike j k fs

  -- in the elements of an array
  pub items_are_alike : NumberType → NumberType → Items → Bool
  items_are_alike j k no_items = true
  items_are_alike j k (item t ts) = is_alike j k t && items_are_alike j k ts

-- A `$type` in a query, at any level, has this operand.
abbrev mutual
  -- A `$type` in the value has this operand.
  pub HasOperand : Tree → Tree → Type 0
  HasOperand (leaf s) operand = ⊥
  HasOperand (doc fs) operand = FieldsHaveOperand fs operand
  HasOperand (array ts) operand = ItemsHaveOperand ts operand
  HasOperand (code_scope s fs) operand = FieldsHaveOperand fs operand

  -- A `$type` in the fields, at any level, has this operand.
  pub FieldsHaveOperand : Fields → Tree → Type 0
  FieldsHaveOperand no_fields operand = ⊥
  FieldsHaveOperand (field n t fs) operand =
      ((n ≡ codes "$type") × (t ≡ operand)) ⊎ (HasOperand t operand ⊎ FieldsHaveOperand fs operand)

  -- A `$type` in the elements of an array has this operand.
  pub ItemsHaveOperand : Items → Tree → Type 0
  ItemsHaveOperand no_items operand = ⊥
  ItemsHaveOperand (item t ts) operand = HasOperand t operand ⊎ ItemsHaveOperand ts operand

-- ---- two classes of types

-- the types that some `$type` of a query separates from int32
abbrev pub longs_of : Fields → Longs
longs_of fs = record {
  double = not (fields_are_alike types.Int types.Double fs);
  int64 = not (fields_are_alike types.Int types.Long fs);
  decimal128 = not (fields_are_alike types.Int types.Decimal fs);
}

-- ---- `$type` by classes

-- whether some types are long
abbrev pub has_longs : Longs → Bool
has_longs longs = longs.double || longs.int64 || longs.decimal128

-- `long` or `int` in place of the number or the name of a type
abbrev pub class_name : Longs → NumberType → List ℕ
class_name longs k = if is_long longs (element_type k) then codes "long" else codes "int"

-- the type that a value names alone
abbrev pub type_alone : Tree → Option NumberType
type_alone t =
    if is_alone types.Double t then Some types.Double
    else if is_alone types.Int t then Some types.Int
    else if is_alone types.Long t then Some types.Long
    else if is_alone types.Decimal t then Some types.Decimal
    else None

-- the name of its class in place of a type, if there is one; `number` and other types stay
abbrev pub class_instead : Longs → Tree → Option NumberType → Tree
class_instead longs t None = t
class_instead longs t (Some k) = leaf (text (class_name longs k))

-- a member of an operand of `$type`, by classes; if there is one class alone it stays
abbrev pub type_by_class : Longs → Tree → Tree
type_by_class longs t = if has_longs longs then class_instead longs t (type_alone t) else t

-- an operand of `$type`, a type or an array of types, by classes
abbrev mutual
  -- an operand
  pub types_by_class : Longs → Tree → Tree
  types_by_class longs (leaf s) = type_by_class longs (leaf s)
  types_by_class longs (doc fs) = doc fs
  types_by_class longs (array ts) = array (each_by_class longs ts)
  types_by_class longs (code_scope s fs) = code_scope s fs

  -- the elements of an array
  pub each_by_class : Longs → Items → Items
  each_by_class longs no_items = no_items
  each_by_class longs (item t ts) = item (types_by_class longs t) (each_by_class longs ts)
