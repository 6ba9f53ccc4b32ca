-- A document with doubles and decimal128, by two documents that have other values for them, and the numbers in order.
use Rattle.std.specs.Prelude.{◌≡◌, ◌⊎◌, List, [], ◌∷◌, ◌++◌, pos}
use Rattle.bd_value.specs.declared.node.Kind.TheVariants as kinds
use Rattle.bd_value.specs.Tree as trees
use Rattle.bd_value.specs.Tree.{Scalar, Tree, leaf, doc, array, code_scope, Items, no_items, item, Fields, no_fields, field}
use Rattle.bd_bson_view.specs.declared.raw_parts.ElementType.TheVariants.{Kept, Double, Decimal128}
use Rattle.bd_bson_view.specs.Spelling.{long, scalar_bytes}
use Rattle.bd_wide_dump.specs.Raw.{raw}
use Rattle.bd_wide_number.specs.declared.number.Number.{Number}
use Rattle.bd_wide_number.specs.declared.number.Number.TheVariants as numbers

-- a scalar of the nineteen kinds in a document of all types, in which each number is its type and its bits
abbrev pub kept : Scalar → Scalar
kept (trees.int32 z) = trees.int64 (raw (Kept kinds.Int32) (scalar_bytes (trees.int32 z)))
kept (trees.int64 z) = trees.int64 (raw (Kept kinds.Int64) (scalar_bytes (trees.int64 z)))
kept s = s

-- a number in such a document; one that is whole is an int64
abbrev pub numeric : Number → Scalar
numeric (numbers.Whole z) = kept (trees.int64 z)
numeric (numbers.Double bits) = trees.int64 (raw Double (long bits))
numeric (numbers.Decimal128 low high) = trees.int64 (raw Decimal128 (long low ++ long high))

-- Both values are one scalar, and it stays. No number is taken.
pub record Stays (s : Scalar) (whole text : Tree) (before after : List Number) : Type 0 where
  pub scalar : Scalar
  pub is : s ≡ kept scalar
  pub in_whole : whole ≡ leaf scalar
  pub in_text : text ≡ leaf scalar
  pub none : before ≡ after

-- One value is the int32 0, the other the empty text: here is the next number.
pub record IsNext (s : Scalar) (whole text : Tree) (before after : List Number) : Type 0 where
  pub number : Number
  pub is : s ≡ numeric number
  pub in_whole : whole ≡ leaf (trees.int32 (pos 0))
  pub in_text : text ≡ leaf (trees.text [])
  pub taken : before ≡ number ∷ after

-- The value has numbers where the other two values differ, and is equal to them elsewhere. These are the numbers before and
-- after it.
abbrev mutual
  -- a value
  pub IsFilled : Tree → Tree → Tree → List Number → List Number → Type 0
  IsFilled (leaf s) whole text before after = Stays s whole text before after ⊎ IsNext s whole text before after
  IsFilled (doc fs) whole text before after = (ws : Fields) × (ts : Fields) × (whole ≡ doc ws) × (text ≡ doc ts)
      × AreFilled fs ws ts before after
  IsFilled (array is) whole text before after = (ws : Items) × (ts : Items) × (whole ≡ array ws) × (text ≡ array ts)
      × AreItemsFilled is ws ts before after
  IsFilled (code_scope s fs) whole text before after = (ws : Fields) × (ts : Fields) × (whole ≡ code_scope s ws)
      × (text ≡ code_scope s ts) × AreFilled fs ws ts before after

  -- fields of the same names, one after the other
  pub AreFilled : Fields → Fields → Fields → List Number → List Number → Type 0
  AreFilled no_fields wholes texts before after = (wholes ≡ no_fields) × (texts ≡ no_fields) × (before ≡ after)
  AreFilled (field n x fs) wholes texts before after = (w : Tree) × (t : Tree) × (ws : Fields) × (ts : Fields)
      × (between : List Number) × (wholes ≡ field n w ws) × (texts ≡ field n t ts) × IsFilled x w t before between
      × AreFilled fs ws ts between after

  -- elements of arrays, one after the other
  pub AreItemsFilled : Items → Items → Items → List Number → List Number → Type 0
  AreItemsFilled no_items wholes texts before after = (wholes ≡ no_items) × (texts ≡ no_items) × (before ≡ after)
  AreItemsFilled (item x is) wholes texts before after = (w : Tree) × (t : Tree) × (ws : Items) × (ts : Items)
      × (between : List Number) × (wholes ≡ item w ws) × (texts ≡ item t ts) × IsFilled x w t before between
      × AreItemsFilled is ws ts between after
