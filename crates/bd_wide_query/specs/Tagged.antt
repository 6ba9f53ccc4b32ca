-- A document with doubles and decimal128, from two documents: one has the int32 0 in place of each of them, the other the empty
-- text. In the tagged document each of them is its tag, an int64 beyond all that BSON has.
use Rattle.std.specs.Prelude.{ℕ, zero, suc, ◌+◌, ◌*◌, ◌^◌, ◌/◌, ◌%◌, ℤ, pos, negsuc, Bool, true, false, List, [], ◌∷◌, drop, if◌then◌else◌}
use Rattle.bd_value.specs.Tree.{Scalar, int32, int64, text, Tree, leaf, doc, array, code_scope, Items, item}
use Rattle.bd_value.specs.Tree.{Fields, field, Doc, fields_of, pairs_of}
use Rattle.bd_wide_number.specs.declared.number.Number.{Number}
use Rattle.bd_wide_number.specs.declared.number.Number.TheVariants.{Whole, Double, Decimal128}

-- the tag of a number, by its type and its bits; a whole number is its own tag
abbrev pub tag : Number → ℤ
tag (Whole z) = z
tag (Double bits) = pos (2 ^ 64 + bits)
tag (Decimal128 low high) = pos (2 ^ 64 * (2 + high) + low)

-- the number by what is above its tag's lower 64 bits, and by these
abbrev pub number_of_parts : ℕ → ℕ → Number
number_of_parts zero low = Whole (pos low)
number_of_parts (suc zero) low = Double low
number_of_parts (suc (suc high)) low = Decimal128 low high

-- the number with this tag
abbrev pub tagged_number : ℤ → Number
tagged_number (pos n) = number_of_parts (n / 2 ^ 64) (n % 2 ^ 64)
tagged_number (negsuc n) = Whole (negsuc n)

-- whether the two values are the int32 0 and the empty text: a number is here
abbrev pub is_number : Scalar → Tree → Bool
is_number (int32 (pos zero)) (leaf (text [])) = true
is_number s t = false

-- the next of the numbers, or 0 if there is none
abbrev pub next_number : List Number → Number
next_number [] = Whole (pos 0)
next_number (n ∷ ns) = n

-- How many numbers are in a value, by both documents.
abbrev mutual
  -- how many are in a value
  pub count : Tree → Tree → ℕ
  count (leaf s) t = if is_number s t then 1 else 0
  count (doc ws) (doc ts) = fields_count ws ts
  count (array ws) (array ts) = items_count ws ts
  count (code_scope s ws) (code_scope _ ts) = fields_count ws ts
  count w t = 0

  -- how many are in fields
  pub fields_count : Fields → Fields → ℕ
  fields_count (field _ w ws) (field _ t ts) = count w t + fields_count ws ts
  fields_count ws ts = 0

  -- how many are in the elements of an array
  pub items_count : Items → Items → ℕ
  items_count (item w ws) (item t ts) = count w t + items_count ws ts
  items_count ws ts = 0

-- The value of the first document, with the tag of the next number where it has the int32 0 and the second document the empty
-- text. What the second document has not stays.
abbrev mutual
  -- a value with tags
  pub tagged : List Number → Tree → Tree → Tree
  tagged numbers (leaf s) t = leaf (if is_number s t then int64 (tag (next_number numbers)) else s)
  tagged numbers (doc ws) (doc ts) = doc (tagged_fields numbers ws ts)
  tagged numbers (array ws) (array ts) = array (tagged_items numbers ws ts)
  tagged numbers (code_scope s ws) (code_scope _ ts) = code_scope s (tagged_fields numbers ws ts)
  tagged numbers w t = w

  -- fields with tags
  pub tagged_fields : List Number → Fields → Fields → Fields
  tagged_fields numbers (field n w ws) (field _ t ts) = field n (tagged numbers w t) (tagged_fields (drop (count w t) numbers) ws ts)
  tagged_fields numbers ws ts = ws

  -- the elements of an array with tags
  pub tagged_items : List Number → Items → Items → Items
  tagged_items numbers (item w ws) (item t ts) = item (tagged numbers w t) (tagged_items (drop (count w t) numbers) ws ts)
  tagged_items numbers ws ts = ws

-- a document with tags
abbrev pub tagged_document : List Number → Doc → Doc → Doc
tagged_document numbers wholes texts = pairs_of (tagged_fields numbers (fields_of wholes) (fields_of texts))
