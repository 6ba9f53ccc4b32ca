-- The numbers of documents, in order.
use Rattle.std.specs.Prelude.{◌≡◌, ◌≤◌, ◌*◌, ℕ, ℤ, Some, List, [], ◌∷◌, ◌++◌, length, map}
use Rattle.bd_value.specs.Tree.{Scalar, int32, int64, Tree, leaf, doc, array, code_scope, Items, no_items, item}
use Rattle.bd_value.specs.Tree.{Fields, no_fields, field, Doc, fields_of}
use Rattle.bd_bson_view.specs.Spelling.{IsDocumentBy, valued}
use Rattle.bd_bson_view.specs.declared.raw_parts.ElementType.{ElementType}
use Rattle.bd_wide_number.specs.declared.number.Number.{Number}
use Rattle.bd_wide.specs.Numbers.{number_at}

-- an int32 or an int64 alone; nothing for any other scalar, a date and a timestamp too
abbrev pub scalar_numbers : Scalar → List ℤ
scalar_numbers (int32 z) = z ∷ []
scalar_numbers (int64 z) = z ∷ []
scalar_numbers s = []

abbrev mutual
  -- the int32 and int64 numbers in a value, at any level, in order
  pub numbers_of : Tree → List ℤ
  numbers_of (leaf s) = scalar_numbers s
  numbers_of (doc fs) = field_numbers fs
  numbers_of (array ts) = item_numbers ts
  numbers_of (code_scope s fs) = field_numbers fs

  -- the numbers in the elements of an array, in order
  pub item_numbers : Items → List ℤ
  item_numbers no_items = []
  item_numbers (item t ts) = numbers_of t ++ item_numbers ts

  -- the numbers in the fields of a document, in order
  pub field_numbers : Fields → List ℤ
  field_numbers no_fields = []
  field_numbers (field n t fs) = numbers_of t ++ field_numbers fs

-- the numbers in documents, in order
abbrev pub document_numbers : List Doc → List ℤ
document_numbers [] = []
document_numbers (d ∷ ds) = field_numbers (fields_of d) ++ document_numbers ds

-- What the bytes of a number are worth depends only on the number.
abbrev pub IsWorthOf : (Number → ℤ) → (ElementType → List ℕ → ℤ) → Type 0
IsWorthOf worth_of worth = (type : ElementType) (value : List ℕ) (number : Number) → number_at type value ≡ Some number
    → worth type value ≡ worth_of number

-- Whatever a number is worth: of whatever document the bytes are by value, these are the numbers, in order. Each takes six bytes
-- or more.
abbrev pub AreNumbersOf : List ℕ → List Number → Type 0
AreNumbersOf bytes numbers = ((worth_of : Number → ℤ) (worth : ElementType → List ℕ → ℤ) → IsWorthOf worth_of worth → (d : Doc)
    → IsDocumentBy (valued worth) d bytes → map worth_of numbers ≡ field_numbers (fields_of d)) × (6 * length numbers ≤ length bytes)

-- Such numbers were added to others.
abbrev pub AddsNumbers : (List Number → Type 0) → List Number → List Number → Type 0
AddsNumbers Are old new = (numbers : List Number) × Are numbers × (new ≡ old ++ numbers)
