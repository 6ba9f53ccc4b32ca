-- The numbers in bytes, by sizes alone: those of the elements that can be read, from left to right.
use Rattle.std.specs.Prelude.{◌≡◌, ℕ, zero, suc, ◌-◌, List, [], ◌∷◌, ◌++◌, length, take, drop, Option, Some, None}
use Rattle.bd_bson_view.specs.declared.raw_parts.ElementType.{ElementType}
use Rattle.bd_bson_view.specs.declared.raw_parts.Holder.{Holder}
use Rattle.bd_bson_view.specs.declared.raw_parts.Holder.TheVariants as holders
use Rattle.bd_wide.specs.declared.element.Part.{Part}
use Rattle.bd_wide.specs.declared.element.Part.TheVariants as parts
use Rattle.bd_wide.specs.Rewritten.{first_element, part_of, scope_at}
use Rattle.bd_wide_number.specs.declared.number.Number.{Number}
use Rattle.bd_wide.specs.Numbers.{number_at}

-- the bytes of the elements of a document or an array
abbrev pub body_of : List ℕ → List ℕ
body_of value = take (length value - 5) (drop 4 value)

-- the bytes of the elements in the scope of code with scope; none if the scope does not end where the value does
abbrev pub scope_body : List ℕ → Option ℕ → List ℕ
scope_body value None = []
scope_body value (Some at) = body_of (drop at value)

-- the bytes of the elements in a value that contains values
unfoldable pub inside : Holder → List ℕ → List ℕ
inside holders.Document value = body_of value
inside holders.Array value = body_of value
inside holders.CodeScope value = scope_body value (scope_at value)

-- a number alone, if there is one
abbrev pub listed : Option Number → List Number
listed None = []
listed (Some number) = number ∷ []

-- the numbers in a value, by the part of it that is examined
abbrev pub part_numbers : (List ℕ → List Number) → Option Part → ElementType → List ℕ → List Number
part_numbers nested None type value = []
part_numbers nested (Some parts.Number) type value = listed (number_at type value)
part_numbers nested (Some (parts.Values holder)) type value = nested (inside holder value)

-- the numbers of the first element, and those after it
abbrev pub next_numbers : (List ℕ → List Number) → (List ℕ → List Number) → List ℕ → Option (ElementType × ℕ × ℕ) → List Number
next_numbers nested after bytes None = []
next_numbers nested after bytes (Some x) = let rest = drop x.1 bytes in
    part_numbers nested (part_of x.0) x.0 (take x.2 rest) ++ after (drop x.2 rest)

-- The numbers of elements. The number bounds the steps: the count of the bytes is always enough.
unfoldable pub element_numbers : (List ℕ → List Number) → ℕ → List ℕ → List Number
element_numbers nested zero bytes = []
element_numbers nested (suc n) bytes = next_numbers nested (element_numbers nested n) bytes (first_element bytes)

-- the numbers of elements that nest at most that many levels
unfoldable pub level_numbers : ℕ → List ℕ → List Number
level_numbers zero bytes = []
level_numbers (suc levels) bytes = element_numbers (level_numbers levels) (length bytes) bytes

-- the numbers of the document that all of the bytes are, at level 1 of 200
unfoldable pub collected : List ℕ → List Number
collected bytes = level_numbers 200 (inside holders.Document bytes)

-- the least number of bytes of a document, an array and code with scope
unfoldable pub holder_least : Holder → ℕ
holder_least holders.Document = 5
holder_least holders.Array = 5
holder_least holders.CodeScope = 14

-- The numbers are others, and maybe more after them.
abbrev pub Extends : List Number → List Number → Type 0
Extends old new = (more : List Number) × (new ≡ old ++ more)
