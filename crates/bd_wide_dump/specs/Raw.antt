-- Numbers of all types as whole numbers that keep their type and their bits.
use Rattle.std.specs.Prelude.{ℕ, ℤ, pos, ◌+◌, ◌*◌, List, [], ◌∷◌}
use Rattle.bd_bson_view.specs.Spelling.{type_byte}
use Rattle.bd_bson_view.specs.declared.raw_parts.ElementType.{ElementType}
use Rattle.bd_bson_view.specs.declared.raw_parts.ElementType.TheVariants.{Kept, Double, Decimal128}

-- the number that these bytes spell, least byte first
abbrev pub spelled : List ℕ → ℕ
spelled [] = 0
spelled (b ∷ bytes) = b + 256 * spelled bytes

-- BSON 1.1, `element`: the type byte of a type
abbrev pub byte_of : ElementType → ℕ
byte_of Double = 1
byte_of Decimal128 = 19
byte_of (Kept kind) = type_byte kind

-- a number as the bytes that spell it, its type byte first: no two numbers of different types or bits are equal
unfoldable pub raw : ElementType → List ℕ → ℤ
raw type value = pos (spelled (byte_of type ∷ value))
