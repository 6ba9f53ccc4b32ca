-- Numbers in values.
use Rattle.std.specs.Prelude.{ℕ, List, drop, Option, Some, None}
use Rattle.std.specs.Int.{w32, w64, cast_signed}
use Rattle.bd_value.specs.declared.node.Kind.TheVariants as kinds
use Rattle.bd_bson_view.specs.declared.raw_parts.ElementType.{ElementType}
use Rattle.bd_bson_view.specs.declared.raw_parts.ElementType.TheVariants.{Kept, Double, Decimal128}
use Rattle.bd_bson_view.specs.{Sizes.long_of, Sizes.number_of}
use Rattle.bd_wide_number.specs.declared.number.Number.{Number}
use Rattle.bd_wide_number.specs.declared.number.Number.TheVariants as numbers

-- the number in a value of this type, if it is a numeric one
unfoldable pub number_at : ElementType → List ℕ → Option Number
number_at Double value = Some (numbers.Double (long_of value))
number_at Decimal128 value = Some (numbers.Decimal128 (long_of value) (long_of (drop 8 value)))
number_at (Kept kinds.Int32) value = Some (numbers.Whole (cast_signed w32 (number_of value)))
number_at (Kept kinds.Int64) value = Some (numbers.Whole (cast_signed w64 (long_of value)))
number_at (Kept _) value = None
