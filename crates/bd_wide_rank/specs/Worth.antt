-- The worth of a number: a whole number, and the worths of numbers are in the order of the numbers.
use Rattle.std.specs.Prelude.{ℕ, ◌+◌, ◌^◌, List, Option, Some, None, ℤ, pos, neg_ℤ}
use Rattle.bd_bson_view.specs.declared.raw_parts.ElementType.{ElementType}
use Rattle.bd_wide_number.specs.Value.{Value, nan, infinite, finite, signed, value_of}
use Rattle.bd_wide_number.specs.declared.number.Number.{Number}
use Rattle.bd_wide.specs.Numbers.{number_at}

-- more units of 10 ^ -6176 than any finite number of BSON has
unfoldable pub beyond : ℕ
beyond = 10 ^ 40000

-- The worth of a value. Of a finite one it is the value itself in units of the least decimal128, 10 ^ -6176, of which each double
-- and each decimal128 is a whole number. An infinity is beyond all finite ones, and NaN is least.
abbrev pub value_worth : Value → ℤ
value_worth nan = neg_ℤ (pos (beyond + 1))
value_worth (infinite negative) = signed negative beyond
value_worth (finite negative size) = signed negative size

-- the worth of a number
abbrev pub worth_of : Number → ℤ
worth_of number = value_worth (value_of number)

-- the worth of a number, if there is one; otherwise 0
abbrev pub worth_if : Option Number → ℤ
worth_if None = pos 0
worth_if (Some number) = worth_of number

-- the worth of an int32, int64, double or decimal128, by its type and the bytes of its value; 0 of other values
abbrev pub worth : ElementType → List ℕ → ℤ
worth type value = worth_if (number_at type value)
