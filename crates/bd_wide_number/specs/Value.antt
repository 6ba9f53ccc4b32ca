-- The values of numbers, and their order.
use Rattle.std.specs.Prelude.{◌≡◌, ◌<◌, ℕ, zero, suc, ◌+◌, ◌*◌, ◌/◌, ◌%◌, ◌^◌, ◌==◌, nat_lt, nat_le, if◌then◌else◌}
use Rattle.std.specs.Prelude.{Bool, ℤ, pos, neg_ℤ, ◌<ℤ◌, unsigned_abs, int_lt}
use Rattle.bd_wide_number.specs.declared.number.Number.{Number}
use Rattle.bd_wide_number.specs.declared.number.Number.TheVariants as numbers
use Rattle.bd_wide_number.specs.Decimal128.{five_bits, coefficient_of, biased_exponent}

-- The value of a number: NaN, an infinity, or finite: whether it is negative, and its size in units of the
-- least decimal128, 10 ^ -6176. Each double and each whole number is a whole number of units.
pub data Value : Type 0 where
  nan : Value
  infinite : Bool → Value
  finite : Bool → ℕ → Value

-- how many units make 1
unfoldable pub one : ℕ
one = 10 ^ 6176

-- how many units make the least double, 2 ^ -1074
unfoldable pub least_double : ℕ
least_double = 2 ^ 5102 * 5 ^ 6176

-- ---- doubles (IEEE 754, binary64)

-- the size of a double by its exponent and its fraction, in units of the least double;
-- with exponent 0 it is subnormal
abbrev pub spelled : ℕ → ℕ → ℕ
spelled zero fraction = fraction
spelled (suc exponent) fraction = (2 ^ 52 + fraction) * 2 ^ exponent

-- the size of a double in units of the least double, by its 63 bits without the sign:
-- 11 of the exponent, then 52 of the fraction
unfoldable pub magnitude : ℕ → ℕ
magnitude bits = spelled (bits / 2 ^ 52) (bits % 2 ^ 52)

-- the 63 bits of an infinity, without the sign; those of finite doubles are below, those of NaN above
abbrev pub infinite_bits : ℕ
infinite_bits = 2047 * 2 ^ 52

-- whether the first of 64 bits, the sign, is set
abbrev pub has_sign : ℕ → Bool
has_sign bits = nat_le (2 ^ 63) bits

-- the value of a double, by its 64 bits (IEEE 754, binary64); any NaN is `nan`
unfoldable pub double_value : ℕ → Value
double_value bits = let size = bits % 2 ^ 63 in
    if nat_lt infinite_bits size then nan else (
    if size == infinite_bits then infinite (has_sign bits)
    else finite (has_sign bits) (magnitude size * least_double))

-- ---- the other kinds

-- the value of an int32 or an int64
unfoldable pub whole_value : ℤ → Value
whole_value z = finite (int_lt z (pos 0)) (unsigned_abs z * one)

-- the value of a decimal128, by the halves of its 128 bits; any NaN is `nan`
unfoldable pub decimal128_value : ℕ → ℕ → Value
decimal128_value low high = if five_bits high == 31 then nan else (
    if five_bits high == 30 then infinite (has_sign high)
    else finite (has_sign high) (coefficient_of low high * 10 ^ biased_exponent high))

-- the value of a number in memory
unfoldable pub value_of : Number → Value
value_of (numbers.Whole z) = whole_value z
value_of (numbers.Double bits) = double_value bits
value_of (numbers.Decimal128 low high) = decimal128_value low high

-- ---- the order: NaN comes first, and is equal to itself; -0 is equal to 0

-- a size with its sign, as a whole number; 0 has none
abbrev pub signed : Bool → ℕ → ℤ
signed negative n = if negative then neg_ℤ (pos n) else pos n

-- the rank of a value by its kind: NaN below -Infinity, then all finite values, then Infinity
abbrev pub rank : Value → ℕ
rank nan = 0
rank (infinite negative) = if negative then 1 else 3
rank (finite negative size) = 2

-- One value comes before another: NaN first, then by size and sign.
abbrev pub IsLess : Value → Value → Type 0
IsLess (finite m a) (finite n b) = signed m a <ℤ signed n b
IsLess a b = rank a < rank b

-- Two values are equal: -0 equals 0, and NaN equals NaN.
abbrev pub IsEqual : Value → Value → Type 0
IsEqual (finite m a) (finite n b) = signed m a ≡ signed n b
IsEqual a b = rank a ≡ rank b
