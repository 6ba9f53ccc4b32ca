-- The decimal128 that a text means: the conversion from a string of the decimal128 specification, which rounds nothing.
use Rattle.std.specs.Prelude.{◌≡◌, ◌<◌, ◌≤◌, ℕ, ◌+◌, ◌-◌, ◌*◌, ◌/◌, ◌%◌, ◌^◌, ◌==◌, ◌&&◌, ◌⊎◌, Bool, List, length, drop, Result, Ok, Err, if◌then◌else◌, slice_index}
use Rattle.std.specs.Float.Numeral.{Parts, scan_numeral, has_digits, numeral_digits, tens_up, tens_down, minus}
use Rattle.std.specs.Float.Parse.{is_infinity_text, is_nan_text, sign_len}
use Rattle.bd_wide_number.specs.Decimal128.{five_bits}
use Rattle.bd_wide_read.specs.declared.fault.TextFault.{TextFault}
use Rattle.bd_wide_read.specs.declared.fault.TextFault.TheVariants.{BadText, OutOfRange}

-- The number digits * 10 ^ (above - below - 6176).
pub record Scaled : Type 0 where
  pub digits : ℕ
  pub above : ℕ
  pub below : ℕ

-- what a numeric-string of the specification is: a number or an infinity with its sign, or NaN
pub data Numeric : Type 0 where
  number : Bool → Scaled → Numeric
  infinity : Bool → Numeric
  not_a_number : Numeric
  none : Numeric

-- the number of a decimal-part with an exponent-part, by its parts
abbrev pub scaled_of : Parts → Scaled
scaled_of p = record {
  digits = numeral_digits p;
  above = tens_up p + 6176 - tens_down p;
  below = tens_down p - (tens_up p + 6176);
}

-- decimal-part with an exponent-part, if it is there, and nothing else
abbrev pub is_numeral : List ℕ → Bool
is_numeral text = has_digits (scan_numeral text) && (scan_numeral text).len == length text

-- a numeric-string without its sign, and whether the sign is a minus
abbrev pub size_of : Bool → List ℕ → Numeric
size_of negative text =
    if is_numeral text then number negative (scaled_of (scan_numeral text))
    else (if is_infinity_text text then infinity negative
    else (if is_nan_text text then not_a_number else none))

-- a numeric-string, or none
abbrev pub numeric_of : List ℕ → Numeric
numeric_of text = size_of (slice_index text 0 == minus) (drop (sign_len text) text)

-- The decimal128 with the coefficient c and the exponent b - 6176 is this number.
pub record IsWorth (n : Scaled) (c b : ℕ) : Type 0 where
  pub digits : c < 10 ^ 34
  pub exponent : b < 12288
  pub value : c * 10 ^ (b + n.below) ≡ n.digits * 10 ^ n.above

-- how far the exponent b - 6176 is from the one of the number
abbrev pub distance : Scaled → ℕ → ℕ
distance n b = (b + n.below - n.above) + (n.above - (b + n.below))

-- Of all decimal128 that are this number it has the nearest exponent.
pub record IsExact (n : Scaled) (c b : ℕ) : Type 0 where
  pub worth : IsWorth n c b
  pub nearest : (other at : ℕ) → IsWorth n other at → distance n b ≤ distance n at

-- the upper half of the bits of a decimal128 (IEEE 754, binary encoding)
abbrev pub high_half : Bool → ℕ → ℕ → ℕ
high_half negative c b = (if negative then 2 ^ 63 else 0) + (b * 2 ^ 49 + c / 2 ^ 64)

-- The bits are a decimal128 in its one form: at most 34 digits, or NaN or an infinity without a payload.
abbrev pub IsCanonical : ℕ → ℕ → Type 0
IsCanonical low high = ((five_bits high < 24) × (high % 2 ^ 49 * 2 ^ 64 + low < 10 ^ 34))
    ⊎ ((low ≡ 0) × ((high ≡ 0x7C00_0000_0000_0000) ⊎ ((high ≡ 0x7800_0000_0000_0000) ⊎ (high ≡ 0xF800_0000_0000_0000))))

-- What a numeric-string is read as: the lower and the upper half of the bits, or a fault.
abbrev pub IsRead : Numeric → Result (ℕ × ℕ) TextFault → Type 0
IsRead (number negative n) (Ok bits) = (c : ℕ) × (b : ℕ) × IsExact n c b
    × (bits.0 ≡ c % 2 ^ 64) × (bits.1 ≡ high_half negative c b)
IsRead (number negative n) (Err OutOfRange) = (c b : ℕ) → IsWorth n c b → ⊥
IsRead (number negative n) (Err BadText) = ⊥
IsRead (infinity negative) r = r ≡ Ok (0, (if negative then 2 ^ 63 else 0) + 0x7800_0000_0000_0000)
IsRead not_a_number r = r ≡ Ok (0, 0x7C00_0000_0000_0000)
IsRead none r = r ≡ Err BadText
