-- The text of a double, with the layout of bsondump and Go's driver.
use Rattle.std.specs.Prelude.{◌≡◌, ◌<◌, ◌≤◌, ℕ, zero, suc, ◌+◌, ◌-◌, ◌*◌, ◌^◌, ◌==◌, Bool, List, ◌++◌, length, take, drop, slice_index, nat_lt, if◌then◌else◌, codes, decimal, ℤ, pos, negsuc}
use Rattle.std.specs.Fmt.{sign_text}
use Rattle.std.specs.Str.Parse.{AllDigits, digits_value}
use Rattle.std.specs.Float.Ieee.{Float, nan, inf, fin, round, of_bits}
use Rattle.std.specs.Float.{binary64}
use Rattle.bd_wide_text.specs.Layout.{mantissa, zeros}

-- The digits begin and end with one that is not 0, and are at most 17, which are enough for each double.
pub record AreSignificant (digits : List ℕ) : Type 0 where
  pub all : AllDigits 10 digits
  pub first : 48 < slice_index digits 0
  pub last : 48 < slice_index digits (length digits - 1)
  pub few : length digits ≤ 17

-- the digits of an exponent, at least two
abbrev pub padded : List ℕ → List ℕ
padded digits = if length digits == 1 then codes "0" ++ digits else digits

-- the digits with a point after the first n, and at least one digit after it
abbrev pub plain : List ℕ → ℕ → List ℕ
plain digits n = if nat_lt n (length digits) then take n digits ++ (codes "." ++ drop n digits)
    else digits ++ (zeros (n - length digits) ++ codes ".0")

-- The layout of a number by its digits and the power of ten of the first digit. Below -4 and above 5 the power
-- is written. `negsuc k` is the power -(k + 1), with k zeros between the point and the digits.
unfoldable pub laid_out : List ℕ → ℤ → List ℕ
laid_out digits (pos e) = if nat_lt 5 e then mantissa digits ++ (codes "E+" ++ padded (decimal e)) else plain digits (e + 1)
laid_out digits (negsuc k) = if nat_lt 3 k then mantissa digits ++ (codes "E-" ++ padded (decimal (k + 1)))
    else codes "0." ++ (zeros k ++ digits)

-- the double that is nearest to the number with these digits; the first digit has that power of ten
unfoldable pub nearest_double : Bool → List ℕ → ℤ → Float
nearest_double negative digits (pos e) = round binary64 negative (digits_value 10 digits * 10 ^ (e + 1)) (10 ^ length digits)
nearest_double negative digits (negsuc k) = round binary64 negative (digits_value 10 digits) (10 ^ (k + length digits))

-- The text is that of the double: digits to which it is the nearest of all doubles,
-- laid out as bsondump does.
unfoldable pub IsTextOf : Float → List ℕ → Type 0
IsTextOf nan text = text ≡ codes "NaN"
IsTextOf (inf negative) text = text ≡ sign_text negative ++ codes "Infinity"
IsTextOf (fin negative zero e) text = text ≡ sign_text negative ++ codes "0.0"
IsTextOf (fin negative (suc m) e) text = (sign : Bool) × (digits : List ℕ) × (power : ℤ) × AreSignificant digits
    × (nearest_double sign digits power ≡ fin negative (suc m) e) × (text ≡ sign_text sign ++ laid_out digits power)

-- The text is that of the double with these 64 bits.
abbrev pub IsDoubleText : ℕ → List ℕ → Type 0
IsDoubleText bits text = IsTextOf (of_bits binary64 bits) text
