-- The text of a decimal128: to-scientific-string of the decimal128 specification.
use Rattle.std.specs.Prelude.{ℕ, ◌+◌, ◌-◌, ◌^◌, ◌==◌, ◌&&◌, ℤ, pos, negsuc, ◌+ℤ◌, ◌-ℤ◌, neg_ℤ, unsigned_abs, int_le, List, ◌++◌, length, take, drop, nat_lt, nat_le, if◌then◌else◌, codes, decimal}
use Rattle.std.specs.Fmt.{sign_text}
use Rattle.bd_wide_number.specs.Decimal128.{five_bits, coefficient_of, biased_exponent}
use Rattle.bd_wide_text.specs.Layout.{mantissa, zeros}

-- the adjusted exponent: the exponent, plus the count of digits, less 1; it is that of the first digit
abbrev pub adjusted_exponent : List ℕ → ℤ → ℤ
adjusted_exponent digits exponent = exponent +ℤ pos (length digits - 1)

-- `E`, the sign of an exponent and its digits
abbrev pub power_text : ℤ → List ℕ
power_text (pos n) = codes "E+" ++ decimal n
power_text (negsuc k) = codes "E-" ++ decimal (k + 1)

-- the digits with that many of them after a point: zeros are put before them as needed,
-- and a 0 before the point if no digit is there
abbrev pub with_places : List ℕ → ℕ → List ℕ
with_places digits places =
    if nat_lt places (length digits) then take (length digits - places) digits ++ (codes "." ++ drop (length digits - places) digits)
    else codes "0." ++ (zeros (places - length digits) ++ digits)

-- The number with these digits, times 10 ^ exponent. It has no power of ten if the exponent is at most 0
-- and the adjusted exponent at least -6.
unfoldable pub scientific_string : List ℕ → ℤ → List ℕ
scientific_string digits exponent =
    if int_le exponent (pos 0) && int_le (neg_ℤ (pos 6)) (adjusted_exponent digits exponent)
    then (if unsigned_abs exponent == 0 then digits else with_places digits (unsigned_abs exponent))
    else mantissa digits ++ power_text (adjusted_exponent digits exponent)

-- the exponent of a decimal128, from -6176
abbrev pub exponent_of : ℕ → ℤ
exponent_of high = pos (biased_exponent high) -ℤ pos 6176

-- the text of a decimal128 without its sign, by the two halves of its bits; it is not NaN
unfoldable pub decimal128_size : ℕ → ℕ → List ℕ
decimal128_size low high = if five_bits high == 30 then codes "Infinity"
    else scientific_string (decimal (coefficient_of low high)) (exponent_of high)

-- the text of a decimal128, by the two halves of its bits; each NaN is `NaN`, without sign and payload
unfoldable pub decimal128_text : ℕ → ℕ → List ℕ
decimal128_text low high = if five_bits high == 31 then codes "NaN"
    else sign_text (nat_le (2 ^ 63) high) ++ decimal128_size low high
