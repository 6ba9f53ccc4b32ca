-- The parts of a decimal128 (IEEE 754, binary encoding), by the halves of its 128 bits,
-- of which the first is the sign.
use Rattle.std.specs.Prelude.{ℕ, ◌+◌, ◌*◌, ◌/◌, ◌%◌, ◌^◌, ◌||◌, nat_le, if◌then◌else◌}

-- the five bits of a decimal128 after its sign:
-- 31 for NaN, 30 for an infinity (IEEE 754, decimal128 in binary encoding)
abbrev pub five_bits : ℕ → ℕ
five_bits high = high / 2 ^ 58 % 32

-- the coefficient of a decimal128, below 10 ^ 34; an encoded 10 ^ 34 or more counts as 0
abbrev pub coefficient_of : ℕ → ℕ → ℕ
coefficient_of low high = let all = high % 2 ^ 49 * 2 ^ 64 + low in
    if nat_le 24 (five_bits high) || nat_le (10 ^ 34) all then 0 else all

-- the exponent of ten of a decimal128, plus 6176: from 0 to 2 ^ 14 - 1
abbrev pub biased_exponent : ℕ → ℕ
biased_exponent high =
    (if nat_le 24 (five_bits high) then high / 2 ^ 47 else high / 2 ^ 49) % 2 ^ 14
