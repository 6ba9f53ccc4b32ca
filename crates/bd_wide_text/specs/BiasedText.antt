-- The text of a decimal128 by its biased exponent, which is 6176 above the exponent: used only in proofs.
use Rattle.std.specs.Prelude.{ℕ, ◌+◌, ◌-◌, ◌==◌, ◌||◌, List, ◌++◌, length, nat_lt, if◌then◌else◌, codes, decimal}
use Rattle.bd_wide_text.specs.Decimal128.{with_places}
use Rattle.bd_wide_text.specs.Layout.{mantissa}

-- the power of ten of the first digit; `sum` is its biased exponent plus the count of digits
abbrev pub biased_power_text : ℕ → List ℕ
biased_power_text sum = if nat_lt sum 6177 then codes "E-" ++ decimal (6177 - sum) else codes "E+" ++ decimal (sum - 6177)

-- the number with these digits, times 10 ^ (biased - 6176)
unfoldable pub biased_string : List ℕ → ℕ → List ℕ
biased_string digits biased =
    let sum = biased + length digits in
    if nat_lt 6176 biased || nat_lt sum 6171
    then mantissa digits ++ biased_power_text sum
    else (if biased == 6176 then digits else with_places digits (6176 - biased))
