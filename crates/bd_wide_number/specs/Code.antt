-- The code of a number: the bits of the double that equals it, if any.
use Rattle.std.specs.Prelude.{ℕ, zero, suc, ◌+◌, ◌/◌, ◌%◌, ◌^◌, ◌==◌, nat_lt, if◌then◌else◌}
use Rattle.std.specs.Prelude.{Option, Some, None, option_map, Bool, ℤ, pos, neg_ℤ}
use Rattle.bd_wide_number.specs.Value.{Value, nan, infinite, finite, least_double, infinite_bits, signed}

-- The 63 bits, without the sign, of the double that is n times the least double; None if there is none. Up to
-- 53 bits they are n; twice the double has 2 ^ 52 more. `exponents` is how many exponents there are.
unfoldable pub bits_of : ℕ → ℕ → Option ℕ
bits_of zero n = None
bits_of (suc exponents) n = if nat_lt n (2 ^ 53) then Some n else (
    if n % 2 == 0 then option_map (λ b. 2 ^ 52 + b) (bits_of exponents (n / 2)) else None)

-- the bits of the double that equals that many units, as a number with the sign; None if no double equals it
unfoldable pub double_part : Bool → ℕ → Option ℤ
double_part negative size = if size % least_double == 0
    then option_map (signed negative) (bits_of 2046 (size / least_double)) else None

-- the code of a value by the double that equals it, or None:
-- the double's 63 bits without the sign, negated if it is negative; -2 ^ 63 for NaN
unfoldable pub double_code : Value → Option ℤ
double_code nan = Some (neg_ℤ (pos (2 ^ 63)))
double_code (infinite negative) = Some (signed negative infinite_bits)
double_code (finite negative size) = double_part negative size
