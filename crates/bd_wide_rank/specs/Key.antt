-- The keys of doubles: natural numbers in the order of the doubles.
use Rattle.std.specs.Prelude.{ℕ, ◌-◌, ◌^◌, ◌==◌, nat_lt, ℤ, List, map, if◌then◌else◌}
use Rattle.bd_wide_number.specs.Value.{double_value}
use Rattle.bd_wide_rank.specs.Worth.{value_worth}

-- the 64 bits of the double with a key: 0 is the key of NaN, and 2 ^ 63 that of 0; from it, other keys are as far as the double's
-- 63 bits without the sign: below for a negative one, above for a positive one
abbrev pub key_bits : ℕ → ℕ
key_bits key = if nat_lt key (2 ^ 63) then (if key == 0 then 2 ^ 63 - 1 else 2 ^ 64 - key) else key - 2 ^ 63

-- the worth of the double with a key
unfoldable pub key_worth : ℕ → ℤ
key_worth key = value_worth (double_value (key_bits key))

-- the worths of doubles, by their keys
abbrev pub key_worths : List ℕ → List ℤ
key_worths keys = map key_worth keys
