-- The digits of a decimal128 and its exponent: used only in proofs.
use Rattle.std.specs.Prelude.{◌≡◌, ◌<◌, ◌≤◌, ℕ, ◌-◌, ◌*◌, ◌^◌, min}
use Rattle.bd_wide_read.specs.DecimalText.{Scaled}

-- The number has more than 34 digits, also without the zeros at its end.
abbrev pub HasTooMany : ℕ → Type 0
HasTooMany n = (c k : ℕ) → c < 10 ^ 34 → c * 10 ^ k ≡ n → ⊥

-- At most 34 digits are kept, and zeros are rest out only after 34 digits.
pub record AreKept (number zeros : ℕ) : Type 0 where
  pub few : number < 10 ^ 34
  pub full : 0 < zeros → 10 ^ 33 ≤ number

-- these digits with these powers of ten
abbrev pub scaled : ℕ → ℕ → ℕ → Scaled
scaled digits above below = record { digits = digits; above = above; below = below }

-- The powers of ten are `up` less `down`, or both are beyond all decimal128.
pub record AreApart (above below up down : ℕ) : Type 0 where
  pub over : min above 20000 ≡ min (up - down) 20000
  pub under : min below 20000 ≡ min (down - up) 20000
