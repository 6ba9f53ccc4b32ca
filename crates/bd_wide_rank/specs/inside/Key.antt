-- Which numbers are keys of doubles, and numbers between two doubles.
use Rattle.std.specs.Prelude.{◌≢◌, ◌<◌, ◌≤◌, ℕ, ◌+◌, ◌^◌, ℤ, ◌<ℤ◌}
use Rattle.bd_wide_number.specs.Value.{infinite_bits}
use Rattle.bd_wide_rank.specs.Key.{key_worth}

-- The number is the key of a double.
pub record IsKey (key : ℕ) : Type 0 where
  pub least : 0 < key → 2 ^ 63 ≤ key + infinite_bits
  pub most : key ≤ 2 ^ 63 + infinite_bits

-- The number with this worth is above one double, which is not NaN, and below another, by their keys.
pub record IsBetween (low high : ℕ) (worth : ℤ) : Type 0 where
  pub some : 0 < low
  pub low_key : IsKey low
  pub high_key : IsKey high
  pub order : low < high
  pub above : key_worth low <ℤ worth
  pub below : worth <ℤ key_worth high

-- No double has this worth.
abbrev pub IsNoDouble : ℤ → Type 0
IsNoDouble worth = (key : ℕ) → IsKey key → key_worth key ≢ worth
