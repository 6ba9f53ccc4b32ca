-- Numbers as an odd number times a power of two: used only in proofs.
use Rattle.std.specs.Prelude.{◌≡◌, ◌≢◌, ◌<◌, ◌≤◌, ℕ, ◌+◌, ◌*◌, ◌%◌, ◌^◌}
use Rattle.bd_wide_number.specs.declared.odd.Odd.{Odd}

-- 5 ^ 6176
unfoldable pub fives : ℕ
fives = 5 ^ 6176

-- The number is this odd number times a power of two, which is at least `start` and less than 128 above it.
pub record IsOddOf (number start : ℕ) (o : Odd) : Type 0 where
  pub odd : o.odd % 2 ≡ 1
  pub is : o.odd * 2 ^ o.twos ≡ number
  pub from : start ≤ o.twos
  pub near : o.twos < start + 128

-- No number of 64 bits times a power of two is this number.
abbrev pub IsWide : ℕ → Type 0
IsWide number = (m j : ℕ) → m < 2 ^ 64 → m * 2 ^ j ≢ number
