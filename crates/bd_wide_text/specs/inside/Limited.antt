-- Digits that are too many for a double, limited: used only in proofs.
use Rattle.std.specs.Prelude.{◌≡◌, ◌<◌, ◌≤◌, ◌⊎◌, ℕ, ◌+◌, ◌*◌, ◌^◌, ◌==◌, ℤ, Bool, false, List, length, take, slice_index, if◌then◌else◌}
use Rattle.std.specs.Char.{digit_value}
use Rattle.std.specs.Str.Parse.{digits_value}
use Rattle.std.specs.Float.{binary64}
use Rattle.std.specs.Float.Ieee.{Float, round}
use Rattle.fast_float.specs.Text.{Parts, nearest}
use Rattle.bd_wide_text.specs.Double.{AreSignificant, laid_out, nearest_double}

-- More than 17 digits come after this many zeros, and the first of them is not 0.
pub record AreTooMany (digits : List ℕ) (zeros : ℕ) : Type 0 where
  pub long : zeros + 17 < length digits
  pub zeros_are : digits_value 10 (take zeros digits) ≡ 0
  pub first : 0 < digit_value (slice_index digits zeros)

-- None of that many first bytes is a digit other than 0.
abbrev pub HasNone : List ℕ → ℕ → Type 0
HasNone text count = (k : ℕ) → k < count → slice_index text k ≤ 48

-- A text with a point and without a power of ten is so short that its number has at most 17 digits.
abbrev pub IsShort : List ℕ → Type 0
IsShort text = (length text ≤ 18 + (if slice_index text 0 == 45 then 1 else 0)) ⊎ ((count : ℕ) × HasNone text count × (length text ≤ 17 + count))

-- The double is the nearest to a number from `leading` to one more, times 10 ^ up / 10 ^ down.
pub record IsLimitedTo (leading up down : ℕ) (x : Float) : Type 0 where
  pub number : ℕ
  pub from : leading * 10 ^ up ≤ number
  pub to : number ≤ (leading + 1) * 10 ^ up
  pub nearest : round binary64 false number (10 ^ down) ≡ x

-- The digits are limited to 17 of them.
pub record IsLimited (p : Parts) (leading up down : ℕ) : Type 0 where
  pub digits : (10 ^ 16 ≤ leading) × (leading < 10 ^ 17)
  pub powers : (up < 10 ^ 8) × (down < 10 ^ 8)
  pub limited : IsLimitedTo leading up down (nearest binary64 false p)

-- The text is that of n * 10 ^ up / 10 ^ down.
abbrev pub IsLaidOutAs : ℕ → ℕ → ℕ → List ℕ → Type 0
IsLaidOutAs n up down new = (digits : List ℕ) × (power : ℤ) × AreSignificant digits
    × ((s : Bool) → nearest_double s digits power ≡ round binary64 s (n * 10 ^ up) (10 ^ down)) × (new ≡ laid_out digits power)
