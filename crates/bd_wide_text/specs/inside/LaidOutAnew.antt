-- The text from `ryu` for a double, laid out again: used only in proofs.
use Rattle.std.specs.Prelude.{◌≡◌, ◌≢◌, ◌<◌, ◌≤◌, ◌⊎◌, ℕ, ◌+◌, ◌-◌, ◌%◌, ◌^◌, ◌==◌, ◌||◌, Bool, List, [], ◌++◌, length, take, drop}
use Rattle.std.specs.Prelude.{slice_index, nat_le, if◌then◌else◌, codes, decimal, ℤ}
use Rattle.std.specs.Float.Ieee.{Float, nan, inf, fin}
use Rattle.std.specs.Float.{binary64}
use Rattle.fast_float.specs.Text.{Parts, digits_of, text_of, nearest}
use Rattle.ryu.specs.Plain.{IsPlain, IsLaidOut}
use Rattle.bd_wide_text.specs.{Double.AreSignificant, Double.laid_out, Double.nearest_double, Double.padded}
use Rattle.bd_wide_text.specs.{Layout.mantissa, Layout.zeros}

-- The float is a number other than zero.
abbrev pub IsSized : Float → Type 0
IsSized nan = ⊥
IsSized (inf negative) = ⊥
IsSized (fin negative m e) = 1 ≤ m

-- The double with these bits is above 0.0001 and below 1,000,000, or is so without its sign.
abbrev pub IsMiddling : ℕ → Type 0
IsMiddling bits = (0x3F1A_36E2_EB1C_432D < bits % 2 ^ 63) × (bits % 2 ^ 63 < 0x412E_8480_0000_0000)

-- The text is short, has these parts, and has the layout of `ryu`.
pub record AreParts (size : List ℕ) (p : Parts) : Type 0 where
  pub text : size ≡ text_of p
  pub plain : IsPlain p
  pub layout : IsLaidOut 16 4 p
  pub short : length size ≤ 25

-- The digits, the first of which has this power of ten, are the number with these parts.
abbrev pub IsNumberOf : Parts → List ℕ → ℤ → Type 0
IsNumberOf p digits power = (negative : Bool) → nearest_double negative digits power ≡ nearest binary64 negative p

-- The text is the number with these parts, with the layout of bsondump, unless it is zero.
abbrev pub IsLaidOutAnew : Parts → List ℕ → Type 0
IsLaidOutAnew p new = (digits_of p ≡ 0)
    ⊎ ((digits : List ℕ) × (power : ℤ) × AreSignificant digits × IsNumberOf p digits power × (new ≡ laid_out digits power))

-- The digits begin with exactly this many zeros.
pub record AreZerosBefore (digits : List ℕ) (count : ℕ) : Type 0 where
  pub within : count ≤ length digits
  pub zeros_are : take count digits ≡ zeros count
  pub next : count < length digits → slice_index digits count ≢ 48

-- The digits without their trailing zeros are this many.
pub record AreZerosAfter (digits : List ℕ) (count : ℕ) : Type 0 where
  pub some : 0 < count
  pub within : count ≤ length digits
  pub zeros_are : drop count digits ≡ zeros (length digits - count)
  pub last : slice_index digits (count - 1) ≢ 48

-- the layout of a number below 1 that has `count` zeros after the point
abbrev pub small_text : List ℕ → List ℕ → ℕ → List ℕ
small_text size fraction count = if nat_le count 3 || count == length fraction then size
    else mantissa (drop count fraction ++ []) ++ (codes "E-" ++ padded (decimal (count + 1)))

-- the layout of a number of 1 or more, which has `count` whole digits without their trailing zeros
abbrev pub large_text : List ℕ → List ℕ → List ℕ → ℕ → List ℕ
large_text size whole fraction count = if nat_le (length whole) 6 then size
    else (if slice_index fraction (length fraction - 1) == 48
    then mantissa (take count whole ++ []) ++ (codes "E+" ++ padded (decimal (length whole - 1)))
    else mantissa (whole ++ fraction) ++ (codes "E+" ++ padded (decimal (length whole - 1))))
