-- How the digits of a number are laid out.
use Rattle.std.specs.Prelude.{◌≡◌, ℕ, List, [], ◌++◌, length, take, drop, replicate, nat_lt, if◌then◌else◌, codes}

-- the first digit, and if there are others, a point and the others
abbrev pub mantissa : List ℕ → List ℕ
mantissa digits = take 1 digits ++ (if nat_lt 1 (length digits) then codes "." ++ drop 1 digits else [])

-- n digits 0
abbrev pub zeros : ℕ → List ℕ
zeros n = replicate n 48

-- Bytes with this property were appended.
abbrev pub Adds : (List ℕ → Type 0) → List ℕ → List ℕ → Type 0
Adds Is before after = (new : List ℕ) × Is new × (after ≡ before ++ new)
