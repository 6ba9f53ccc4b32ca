-- Numbers (RFC 8259, section 6), by what follows each part.
use Rattle.std.specs.Prelude.{ℕ, ◌==◌, ◌||◌, Bool, true, false, if◌then◌else◌, List, [], ◌∷◌, Option, Some, None, option_and_then}
use Rattle.std.specs.Char.{is_ascii_digit}

-- the bytes without a minus sign at the start
abbrev pub without_minus : List ℕ → List ℕ
without_minus [] = []
without_minus (c ∷ cs) = if c == 45 then cs else c ∷ cs

-- the bytes without a sign at the start
abbrev pub without_sign : List ℕ → List ℕ
without_sign [] = []
without_sign (c ∷ cs) = if c == 45 || c == 43 then cs else c ∷ cs

-- what follows the digits at the start
abbrev pub skip_digits : List ℕ → List ℕ
skip_digits [] = []
skip_digits (c ∷ cs) = if is_ascii_digit c then skip_digits cs else c ∷ cs

-- what follows at least one digit
abbrev pub after_digits : List ℕ → Option (List ℕ)
after_digits [] = None
after_digits (c ∷ cs) = if is_ascii_digit c then Some (skip_digits cs) else None

-- what follows `int`: a zero, or digits of which the first is none
abbrev pub after_int : List ℕ → Option (List ℕ)
after_int [] = None
after_int (c ∷ cs) = if c == 48 then Some cs else after_digits (c ∷ cs)

-- what follows `frac`, if it is there
abbrev pub after_fraction : List ℕ → Option (List ℕ)
after_fraction [] = Some []
after_fraction (c ∷ cs) = if c == 46 then after_digits cs else Some (c ∷ cs)

-- what follows `exp`, if it is there
abbrev pub after_exponent : List ℕ → Option (List ℕ)
after_exponent [] = Some []
after_exponent (c ∷ cs) = if c == 101 || c == 69 then after_digits (without_sign cs) else Some (c ∷ cs)

-- what follows a `number`
abbrev pub after_number : List ℕ → Option (List ℕ)
after_number cs = option_and_then after_exponent (option_and_then after_fraction (after_int (without_minus cs)))

-- whether nothing follows
abbrev pub is_end : Option (List ℕ) → Bool
is_end (Some []) = true
is_end _ = false

-- whether the bytes are a `number`
abbrev pub is_number : List ℕ → Bool
is_number cs = is_end (after_number cs)
