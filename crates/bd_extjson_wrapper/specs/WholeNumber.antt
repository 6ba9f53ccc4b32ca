-- Whole numbers as text.
use Rattle.std.specs.Prelude.{ℕ, ◌^◌, ℤ, pos, negsuc, neg_ℤ, List, [], ◌∷◌, length, Bool, false, ◌==◌, ◌&&◌, nat_lt}
use Rattle.std.specs.Prelude.{if◌then◌else◌, Option, Some, None, option_map, option_and_then}
use Rattle.std.specs.{Char.is_ascii_digit, Str.all_ascii_digits, Str.Parse.digits_value}

-- whether the text begins with a digit that is not a zero before others
abbrev pub begins_digits : List ℕ → Bool
begins_digits [] = false
begins_digits (c ∷ cs) = if c == 48 then length cs == 0 else is_ascii_digit c

-- RFC 8259, section 6, `int`: at least one digit, nothing else, and no zero before others
abbrev pub are_digits : List ℕ → Bool
are_digits ds = begins_digits ds && all_ascii_digits ds

-- the number that such digits write, however great; None for any other text
abbrev pub digits_number : List ℕ → Option ℕ
digits_number ds = if are_digits ds then Some (digits_value 10 ds) else None

-- the number that a text of the form -?(0|[1-9][0-9]*) writes
unfoldable pub whole : List ℕ → Option ℤ
whole [] = None
whole (c ∷ cs) =
    if c == 45 then option_map (λ n. neg_ℤ (pos n)) (digits_number cs)
    else option_map (λ n. pos n) (digits_number (c ∷ cs))

-- whether z is within the signed type of k + 1 bits: from -2^k to 2^k - 1
abbrev pub fits_bits : ℕ → ℤ → Bool
fits_bits k (pos n) = nat_lt n (2 ^ k)
fits_bits k (negsuc n) = nat_lt n (2 ^ k)

-- the number, if it is within the signed type of k + 1 bits
abbrev pub if_fits : ℕ → ℤ → Option ℤ
if_fits k z = if fits_bits k z then Some z else None

-- the int64 that a text writes in decimal; None if it is no such text or out of range
abbrev pub whole_64 : List ℕ → Option ℤ
whole_64 s = option_and_then (if_fits 63) (whole s)

-- the int32 that a text writes in decimal; None if it is no such text or out of range
abbrev pub whole_32 : List ℕ → Option ℤ
whole_32 s = option_and_then (if_fits 31) (whole s)

-- the text without the minus sign at its start, if it has one
abbrev pub unsigned : List ℕ → List ℕ
unsigned [] = []
unsigned (c ∷ cs) = if c == 45 then cs else c ∷ cs
