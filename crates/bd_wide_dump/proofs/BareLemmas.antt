-- Texts of numbers and dates: no byte of them has a meaning of its own in JSON, but for the colons of a date, which is in a string.
use Rattle.std.proofs.Common.{◌≡◌, ℕ, zero, suc, ◌+◌, ◌-◌, ◌/◌, ◌%◌, ◌==◌, ◌<◌, ◌≤◌, Bool, true, false, List, [], ◌∷◌, ◌++◌, ◌^◌, append_assoc, length, take, drop, refl, sym, ap, ◌∙◌, subst, arith, ℤ, pos, negsuc}
use Rattle.std.specs.Float.{Ieee.of_bits, binary64}
use Rattle.std.specs.Prelude.{if◌then◌else◌, nat_lt, nat_le, unsigned_abs, int_le, neg_ℤ, ◌&&◌, ◌||◌, codes, decimal}
use Rattle.std.specs.{List.list_any, Fmt.digit_glyph, Fmt.digits, Fmt.digits_onto, Fmt.signed_decimal, Fmt.sign_text, Str.Parse.AllDigits}
use Rattle.std.proofs.lemmas.Bool.{or_parts, or_from, lt-ltb, ne_eqb, le-ltb}
use Rattle.std.proofs.lemmas.List.Folds.{list_any-append}
use Rattle.std.proofs.lemmas.List.{take-append-drop, length-append}
use Rattle.std.proofs.lemmas.Str.Parse.{digit_from_value}
use Rattle.bd_extjson_text.specs.Text.{needs_escape, escape_byte, quoted, wrapper_text}
use Rattle.bd_extjson_text.proofs.JsonStringLemmas.{escaped-plain}
use Rattle.bd_wide_number.specs.Decimal128.{five_bits, coefficient_of}
use Rattle.jiff_core.specs.declared.civil.date.Date.{Date}
use Rattle.jiff_core.specs.Calendar.{IsYear}
use Rattle.jiff_core.proofs.SignedLemmas.{signed_arith}
use Rattle.jiff_core.proofs.CalendarLemmas.{days_in_month_bounds}
use Rattle.bd_wide_dump.specs.RelaxedDate.{day_text, two, four, fraction_text, seconds_text, time_text, instant_text, dated_text}
use Rattle.bd_wide_text.specs.Decimal128.{adjusted_exponent, decimal128_size, decimal128_text, exponent_of, power_text, scientific_string}
use Rattle.bd_wide_text.specs.Double.{IsDoubleText, IsTextOf, laid_out, padded, plain}
use Rattle.bd_wide_text.specs.Layout.{mantissa, zeros}
use lib.Ieee.{Float, nan, inf, fin}
use Rattle.bd_wide_dump.specs.Pretty.{opens, closes}
use Rattle.bd_wide_dump.proofs.WholeLemmas.{is_special, IsBare}

-- No byte of the text has a meaning of its own.
abbrev Unbroken : List ℕ → Type 0
Unbroken text = list_any is_special text ≡ false

both : (xs ys : List ℕ) → Unbroken xs → Unbroken ys → Unbroken (xs ++ ys)
both xs ys h k = list_any-append is_special xs ys ∙ or_from (list_any is_special xs) (list_any is_special ys) h k

parts : (n : ℕ) (xs : List ℕ) → Unbroken xs → Unbroken (take n xs) × Unbroken (drop n xs)
parts n xs h = or_parts (list_any is_special (take n xs)) (list_any is_special (drop n xs)) (sym (list_any-append is_special (take n xs) (drop n xs)) ∙ ap (list_any is_special) (take-append-drop n xs) ∙ h)

either : (b : Bool) (xs ys : List ℕ) → Unbroken xs → Unbroken ys → Unbroken (if b then xs else ys)
either true xs ys h k = h
either false xs ys h k = k

-- ---- digits

digit_bare : (b : ℕ) → 48 ≤ b → b ≤ 57 → is_special b ≡ false
digit_bare b low high =
    rw (
      ne_eqb b 91 (λ e. omega arith),
      ne_eqb b 123 (λ e. omega arith),
      ne_eqb b 93 (λ e. omega arith),
      ne_eqb b 125 (λ e. omega arith),
      ne_eqb b 44 (λ e. omega arith),
      ne_eqb b 58 (λ e. omega arith),
      ne_eqb b 34 (λ e. omega arith),
      ne_eqb b 92 (λ e. omega arith),
      le-ltb b 32 (omega arith),
    ) refl

digits_bare : (ds : List ℕ) → AllDigits 10 ds → Unbroken ds
digits_bare [] h = refl
digits_bare (d ∷ ds) h = let inside = digit_from_value d h.0 in or_from (is_special d) (list_any is_special ds) (digit_bare d (omega (arith, inside)) (omega (arith, inside))) (digits_bare ds h.1)

glyph_bare : (d : ℕ) → d < 10 → is_special (digit_glyph false d) ≡ false
glyph_bare d lt = ap (λ b. is_special (if b then 48 + d else 87 + d)) (lt-ltb d 10 lt) ∙ digit_bare (48 + d) (omega arith) (omega arith)

onto_bare : (k n : ℕ) (acc : List ℕ) → Unbroken acc → Unbroken (digits_onto k 10 false n acc)
onto_bare zero n acc h = h
onto_bare (suc k) n acc h =
    let more : Unbroken (digit_glyph false (n % 10) ∷ acc) = or_from (is_special (digit_glyph false (n % 10))) (list_any is_special acc) (glyph_bare (n % 10) (omega arith)) h in
    either (n / 10 == 0) (digit_glyph false (n % 10) ∷ acc) (digits_onto k 10 false (n / 10) (digit_glyph false (n % 10) ∷ acc)) more (onto_bare k (n / 10) (digit_glyph false (n % 10) ∷ acc) more)

onto_long : (k n : ℕ) (acc : List ℕ) → 0 < length acc → 0 < length (digits_onto k 10 false n acc)
onto_long zero n acc h = h
onto_long (suc k) n acc h =
    elim (n / 10 == 0) as (λ b. 0 < length (if b then digit_glyph false (n % 10) ∷ acc else digits_onto k 10 false (n / 10) (digit_glyph false (n % 10) ∷ acc))) [
      | true ↦ omega arith
      | false ↦ onto_long k (n / 10) (digit_glyph false (n % 10) ∷ acc) (omega arith)
    ]

decimal_unbroken : (n : ℕ) → Unbroken (decimal n)
unfolding digits
decimal_unbroken n = onto_bare 64 n [] refl

pub decimal_bare : (n : ℕ) → IsBare (decimal n)
unfolding digits
decimal_bare n = (
  elim (n / 10 == 0) as (λ b. 0 < length (if b then digit_glyph false (n % 10) ∷ [] else digits_onto 63 10 false (n / 10) (digit_glyph false (n % 10) ∷ []))) [
    | true ↦ omega arith
    | false ↦ onto_long 63 (n / 10) (digit_glyph false (n % 10) ∷ []) (omega arith)
  ],
  onto_bare 64 n [] refl,
)

pub signed_bare : (z : ℤ) → IsBare (signed_decimal z)
signed_bare (pos n) = decimal_bare n
signed_bare (negsuc n) = (omega arith, decimal_unbroken (suc n))

sign_bare : (b : Bool) → Unbroken (sign_text b)
sign_bare true = refl
sign_bare false = refl

zeros_bare : (n : ℕ) → Unbroken (zeros n)
zeros_bare zero = refl
zeros_bare (suc n) = zeros_bare n

mantissa_bare : (ds : List ℕ) → Unbroken ds → Unbroken (mantissa ds)
mantissa_bare ds h = let p = parts 1 ds h in both (take 1 ds) _ p.0 (either (nat_lt 1 (length ds)) (codes "." ++ drop 1 ds) [] p.1 refl)

-- ---- doubles

padded_bare : (ds : List ℕ) → Unbroken ds → Unbroken (padded ds)
padded_bare ds h = either (length ds == 1) (codes "0" ++ ds) ds h h

plain_bare : (ds : List ℕ) (n : ℕ) → Unbroken ds → Unbroken (plain ds n)
plain_bare ds n h =
    let p = parts n ds h in
    either (nat_lt n (length ds)) (take n ds ++ (codes "." ++ drop n ds)) (ds ++ (zeros (n - length ds) ++ codes ".0"))
    (both (take n ds) (codes "." ++ drop n ds) p.0 p.1) (both ds (zeros (n - length ds) ++ codes ".0") h (both (zeros (n - length ds)) (codes ".0") (zeros_bare (n - length ds)) refl))

laid_bare : (ds : List ℕ) (power : ℤ) → Unbroken ds → Unbroken (laid_out ds power)
unfolding laid_out
laid_bare ds (pos e) h = either (nat_lt 5 e) (mantissa ds ++ (codes "E+" ++ padded (decimal e))) (plain ds (e + 1))
    (both (mantissa ds) (codes "E+" ++ padded (decimal e)) (mantissa_bare ds h) (padded_bare (decimal e) (decimal_unbroken e))) (plain_bare ds (e + 1) h)
laid_bare ds (negsuc k) h = either (nat_lt 3 k) (mantissa ds ++ (codes "E-" ++ padded (decimal (k + 1)))) (codes "0." ++ (zeros k ++ ds))
    (both (mantissa ds) (codes "E-" ++ padded (decimal (k + 1))) (mantissa_bare ds h) (padded_bare (decimal (k + 1)) (decimal_unbroken (k + 1)))) (both (zeros k) ds (zeros_bare k) h)

some_after : (xs ys : List ℕ) → 0 < length ys → 0 < length (xs ++ ys)
some_after xs ys some = omega (arith, length-append xs ys)

long_either : (b : Bool) (xs ys : List ℕ) → 0 < length xs → 0 < length ys → 0 < length (if b then xs else ys)
long_either true xs ys h k = h
long_either false xs ys h k = k

laid_long : (ds : List ℕ) (power : ℤ) → 0 < length (laid_out ds power)
unfolding laid_out
laid_long ds (pos e) = long_either (nat_lt 5 e) (mantissa ds ++ (codes "E+" ++ padded (decimal e))) (plain ds (e + 1)) (some_after (mantissa ds) (codes "E+" ++ padded (decimal e)) (omega arith))
    (long_either (nat_lt (e + 1) (length ds)) (take (e + 1) ds ++ (codes "." ++ drop (e + 1) ds)) (ds ++ (zeros (e + 1 - length ds) ++ codes ".0"))
    (some_after (take (e + 1) ds) (codes "." ++ drop (e + 1) ds) (omega arith)) (some_after ds (zeros (e + 1 - length ds) ++ codes ".0") (some_after (zeros (e + 1 - length ds)) (codes ".0") (omega arith))))
laid_long ds (negsuc k) = long_either (nat_lt 3 k) (mantissa ds ++ (codes "E-" ++ padded (decimal (k + 1)))) (codes "0." ++ (zeros k ++ ds))
    (some_after (mantissa ds) (codes "E-" ++ padded (decimal (k + 1))) (omega arith)) (omega arith)

double_is : (x : Float) (text : List ℕ) → IsTextOf x text → IsBare text
unfolding IsTextOf
double_is nan text is = subst IsBare (sym is) (omega arith, refl)
double_is (inf s) text is = subst IsBare (sym is) (some_after (sign_text s) (codes "Infinity") (omega arith), both (sign_text s) (codes "Infinity") (sign_bare s) refl)
double_is (fin s zero e) text is = subst IsBare (sym is) (some_after (sign_text s) (codes "0.0") (omega arith), both (sign_text s) (codes "0.0") (sign_bare s) refl)
double_is (fin s (suc m) e) text is =
    subst IsBare (sym is.5) (some_after (sign_text is.0) (laid_out is.1 is.2) (laid_long is.1 is.2), both (sign_text is.0) (laid_out is.1 is.2) (sign_bare is.0) (laid_bare is.1 is.2 (digits_bare is.1 is.3.all)))

pub double_bare : (bits : ℕ) (text : List ℕ) → IsDoubleText bits text → IsBare text
double_bare bits text is = double_is (of_bits binary64 bits) text is

-- ---- decimal128

power_bare : (power : ℤ) → Unbroken (power_text power)
power_bare (pos n) = decimal_unbroken n
power_bare (negsuc k) = decimal_unbroken (k + 1)

scientific_bare : (ds : List ℕ) (exponent : ℤ) → Unbroken ds → Unbroken (scientific_string ds exponent)
unfolding scientific_string
scientific_bare ds exponent h =
    let power = adjusted_exponent ds exponent in
    let count = unsigned_abs exponent in
    let p = parts (length ds - count) ds h in
    either (int_le exponent (pos 0) && int_le (neg_ℤ (pos 6)) power) _ (mantissa ds ++ power_text power)
    (either (count == 0) ds _ h
    (either (nat_lt count (length ds)) (take (length ds - count) ds ++ (codes "." ++ drop (length ds - count) ds)) (codes "0." ++ (zeros (count - length ds) ++ ds))
    (both (take (length ds - count) ds) (codes "." ++ drop (length ds - count) ds) p.0 p.1) (both (zeros (count - length ds)) ds (zeros_bare (count - length ds)) h)))
    (both (mantissa ds) (power_text power) (mantissa_bare ds h) (power_bare power))

size_bare : (low high : ℕ) → Unbroken (decimal128_size low high)
unfolding decimal128_size
size_bare low high = either (five_bits high == 30) (codes "Infinity") _ refl (scientific_bare (decimal (coefficient_of low high)) (exponent_of high) (decimal_unbroken (coefficient_of low high)))

decimal128_bare : (low high : ℕ) → Unbroken (decimal128_text low high)
unfolding decimal128_text
decimal128_bare low high = either (five_bits high == 31) (codes "NaN") (sign_text (nat_le (2 ^ 63) high) ++ decimal128_size low high) refl
    (both (sign_text (nat_le (2 ^ 63) high)) (decimal128_size low high) (sign_bare (nat_le (2 ^ 63) high)) (size_bare low high))

-- ---- in strings

-- a byte that has no meaning of its own needs no escape
pub unescaped : (xs : List ℕ) → Unbroken xs → list_any needs_escape xs ≡ false
unescaped [] h = refl
unescaped (b ∷ bs) h =
    let p = or_parts (is_special b) (list_any is_special bs) h in
    let q = or_parts (opens b) (closes b || (b == 44 || (b == 58 || needs_escape b))) p.0 in
    let r = or_parts (closes b) (b == 44 || (b == 58 || needs_escape b)) q.1 in
    let s = or_parts (b == 44) (b == 58 || needs_escape b) r.1 in
    or_from (needs_escape b) (list_any needs_escape bs) (or_parts (b == 58) (needs_escape b) s.1).1 (unescaped bs p.1)

-- a text of this kind in the wrapper that holds it as a string
pub double_wrapped : (text : List ℕ) → Unbroken text → codes "{\"$numberDouble\":\"" ++ (text ++ codes "\"}") ≡ wrapper_text (codes "$numberDouble") (quoted text)
unfolding quoted escape_byte
double_wrapped text h = simp (append_assoc, escaped-plain text (unescaped text h))

pub double_quoted : (text : List ℕ) → Unbroken text → quoted (codes "$numberDouble") ++ 58 ∷ 32 ∷ quoted text ≡ (codes "\"$numberDouble\": \"" ++ text) ++ codes "\""
unfolding quoted escape_byte
double_quoted text h = simp (append_assoc, escaped-plain text (unescaped text h))

pub decimal_wrapped : (low high : ℕ) → codes "{\"$numberDecimal\":\"" ++ (decimal128_text low high ++ codes "\"}") ≡ wrapper_text (codes "$numberDecimal") (quoted (decimal128_text low high))
unfolding quoted escape_byte
decimal_wrapped low high = simp (append_assoc, escaped-plain (decimal128_text low high) (unescaped (decimal128_text low high) (decimal128_bare low high)))

-- ---- dates

-- No byte of the text needs an escape.
abbrev Clean : List ℕ → Type 0
Clean text = list_any needs_escape text ≡ false

join : (xs ys : List ℕ) → Clean xs → Clean ys → Clean (xs ++ ys)
join xs ys h k = list_any-append needs_escape xs ys ∙ or_from (list_any needs_escape xs) (list_any needs_escape ys) h k

digit_clean : (k : ℕ) → k < 10 → needs_escape (48 + k) ≡ false
digit_clean k few = rw (ne_eqb (48 + k) 34 (λ e. omega arith), ne_eqb (48 + k) 92 (λ e. omega arith), le-ltb (48 + k) 32 (omega arith)) refl

two_clean : (n : ℕ) → n < 100 → Clean (two n)
two_clean n few = or_from (needs_escape (48 + n / 10)) (list_any needs_escape ((48 + n % 10) ∷ [])) (digit_clean (n / 10) (omega arith)) (or_from (needs_escape (48 + n % 10)) false (digit_clean (n % 10) (omega arith)) refl)

few : (z : ℤ) → IsYear z → unsigned_abs z < 10000
few (pos n) h = omega (arith, signed_arith, h.1)
few (negsuc n) h = omega (arith, signed_arith, h.0)

day_clean : (day : Date) → Clean (day_text day)
day_clean day =
    let year : unsigned_abs day.year < 10000 = few day.year day.year_in in
    let month : day.month < 100 = omega (arith, day.month_in) in
    let ends = days_in_month_bounds day.year day.month in
    let date : day.day < 100 = omega (arith, ends, day.day_in) in
    join (four (unsigned_abs day.year)) (45 ∷ (two day.month ++ 45 ∷ two day.day))
    (join (two (unsigned_abs day.year / 100)) (two (unsigned_abs day.year % 100)) (two_clean (unsigned_abs day.year / 100) (omega arith)) (two_clean (unsigned_abs day.year % 100) (omega arith)))
    (join (two day.month) (45 ∷ two day.day) (two_clean day.month month) (two_clean day.day date))

seconds_clean : (ms : ℕ) → ms < 86_400_000 → Clean (seconds_text ms)
seconds_clean ms small = join (two (ms / 3_600_000)) (58 ∷ (two (ms / 60_000 % 60) ++ 58 ∷ two (ms / 1000 % 60))) (two_clean (ms / 3_600_000) (omega arith))
    (join (two (ms / 60_000 % 60)) (58 ∷ two (ms / 1000 % 60)) (two_clean (ms / 60_000 % 60) (omega arith)) (two_clean (ms / 1000 % 60) (omega arith)))

cond_clean : (b : Bool) (xs ys : List ℕ) → Clean xs → Clean ys → Clean (if b then xs else ys)
cond_clean true xs ys h k = h
cond_clean false xs ys h k = k

fraction_clean : (m : ℕ) → m < 1000 → Clean (fraction_text m)
fraction_clean m small =
    let tenths = digit_clean (m / 100) (omega arith) in
    cond_clean (m == 0) [] _ refl
    (cond_clean (m % 100 == 0) (46 ∷ (48 + m / 100) ∷ []) _ (or_from (needs_escape (48 + m / 100)) false tenths refl)
    (cond_clean (m % 10 == 0) (46 ∷ two (m / 10)) (46 ∷ (48 + m / 100) ∷ two (m % 100)) (two_clean (m / 10) (omega arith))
    (or_from (needs_escape (48 + m / 100)) (list_any needs_escape (two (m % 100))) tenths (two_clean (m % 100) (omega arith)))))

instant_clean : (day : Date) (ms : ℕ) → ms < 86_400_000 → Clean (instant_text day ms)
instant_clean day ms small =
    join (day_text day) (time_text ms ++ 90 ∷ []) (day_clean day) (join (time_text ms) (90 ∷ []) (join (seconds_text ms) (fraction_text (ms % 1000)) (seconds_clean ms small) (fraction_clean (ms % 1000) (omega arith))) refl)

pub dated_wrapped : (day : Date) (ms : ℕ) → ms < 86_400_000 → dated_text day ms ≡ wrapper_text (codes "$date") (quoted (instant_text day ms))
unfolding quoted escape_byte
dated_wrapped day ms small =
    simp (append_assoc, escaped-plain (instant_text day ms) (instant_clean day ms small))
