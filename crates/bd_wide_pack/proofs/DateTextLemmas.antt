-- The text of a date of the years 1970 to 9999 is read as the date.
use Rattle.std.proofs.Common.{◌≡◌, ◌<◌, ◌≤◌, ℕ, ◌+◌, ◌*◌, ◌/◌, ◌%◌, ◌==◌, true, false, cond, List, [], ◌∷◌, ◌++◌, length, append_assoc, refl, sym, ap, ◌∙◌, subst, arith, rules, Option, Some, option_and_then, inl, inr, ne_eqb, eq-eqb, codes}
use Rattle.std.specs.Prelude.{ℤ, pos, negsuc, ◌≤ℤ◌, unsigned_abs}
use Rattle.std.specs.{Char.is_ascii_digit, Prelude.nat_lt}
use Rattle.std.specs.Int.{w64}
use Rattle.std.specs.Int.RustNames.{FitsSigned}
use Rattle.std.proofs.lemmas.Bool.{cases_eq, lt-ltb, le-leb}
use Rattle.std.proofs.lemmas.Int.{by_lt_z}
use Rattle.jiff_core.specs.declared.civil.date.Date.{Date}
use Rattle.jiff_core.specs.Calendar.{IsYear, days_from_civil}
use Rattle.jiff_core.specs.Date.{epoch_day}
use Rattle.jiff_core.proofs.SignedLemmas.{signed_arith}
use Rattle.jiff_core.proofs.CalendarLemmas.{days_in_month_bounds}
use Rattle.jiff_core.proofs.DateLemmas.{epoch_day-lt}
use Rattle.bd_wide_dump.specs.RelaxedDate.{IsDateText, IsDateTextBy, day_length, day_text, fraction_text, instant_text, seconds_text, two}
use Rattle.bd_value.specs.Tree as trees
use Rattle.bd_extjson_text.specs.Text.{scalar_text}
use Rattle.bd_wide_substitute.specs.declared.wrapped.WideValue.TheVariants as values
use Rattle.bd_wide_substitute.specs.Substitutes.{before_brace, date_meaning, wrapper_at}
use Rattle.bd_wide_pack.specs.inside.Printed.{IsScalarPrinted, IsTextOfValue}
use Rattle.bd_wide_pack.proofs.ChunkLemmas.{of_date}
use Rattle.bd_wide_pack.proofs.NumberTextLemmas.{IsUnquoted, contents_read}
use Rattle.bd_wide_read.proofs.DateLemmas.{day_is}
use Rattle.bd_wide_read.specs.DateText.{◌>>=◌, date_of, day_number, day_of, fraction_of, has_separators, marked_date, milliseconds, offset_of, seconds_of, time_number, two_digits}

-- ---- digits

digit_is : (c : ℕ) → 48 ≤ c → c ≤ 57 → is_ascii_digit c ≡ true
digit_is c low high = rw (le-leb 48 c low, le-leb c 57 high) refl

two_are : (n : ℕ) → n < 100 → two_digits (48 + n / 10) (48 + n % 10) ≡ Some n
two_are n few = rw (digit_is (48 + n / 10) (omega arith) (omega arith), digit_is (48 + n % 10) (omega arith) (omega arith)) (ap (λ (k : ℕ). Some k) (omega arith))

-- ---- the day

no_year : days_from_civil (pos 1970) 1 1 ≡ pos 0
unfolding days_from_civil
no_year = omega (arith, signed_arith)

first_day : Date
first_day = record { year = pos 1970; month = 1; day = 1; year_in = search rules; month_in = search rules; day_in = search rules }

positive : (z : ℤ) → pos 1970 ≤ℤ z → z ≡ pos (unsigned_abs z)
positive (pos n) h = refl
positive (negsuc n) h = absurd (omega (arith, signed_arith))

few : (z : ℤ) → IsYear z → unsigned_abs z < 10000
few (pos n) h = omega (arith, signed_arith, h.1)
few (negsuc n) h = omega (arith, signed_arith, h.0)

year_is : (d : Date) (n : ℕ) → epoch_day d ≡ pos n → d.year ≡ pos (unsigned_abs d.year)
unfolding first_day
year_is d n is = by_lt_z d.year (pos 1970)
    (λ lt. absurd (omega (arith, signed_arith, epoch_day-lt d first_day (inl lt), no_year)))
    (λ ge. positive d.year ge)

days_steps : (o p q r : Option ℕ) (c y m d : ℕ) → o ≡ Some c → p ≡ Some y → q ≡ Some m → r ≡ Some d
    → (o >>= λ a. p >>= λ b. q >>= λ e. r >>= λ f. day_number (a * 100 + b) e f) ≡ day_number (c * 100 + y) m d
days_steps o p q r c y m d e f g h =
    ap (λ (x : Option ℕ). x >>= λ a. p >>= λ b. q >>= λ e. r >>= λ f. day_number (a * 100 + b) e f) e
    ∙ ap (λ (x : Option ℕ). x >>= λ b. q >>= λ e. r >>= λ f. day_number (c * 100 + b) e f) f
    ∙ ap (λ (x : Option ℕ). x >>= λ e. r >>= λ f. day_number (c * 100 + y) e f) g
    ∙ ap (λ (x : Option ℕ). x >>= λ f. day_number (c * 100 + y) m f) h

-- the day of a text that begins with that of a day
day_read : (d : Date) (n : ℕ) (rest : List ℕ) → epoch_day d ≡ pos n → day_of (day_text d ++ rest) ≡ Some (pos n)
day_read d n rest is =
    let y = unsigned_abs d.year in
    let low : y < 10000 = few d.year d.year_in in
    let days = days_in_month_bounds d.year d.month in
    let same : y / 100 * 100 + y % 100 ≡ y = omega arith in
    days_steps _ _ _ _ (y / 100) (y % 100) d.month d.day (two_are (y / 100) (omega arith)) (two_are (y % 100) (omega arith)) (two_are d.month (omega (arith, d.month_in.1))) (two_are d.day (omega (arith, d.day_in.1, days.0)))
    ∙ ap (λ (k : ℕ). day_number k d.month d.day) same
    ∙ sym (day_is y d.month d.day d (pos n) (year_is d n is) refl refl (sym is))

-- ---- the time of the day

seconds_steps : (o p q : Option ℕ) (h m s : ℕ) → o ≡ Some h → p ≡ Some m → q ≡ Some s
    → (o >>= λ a. p >>= λ b. q >>= λ c. time_number a b c) ≡ time_number h m s
seconds_steps o p q h m s e f g =
    ap (λ (x : Option ℕ). x >>= λ a. p >>= λ b. q >>= λ c. time_number a b c) e
    ∙ ap (λ (x : Option ℕ). x >>= λ b. q >>= λ c. time_number h b c) f
    ∙ ap (λ (x : Option ℕ). x >>= λ c. time_number h m c) g

time_is : (ms : ℕ) → ms < 86400000 → time_number (ms / 3600000) (ms / 60000 % 60) (ms / 1000 % 60) ≡ Some (ms / 1000)
time_is ms few = rw (lt-ltb (ms / 3600000) 24 (omega arith), lt-ltb (ms / 60000 % 60) 60 (omega arith), lt-ltb (ms / 1000 % 60) 60 (omega arith)) (ap (λ (k : ℕ). Some k) (omega arith))

seconds_read : (d : Date) (ms : ℕ) (rest : List ℕ) → ms < 86400000 → seconds_of (day_text d ++ (seconds_text ms ++ rest)) ≡ Some (ms / 1000)
seconds_read d ms rest few =
    seconds_steps _ _ _ (ms / 3600000) (ms / 60000 % 60) (ms / 1000 % 60) (two_are (ms / 3600000) (omega arith)) (two_are (ms / 60000 % 60) (omega arith)) (two_are (ms / 1000 % 60) (omega arith))
    ∙ time_is ms few

-- ---- the fraction of the second

digit_at_is : (c : ℕ) → c < 10 → is_ascii_digit (48 + c) ≡ true
digit_at_is c few = digit_is (48 + c) (omega arith) (omega arith)

one_digit : (a : ℕ) → a < 10 → fraction_of (46 ∷ (48 + a) ∷ 90 ∷ []) ≡ Some (a * 100, 90 ∷ [])
one_digit a few = rw (digit_at_is a few) (ap (λ (k : ℕ). Some (k, 90 ∷ [])) (omega arith))

two_digits_more : (a b : ℕ) → a < 10 → b < 10 → fraction_of (46 ∷ (48 + a) ∷ (48 + b) ∷ 90 ∷ []) ≡ Some (a * 100 + b * 10, 90 ∷ [])
two_digits_more a b few less = rw (digit_at_is a few, digit_at_is b less) (ap (λ (k : ℕ). Some (k, 90 ∷ [])) (omega arith))

three_digits : (a b c : ℕ) → a < 10 → b < 10 → c < 10 → fraction_of (46 ∷ (48 + a) ∷ (48 + b) ∷ (48 + c) ∷ 90 ∷ []) ≡ Some (a * 100 + b * 10 + c, 90 ∷ [])
three_digits a b c few less least = rw (digit_at_is a few, digit_at_is b less, digit_at_is c least) (ap (λ (k : ℕ). Some (k, 90 ∷ [])) (omega arith))

-- what is read of a fraction before the letter of the zone
abbrev before_zone : ℕ → Option (ℕ × List ℕ)
before_zone k = Some (k, 90 ∷ [])

zone_same : (a b : ℕ) → a ≡ b → before_zone a ≡ before_zone b
zone_same a b e = ap before_zone e

-- the fraction after the seconds, and the zone
fraction_read : (m : ℕ) → m < 1000 → fraction_of (fraction_text m ++ 90 ∷ []) ≡ Some (m, 90 ∷ [])
fraction_read m few = elim (cases_eq m 0) [
  | inl none ↦ subst (λ (k : ℕ). fraction_of (fraction_text k ++ 90 ∷ []) ≡ Some (k, 90 ∷ [])) (sym none) refl
  | inr some ↦ elim (cases_eq (m % 100) 0) [
    | inl one ↦ rw (ne_eqb m 0 some, eq-eqb (m % 100) 0 one) (one_digit (m / 100) (omega arith) ∙ zone_same _ _ (omega arith))
    | inr more ↦ elim (cases_eq (m % 10) 0) [
      | inl two ↦ rw (ne_eqb m 0 some, ne_eqb (m % 100) 0 more, eq-eqb (m % 10) 0 two) (two_digits_more (m / 10 / 10) (m / 10 % 10) (omega arith) (omega arith) ∙ zone_same _ _ (omega arith))
      | inr three ↦ rw (ne_eqb m 0 some, ne_eqb (m % 100) 0 more, ne_eqb (m % 10) 0 three)
          (three_digits (m / 100) (m % 100 / 10) (m % 100 % 10) (omega arith) (omega arith) (omega arith) ∙ zone_same _ _ (omega arith))
    ]
  ]
]

-- ---- the whole text

marked_steps : (o : Option ℤ) (p : Option ℕ) (q : Option (ℕ × List ℕ)) (day : ℤ) (seconds m : ℕ) (rest : List ℕ) (zone : ℤ) → o ≡ Some day → p ≡ Some seconds → q ≡ Some (m, rest)
    → offset_of rest ≡ Some zone
    → (o >>= λ a. p >>= λ b. q >>= λ f. offset_of f.1 >>= λ z. Some (milliseconds a b f.0 z)) ≡ Some (milliseconds day seconds m zone)
marked_steps o p q day seconds m rest zone e f g h =
    ap (λ (x : Option ℤ). x >>= λ a. p >>= λ b. q >>= λ f. offset_of f.1 >>= λ z. Some (milliseconds a b f.0 z)) e
    ∙ ap (λ (x : Option ℕ). x >>= λ b. q >>= λ f. offset_of f.1 >>= λ z. Some (milliseconds day b f.0 z)) f
    ∙ ap (λ (x : Option (ℕ × List ℕ)). x >>= λ f. offset_of f.1 >>= λ z. Some (milliseconds day seconds f.0 z)) g
    ∙ ap (λ (x : Option ℤ). x >>= λ z. Some (milliseconds day seconds m z)) h

sum_is : (n : ℕ) → milliseconds (pos (n / 86400000)) (n % 86400000 / 1000) (n % 86400000 % 1000) (pos 0) ≡ pos n
sum_is n = omega (arith, signed_arith)

marked : (d : Date) (ms : ℕ) → has_separators (instant_text d ms) ≡ true
marked d ms = rw (le-leb 19 (length (instant_text d ms)) (omega arith)) refl

-- the text of a time of these years is read as it
instant_read : (d : Date) (n : ℕ) → epoch_day d ≡ pos (n / day_length) → date_of (instant_text d (n % day_length)) ≡ Some (pos n)
instant_read d n is =
    let ms = n % 86400000 in
    let rest = fraction_text (ms % 1000) ++ 90 ∷ [] in
    let shape : instant_text d ms ≡ day_text d ++ (seconds_text ms ++ rest) = ap (λ (t : List ℕ). day_text d ++ t) (append_assoc (seconds_text ms) (fraction_text (ms % 1000)) (90 ∷ [])) in
    rw (marked d ms)
    (ap marked_date shape
    ∙ marked_steps _ _ _ (pos (n / 86400000)) (ms / 1000) (ms % 1000) (90 ∷ []) (pos 0) (day_read d (n / 86400000) (seconds_text ms ++ rest) is) (seconds_read d ms rest (omega arith)) (fraction_read (ms % 1000) (omega arith)) refl
    ∙ ap (λ (z : ℤ). Some z) (sum_is n))

-- ---- its wrapper

unquoted_digit : (c : ℕ) (rest : List ℕ) → IsUnquoted rest → IsUnquoted ((48 + c) ∷ rest)
unquoted_digit c rest h = rw (ne_eqb (48 + c) 34 (λ e. omega arith)) h

unquoted_two : (n : ℕ) (rest : List ℕ) → IsUnquoted rest → IsUnquoted (two n ++ rest)
unquoted_two n rest h = unquoted_digit (n / 10) ((48 + n % 10) ∷ rest) (unquoted_digit (n % 10) rest h)

unquoted_fraction : (m : ℕ) → IsUnquoted (fraction_text m ++ 90 ∷ [])
unquoted_fraction m =
    let three : List ℕ = 46 ∷ (48 + m / 100) ∷ two (m % 100) in
    let two_only : List ℕ = 46 ∷ two (m / 10) in
    elim (m == 0) as (λ b. IsUnquoted (cond b [] (cond (m % 100 == 0) (46 ∷ (48 + m / 100) ∷ []) (cond (m % 10 == 0) two_only three)) ++ 90 ∷ [])) [
      | true ↦ refl
      | false ↦ elim (m % 100 == 0) as (λ b. IsUnquoted (cond b (46 ∷ (48 + m / 100) ∷ []) (cond (m % 10 == 0) two_only three) ++ 90 ∷ [])) [
        | true ↦ unquoted_digit (m / 100) (90 ∷ []) refl
        | false ↦ elim (m % 10 == 0) as (λ b. IsUnquoted (cond b two_only three ++ 90 ∷ [])) [
          | true ↦ unquoted_two (m / 10) (90 ∷ []) refl
          | false ↦ unquoted_digit (m / 100) (two (m % 100) ++ 90 ∷ []) (unquoted_two (m % 100) (90 ∷ []) refl)
        ]
      ]
    ]

unquoted_seconds : (ms : ℕ) (rest : List ℕ) → IsUnquoted rest → IsUnquoted (seconds_text ms ++ rest)
unquoted_seconds ms rest h =
    let seconds = unquoted_two (ms / 1000 % 60) rest h in
    let minutes = unquoted_two (ms / 60000 % 60) (58 ∷ (two (ms / 1000 % 60) ++ rest)) seconds in
    unquoted_two (ms / 3600000) (58 ∷ (two (ms / 60000 % 60) ++ 58 ∷ (two (ms / 1000 % 60) ++ rest))) minutes

unquoted_day : (d : Date) (rest : List ℕ) → IsUnquoted rest → IsUnquoted (day_text d ++ rest)
unquoted_day d rest h =
    let y = unsigned_abs d.year in
    let day = unquoted_two d.day rest h in
    let month = unquoted_two d.month (45 ∷ (two d.day ++ rest)) day in
    let year = unquoted_two (y % 100) (45 ∷ (two d.month ++ 45 ∷ (two d.day ++ rest))) month in
    unquoted_two (y / 100) (two (y % 100) ++ 45 ∷ (two d.month ++ 45 ∷ (two d.day ++ rest))) year

unquoted_instant : (d : Date) (ms : ℕ) → IsUnquoted (instant_text d ms)
unquoted_instant d ms =
    let rest = fraction_text (ms % 1000) ++ 90 ∷ [] in
    let shape : instant_text d ms ≡ day_text d ++ (seconds_text ms ++ rest) = ap (λ (t : List ℕ). day_text d ++ t) (append_assoc (seconds_text ms) (fraction_text (ms % 1000)) (90 ∷ [])) in
    subst IsUnquoted (sym shape) (unquoted_day d (seconds_text ms ++ rest) (unquoted_seconds ms rest (unquoted_fraction (ms % 1000))))

date_wrapper : (contents rest : List ℕ) → IsUnquoted contents → wrapper_at ((codes "{\"$date\":\"" ++ (contents ++ codes "\"}")) ++ rest) ≡ Some (of_date.0, Some (contents, rest))
date_wrapper contents rest h = ap (λ o. Some (of_date.0, option_and_then before_brace o)) (contents_read contents rest h)

wrapped_date : (z : ℤ) (contents : List ℕ) → IsUnquoted contents → date_of contents ≡ Some z → IsTextOfValue (codes "{\"$date\":\"" ++ (contents ++ codes "\"}")) (values.Date z)
wrapped_date z contents plain h rest end = inl (of_date.0, contents, date_wrapper contents rest plain, sym (ap date_meaning h))

canonical_date : (z : ℤ) (text : List ℕ) → FitsSigned w64 z → text ≡ scalar_text (trees.date z) → IsScalarPrinted (trees.date z) text
canonical_date z text fits h = inl (record { scalar = trees.date z; is = refl; fits = fits; no_zero = refl; written = h })

-- the text of a date in relaxed form is read as the date
pub date_printed : (z : ℤ) (text : List ℕ) → FitsSigned w64 z → IsDateText z text → IsScalarPrinted (trees.date z) text
date_printed (negsuc n) text fits h = canonical_date (negsuc n) text fits h
date_printed (pos n) text fits h =
    elim (nat_lt n 253402300800000) as (λ b. IsDateTextBy b (pos n) text → IsScalarPrinted (trees.date (pos n)) text) [
      | true ↦ λ d. inr (inr (inr (record {
        time = pos n;
        is = refl;
        fits = fits;
        begins = subst (λ (t : List ℕ). IsTextOfValue t (values.Date (pos n))) (sym d.2) (wrapped_date (pos n) (instant_text d.0 (n % day_length)) (unquoted_instant d.0 (n % day_length)) (instant_read d.0 n d.1));
      })))
      | false ↦ λ d. canonical_date (pos n) text fits d
    ] h
