-- The digits that a reader of dates takes, and the days of the calendar.
use Rattle.std.proofs.Common.{◌≡◌, ◌<◌, ◌≤◌, ℕ, zero, suc, ◌+◌, ◌-◌, Bool, true, false, cond, List, [], ◌∷◌, ◌++◌, length, take, drop, get_or, refl, sym, ap, ◌∙◌, subst, arith, length-append, take_at, Option, Some, None}
use Rattle.std.specs.{Char.is_ascii_digit, List.AllPass}
use Rattle.std.specs.Prelude.{ℤ, pos, negsuc, unsigned_abs}
use Rattle.std.proofs.Common.{◌^◌, of_z, to_z}
use Rattle.std.proofs.lemmas.Int.{ints}
use Rattle.std.specs.Int.{w64}
use Rattle.jiff_core.proofs.SignedLemmas.{back_small}
use Rattle.std.proofs.lemmas.Bool.{le-leb}
use Rattle.jiff_core.specs.declared.civil.date.Date.{Date}
use Rattle.jiff_core.specs.Calendar.{IsEpochDay, days_from_civil, days_in_month}
use Rattle.jiff_core.specs.Date.{epoch_day}
use Rattle.bd_wide_read.specs.DateText.{day_number}
use Rattle.bd_wide_read.specs.JsonNumber.{after_digits, skip_digits}

-- digits, and what follows them
record Digits (bytes rest : List ℕ) : Type 0 where
  pub digits : List ℕ
  pub is : bytes ≡ digits ++ rest
  pub all : AllPass is_ascii_digit digits

more_pass : (c : ℕ) (cs : List ℕ) → is_ascii_digit c ≡ true → AllPass is_ascii_digit cs → AllPass is_ascii_digit (c ∷ cs)
more_pass c cs is all zero d h = is
more_pass c cs is all (suc k) d h = all k d (omega arith)

skipped : (bytes : List ℕ) → Digits bytes (skip_digits bytes)
skipped [] = record { digits = []; is = refl; all = λ k d h. absurd (omega arith) }
skipped (c ∷ cs) =
    let more = skipped cs in
    elim (is_ascii_digit c) as (λ b. is_ascii_digit c ≡ b → Digits (c ∷ cs) (skip_digits (c ∷ cs))) [
      | true ↦ λ e. record { digits = c ∷ more.digits; is = rw e (ap (λ t. c ∷ t) more.is); all = more_pass c more.digits e more.all }
      | false ↦ λ e. record { digits = []; is = rw e refl; all = λ k d h. absurd (omega arith) }
    ] refl

at_least_one : (bytes rest : List ℕ) → after_digits bytes ≡ Some rest → Digits bytes rest
at_least_one [] rest h = absurd (let e : None ≡ Some rest = h in cc)
at_least_one (c ∷ cs) rest h =
    let more = skipped cs in
    elim (is_ascii_digit c) as (λ b. is_ascii_digit c ≡ b → Digits (c ∷ cs) rest) [
      | true ↦ λ e.
          let same : skip_digits cs ≡ rest = (let found : Some (skip_digits cs) ≡ Some rest = (rw e at h) in cc) in
          record { digits = c ∷ more.digits; is = ap (λ t. c ∷ t) more.is ∙ ap (λ t. c ∷ (more.digits ++ t)) same; all = more_pass c more.digits e more.all }
      | false ↦ λ e. absurd (let found : None ≡ Some rest = (rw e at h) in cc)
    ] refl

-- what follows digits is no longer
pub rest_within : (bytes rest : List ℕ) → after_digits bytes ≡ Some rest → length rest ≤ length bytes
rest_within bytes rest h = let d = at_least_one bytes rest h in omega (arith, ap length d.is, length-append d.digits rest)

-- what is before it are digits
pub digits_before : (bytes rest : List ℕ) (n : ℕ) → after_digits bytes ≡ Some rest → n ≡ length bytes - length rest → AllPass is_ascii_digit (take n bytes)
digits_before bytes rest n h count =
    let d = at_least_one bytes rest h in
    let long : length d.digits ≡ n = omega (arith, ap length d.is, length-append d.digits rest) in
    let first : take n bytes ≡ d.digits = ap (take n) d.is ∙ take_at d.digits rest n long in
    subst (AllPass is_ascii_digit) (sym first) d.all

day_by : (year month day : ℕ) (y : ℤ) (m d : ℕ) → y ≡ pos year → m ≡ month → d ≡ day → (1 ≤ m) × (m ≤ 12) → (1 ≤ d) × (d ≤ days_in_month y m) → Some (days_from_civil y m d) ≡ day_number year month day
day_by year month day y m d is_year is_month is_day in_year in_month =
    let a = le-leb 1 month (subst (λ x. 1 ≤ x) is_month in_year.0) in
    let b = le-leb month 12 (subst (λ x. x ≤ 12) is_month in_year.1) in
    let c = le-leb 1 day (subst (λ x. 1 ≤ x) is_day in_month.0) in
    let within : day ≤ days_in_month (pos year) month = subst (λ n. day ≤ n) (λ i. days_in_month (is_year i) (is_month i)) (subst (λ x. x ≤ days_in_month y m) is_day in_month.1) in
    let e = le-leb day (days_in_month (pos year) month) within in
    let same : Some (days_from_civil y m d) ≡ Some (days_from_civil (pos year) month day) = λ i. Some (days_from_civil (is_year i) (is_month i) (is_day i)) in
    same ∙ sym (rw (a, b, c, e) refl)

-- the number of a day of the calendar
pub day_is : (year month day : ℕ) (d : Date) (z : ℤ) → d.year ≡ pos year → d.month ≡ month → d.day ≡ day → z ≡ epoch_day d → Some z ≡ day_number year month day
day_is year month day d z is_year is_month is_day is =
    ap (λ (x : ℤ). Some x) is ∙ day_by year month day d.year d.month d.day is_year is_month is_day d.month_in d.day_in

-- a day number is small
small_day : (z : ℤ) → IsEpochDay z → unsigned_abs z < 2 ^ 63
small_day (pos n) h = search (arith, ints, h)
small_day (negsuc n) h = search (arith, ints, h)

-- a day number comes back from the bits of a wider type
pub day_back : (z r : ℤ) → IsEpochDay z → r ≡ z → to_z w64 (of_z w64 r) ≡ z
day_back z r bound is = ap (λ (x : ℤ). to_z w64 (of_z w64 x)) is ∙ back_small w64 z (small_day z bound)
