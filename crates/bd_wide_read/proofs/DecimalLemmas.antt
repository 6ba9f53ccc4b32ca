-- Which decimal128 a number is.
use Rattle.std.proofs.Common.{◌≡◌, ℕ, zero, suc, ◌+◌, ◌-◌, ◌*◌, ◌^◌, ◌<◌, ◌≤◌, List, [], ◌∷◌, ◌++◌, refl, sym, ap, ◌∙◌, subst, arith, inl, inr, min, mul-one, Option, None, Some, IfNone, IfSome, true, false, length, get_or}
use Rattle.std.proofs.lemmas.Str.Parse.{digit_from_value}
use Rattle.fast_float.proofs.DigitsLemmas.{is_digit}
use Rattle.std.proofs.lemmas.Bool.{cases_lt}
use Rattle.std.specs.Char.{digit_value}
use Rattle.std.specs.Float.Numeral.{Parts, numeral_digits, tens_up, tens_down}
use Rattle.std.specs.Str.Parse.{AllDigits, digits_value, digits_value_after}
use Rattle.bd_wide_read.specs.DecimalText.{IsWorth, IsExact, scaled_of}
use Rattle.bd_wide_read.specs.inside.Digits.{AreApart, AreKept, HasTooMany, scaled}
use Rattle.bd_wide_read.proofs.TenLemmas.{grows, joined, moved, too_large}

-- ---- the digits

pub value_append : (xs ys : List ℕ) (n : ℕ) → digits_value_after 10 n (xs ++ ys) ≡ digits_value_after 10 (digits_value_after 10 n xs) ys
value_append [] ys n = refl
value_append (x ∷ xs) ys n = value_append xs ys (n * 10 + digit_value x)

many_ge : (x : ℕ) → HasTooMany x → 10 ^ 34 ≤ x
many_ge x h = elim (cases_lt x (10 ^ 34)) [ inl less ↦ absurd (h x 0 less (mul-one x)) | inr more ↦ more ]

pub many_step : (x d : ℕ) → d < 10 → 10 ^ 33 ≤ x → (d ≡ 0 → HasTooMany x) → HasTooMany (x * 10 + d)
many_step x d small full same c zero few e = omega (arith, mul-one c)
many_step x d small full same c (suc k) few e =
    let f : c * 10 ^ (k + 1) ≡ c * 10 ^ k * 10 ^ 1 = joined c k 1 in
    let g : c * 10 ^ (k + 1) ≡ x * 10 + d = ap (λ (n : ℕ). c * 10 ^ n) (omega arith) ∙ e in
    let none : d ≡ 0 = omega (arith, f, g) in
    same none c k few (omega (arith, f, g))

pub many_after : (ds : List ℕ) (x : ℕ) → AllDigits 10 ds → HasTooMany x → HasTooMany (digits_value_after 10 x ds)
many_after [] x all h = h
many_after (d ∷ ds) x all h =
    many_after ds (x * 10 + digit_value d) all.1 (many_step x (digit_value d) all.0 (omega (arith, many_ge x h)) (λ _. h))

pub many_none : (n above below c b : ℕ) → HasTooMany n → IsWorth (scaled n above below) c b → ⊥
many_none n above below c b h w = elim (cases_lt (b + below) above) [
  | inl less ↦ absurd (omega (arith, w.digits, too_large c n (b + below) above (omega (arith, many_ge n h)) less w.value))
  | inr more ↦ h c (b + below - above) w.digits (moved c n (b + below) above (b + below - above) 0 (omega arith) w.value ∙ mul-one n)
]

pub many_rest : (rest : List ℕ) (x : ℕ) → 1 ≤ length rest → AllDigits 10 rest → HasTooMany (x * 10 + digit_value (get_or rest 0 0)) → HasTooMany (digits_value_after 10 x rest)
many_rest [] x some all h = absurd (omega arith)
many_rest (d ∷ ds) x some all h = many_after ds (x * 10 + digit_value d) all.1 h

pub value_after : (xs ys : List ℕ) (n : ℕ) → n ≡ digits_value 10 xs → digits_value_after 10 n ys ≡ digits_value 10 (xs ++ ys)
value_after xs ys n e = ap (λ (v : ℕ). digits_value_after 10 v ys) e ∙ sym (value_append xs ys 0)

-- a fact also holds if there is no value
pub if_none : {A P : Type 0} (o : Option A) → P → IfNone o P
if_none None p = p
if_none (Some a) p = tt

value_of_digit : (c : ℕ) → digit_value c < 10 → (48 ≤ c) × (digit_value c ≡ c - 48)
value_of_digit c h = let r = digit_from_value c h in (r.0, (is_digit c r.0 r.1).1)

-- a digit after those that are kept
pub one_more : (n z c : ℕ) → digit_value c < 10 → AreKept n z → n < 10 ^ 33 → (n * 10 + (c - 48)) * 10 ^ z ≡ n * 10 ^ z * 10 + digit_value c
one_more n zero c h kept less = omega (arith, (value_of_digit c h).1, mul-one n, mul-one (n * 10 + (c - 48)))
one_more n (suc z) c h kept less = absurd (omega (arith, kept.full (omega arith)))

pub one_zero : (n z c : ℕ) → digit_value c < 10 → (c - 48 ≡ 0) → n * 10 ^ (z + 1) ≡ n * 10 ^ z * 10 + digit_value c
one_zero n z c h none = omega (arith, joined n z 1, (value_of_digit c h).1)

pub one_many : (n z c : ℕ) → digit_value c < 10 → 10 ^ 33 ≤ n → (c - 48 ≡ 0 → ⊥) → HasTooMany (n * 10 ^ z * 10 + digit_value c)
one_many n z c h full some = many_step (n * 10 ^ z) (digit_value c) h (omega (arith, grows n z)) (λ e. absurd (some (sym (value_of_digit c h).1 ∙ e)))

-- ---- the power_is

-- the number with the zeros that were rest out
pub worth_up : (m z up down c b : ℕ) → IsWorth (scaled m (up + z - down) (down - (up + z))) c b → IsWorth (scaled (m * 10 ^ z) (up - down) (down - up)) c b
worth_up m z up down c b w = record {
  digits = w.digits;
  exponent = w.exponent;
  value = moved c m (b + (down - (up + z))) (up + z - down) (b + (down - up)) (z + (up - down)) (omega arith) w.value ∙ joined m z (up - down);
}

pub worth_down : (m z up down c b : ℕ) → IsWorth (scaled (m * 10 ^ z) (up - down) (down - up)) c b → IsWorth (scaled m (up + z - down) (down - (up + z))) c b
worth_down m z up down c b w = record {
  digits = w.digits;
  exponent = w.exponent;
  value = moved c m (b + (down - up)) (z + (up - down)) (b + (down - (up + z))) (up + z - down) (omega arith) (w.value ∙ sym (joined m z (up - down)));
}

full_least : (m above below c b : ℕ) → 10 ^ 33 ≤ m → IsWorth (scaled m above below) c b → above ≤ b + below
full_least m above below c b full w = elim (cases_lt (b + below) above) [
  | inl less ↦ absurd (omega (arith, w.digits, too_large c m (b + below) above full less w.value))
  | inr more ↦ more
]

nearest_full : (z up down b at : ℕ) → up + z - down ≤ b + (down - (up + z)) → up + z - down ≤ at + (down - (up + z)) → b ≡ min (up + z - down) 12287
    → (b + (down - up) - (up - down)) + ((up - down) - (b + (down - up))) ≤ (at + (down - up) - (up - down)) + ((up - down) - (at + (down - up)))
nearest_full z up down b at h g e = elim (cases_lt down (up + z)) [ inl less ↦ omega arith | inr more ↦ omega arith ]

pub exact_of : (m z up down c b : ℕ) → AreKept m z → IsWorth (scaled m (up + z - down) (down - (up + z))) c b → b ≡ min (up + z - down) 12287
    → IsExact (scaled (m * 10 ^ z) (up - down) (down - up)) c b
exact_of m zero up down c b kept w e = record {
  worth = worth_up m 0 up down c b w;
  nearest = λ other at v. omega (arith, v.exponent);
}
exact_of m (suc z) up down c b kept w e = record {
  worth = worth_up m (suc z) up down c b w;
  nearest = λ other at v. nearest_full (suc z) up down b at (full_least m _ _ c b (kept.full (omega arith)) w)
      (full_least m _ _ other at (kept.full (omega arith)) (worth_down m (suc z) up down other at v)) e;
}

-- ---- the coefficient

pub divided_worth : (m above below up down c : ℕ) → m < 10 ^ 34 → AreApart above below up down → up < down → c * 10 ^ below ≡ m
    → IsWorth (scaled m above below) c 0 × (0 ≡ min above 12287)
divided_worth m above below up down c few apart less e =
    let none : above ≡ 0 = omega (arith, apart.over) in (
      record {
        digits = omega (arith, grows c below, e);
        exponent = omega arith;
        value = rw none (ap (λ (n : ℕ). c * 10 ^ n) (omega arith) ∙ e ∙ sym (mul-one m));
      },
      omega (arith, none),
    )

pub divided_none : (m above below up down : ℕ) → AreApart above below up down → up < down → ((c : ℕ) → c * 10 ^ below ≡ m → ⊥)
    → (c b : ℕ) → IsWorth (scaled m above below) c b → ⊥
divided_none m above below up down apart less h c b w =
    let none : above ≡ 0 = omega (arith, apart.over) in
    h (c * 10 ^ b) (sym (joined c b below) ∙ w.value ∙ ap (λ (n : ℕ). m * 10 ^ n) none ∙ mul-one m)

pub fitted_worth : (m above below up down : ℕ) → m < 10 ^ 34 → AreApart above below up down → down ≤ up → up - down ≤ 12287
    → IsWorth (scaled m above below) m (up - down) × (up - down ≡ min above 12287)
fitted_worth m above below up down few apart less near =
    let none : below ≡ 0 = omega (arith, apart.under) in
    let same : above ≡ up - down = omega (arith, apart.over) in (
      record {
        digits = few;
        exponent = omega arith;
        value = ap (λ (n : ℕ). m * 10 ^ n) (omega arith);
      },
      omega arith,
    )

pub multiplied_worth : (m above below up down c : ℕ) → AreApart above below up down → down ≤ up → 12287 < up - down
    → (c ≡ m * 10 ^ (above - 12287)) × (c < 10 ^ 34) → IsWorth (scaled m above below) c 12287 × (12287 ≡ min above 12287)
multiplied_worth m above below up down c apart less far is =
    let none : below ≡ 0 = omega (arith, apart.under) in
    let more : 12287 < above = omega (arith, apart.over) in (
      record {
        digits = is.1;
        exponent = omega arith;
        value = moved c m 0 (above - 12287) (12287 + below) above (omega arith) (mul-one c ∙ is.0);
      },
      omega arith,
    )

pub multiplied_none : (m above below up down : ℕ) → AreApart above below up down → down ≤ up → 12287 < up - down
    → 10 ^ 34 ≤ m * 10 ^ (above - 12287) → (c b : ℕ) → IsWorth (scaled m above below) c b → ⊥
multiplied_none m above below up down apart less far large c b w =
    let none : below ≡ 0 = omega (arith, apart.under) in
    let more : 12287 < above = omega (arith, apart.over) in
    let e : c * 10 ^ 0 ≡ m * 10 ^ ((above - 12287) + (12287 - b)) = moved c m (b + below) above 0 ((above - 12287) + (12287 - b)) (omega (arith, w.exponent)) w.value in
    let f = joined m (above - 12287) (12287 - b) in
    omega (arith, w.digits, e, f, grows (m * 10 ^ (above - 12287)) (12287 - b), mul-one c)

-- ---- a numeral

pub digits_same : (p : Parts) (whole fraction : List ℕ) → whole ≡ p.whole → fraction ≡ p.fraction → digits_value 10 (whole ++ fraction) ≡ numeral_digits p
digits_same p whole fraction e f = λ i. digits_value 10 (e i ++ f i)

pub apart_negative : (p : Parts) (z capped up down : ℕ) → p.exponent_negative ≡ true → capped ≡ min (digits_value 10 p.exponent) (2 ^ 100) → z < 2 ^ 64 → length p.fraction < 2 ^ 64
    → up ≡ 6176 + z → down ≡ length p.fraction + capped → AreApart (tens_up p + 6176 + z - tens_down p) (tens_down p - (tens_up p + 6176 + z)) up down
apart_negative p z capped up down negative e few short is at = rw negative (record { over = omega arith; under = omega arith })

pub apart_positive : (p : Parts) (z capped up down : ℕ) → p.exponent_negative ≡ false → capped ≡ min (digits_value 10 p.exponent) (2 ^ 100) → z < 2 ^ 64 → length p.fraction < 2 ^ 64
    → up ≡ 6176 + z + capped → down ≡ length p.fraction → AreApart (tens_up p + 6176 + z - tens_down p) (tens_down p - (tens_up p + 6176 + z)) up down
apart_positive p z capped up down positive e few short is at = rw positive (record { over = omega arith; under = omega arith })

pub exact_if : (r : Option (ℕ × ℕ)) (p : Parts) (m z up down : ℕ) → m * 10 ^ z ≡ numeral_digits p → AreKept m z
    → AreApart (tens_up p + 6176 + z - tens_down p) (tens_down p - (tens_up p + 6176 + z)) up down
    → ((above below : ℕ) → AreApart above below up down → IfSome r (λ r. IsWorth (scaled m above below) r.0 r.1 × (r.1 ≡ min above 12287)))
    → IfSome r (λ r. IsExact (scaled_of p) r.0 r.1)
exact_if None p m z up down e kept apart h = tt
exact_if (Some r) p m z up down e kept apart h =
    let w = h _ _ apart in
    subst (λ (n : ℕ). IsExact (scaled n (tens_up p + 6176 - tens_down p) (tens_down p - (tens_up p + 6176))) r.0 r.1) e
    (exact_of m z (tens_up p + 6176) (tens_down p) r.0 r.1 kept w.0 w.1)

pub none_if : (r : Option (ℕ × ℕ)) (p : Parts) (m z up down : ℕ) → m * 10 ^ z ≡ numeral_digits p
    → AreApart (tens_up p + 6176 + z - tens_down p) (tens_down p - (tens_up p + 6176 + z)) up down
    → ((above below : ℕ) → AreApart above below up down → IfNone r ((c b : ℕ) → IsWorth (scaled m above below) c b → ⊥))
    → IfNone r ((c b : ℕ) → IsWorth (scaled_of p) c b → ⊥)
none_if (Some r) p m z up down e apart h = tt
none_if None p m z up down e apart h = λ c b w. h _ _ apart c b
    (worth_down m z (tens_up p + 6176) (tens_down p) c b
    (subst (λ (n : ℕ). IsWorth (scaled n (tens_up p + 6176 - tens_down p) (tens_down p - (tens_up p + 6176))) c b) (sym e) w))
