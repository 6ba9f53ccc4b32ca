-- Of two decimals next to each other, one rounds to the double that a number between them rounds to.
use Rattle.std.proofs.Common.{◌≡◌, ◌<◌, ◌≤◌, ◌⊎◌, ℕ, suc, ◌+◌, ◌-◌, ◌*◌, ◌/◌, ◌%◌, ◌^◌, Bool, true, false, cond, not, T, List, length, take, sym, ap, ◌∙◌, subst, inl, inr, arith, ltb, add-one}
use Rattle.std.proofs.lemmas.List.{take_all}
use Rattle.std.proofs.lemmas.Bool.{cases_lt}
use Rattle.std.proofs.Math.Nat.{mul-le-mul_right, mul-lt-mul_of_pos_right, mul-pos, le-div_iff_mul-le, div-lt_iff_lt-mul, div-mul-le_self, lt_of_lt_of_le, pow-suc, pow-le-pow_right}
use Rattle.std.specs.Float.{binary64}
use Rattle.std.specs.Float.Ieee.{round}
use Rattle.std.specs.Str.Parse.{AllDigits, digits_value}
use lib.Dec.{lit<}
use lib.Ieee.{Float, nan, inf, fin, prec, emax, low, size, odd, units, is_nan, of_bits, to_bits}
use lib.Ieee.Bits.{of_bits-to_bits}
use lib.Ieee.Exact.{HasValue, odd_sign}
use lib.Ieee.Fits.{round-fits, round_is}
use lib.Ieee.Digits.{size-lt, size_reaches}
use lib.Pow.{pow-add, pow_pos, pow_mono}
use Rattle.bd_wide_text.specs.inside.Limited.{IsLimitedTo}
use Rattle.fast_float.specs.Rounding.{scaled_bits, IsNearestBits}
use Rattle.core.specs.Dec2flt.Rounding.{IsJustAbove}
use Rattle.fast_float.proofs.ExactLemmas.{ten_to_pos}
use Rattle.fast_float.proofs.Rows.{many_more, value_below}
use Rattle.fast_float.proofs.RoundingLemmas.{nearest_of_near, nearest_below, nearest_tie, nearest_above}

-- v / c rounds to r units of 2 ^ k; n is v / c in the least units of a double, times c
record IsRounded (v c r k : ℕ) (n u : ℕ) : Type 0 where
  bits : IsNearestBits binary64 v c (scaled_bits binary64 r k)
  fits : r ≤ 2 ^ 53
  normal : 0 < k → 2 ^ 52 ≤ r
  least : 0 < k → 2 ^ 52 * u ≤ n
  most : n < 2 ^ 53 * u
  under : 2 * n ≤ 2 * (r * u) + u
  over : 2 * (r * u) ≤ 2 * n + u

-- how many binary digits are dropped
module _ (n c : ℕ) (some : 0 < c) where
  abbrev drops : ℕ
  drops = size (n / c) - 53

  most_is : n < 2 ^ 53 * (c * 2 ^ drops)
  most_is =
      let k = drops in
      let digits : n / c < 2 ^ (53 + k) = lt_of_lt_of_le (size-lt (n / c)) (pow_mono (omega arith)) in
      let long : 2 ^ (53 + k) * c ≡ 2 ^ 53 * (c * 2 ^ k) = ap (λ x. x * c) (pow-add 2 53 k) ∙ omega arith in
      subst (λ (x : ℕ). n < x) long ((div-lt_iff_lt-mul some).0 digits)

  least_is : 0 < drops → 2 ^ 52 * (c * 2 ^ drops) ≤ n
  least_is more =
      let k = drops in
      let digits : 2 ^ (52 + k) ≤ n / c = size_reaches (n / c) (52 + k) (omega arith) in
      let long : 2 ^ (52 + k) * c ≡ 2 ^ 52 * (c * 2 ^ k) = ap (λ x. x * c) (pow-add 2 52 k) ∙ omega arith in
      subst (λ (x : ℕ). x ≤ n) long ((le-div_iff_mul-le some).0 digits)

rounded : (v c : ℕ) → 0 < c → (r : ℕ) × (k : ℕ) × IsRounded v c r k (v * 2 ^ 1074) (c * 2 ^ k)
rounded v c some =
    let n = v * 2 ^ 1074 in
    let k = drops n c some in
    let u = c * 2 ^ k in
    let m = n / u in
    let some_u : 0 < u = mul-pos some (pow_pos k) in
    let most = most_is n c some in
    let least = least_is n c some in
    let from : m * u ≤ n = div-mul-le_self n u in
    let below : n < (m + 1) * u = (div-lt_iff_lt-mul some_u).0 (omega arith) in
    let fits : m < 2 ^ 53 = (div-lt_iff_lt-mul some_u).1 most in
    let normal : 0 < k → 2 ^ 52 ≤ m = λ more. (le-div_iff_mul-le some_u).1 (least more) in
    let near : IsJustAbove binary64 v c m k = record { significand = record { fits = fits; normal = normal }; from = from; below = below } in
    elim (cases_lt (2 * n) ((2 * m + 1) * u)) [
      | inl less ↦ (
        m,
        k,
        record {
          bits = nearest_below binary64 v c m k some near less;
          fits = omega arith;
          normal = normal;
          least = least;
          most = most;
          under = omega arith;
          over = omega arith;
        },
      )
      | inr more ↦ elim (cases_lt ((2 * m + 1) * u) (2 * n)) [
        | inl above ↦ (
          m + 1,
          k,
          record {
            bits = nearest_above binary64 v c m k some near above;
            fits = omega arith;
            normal = λ K. omega (arith, normal K);
            least = least;
            most = most;
            under = omega arith;
            over = omega arith;
          },
        )
        | inr least_more ↦
            let tie : 2 * n ≡ (2 * m + 1) * u = omega arith in
            let one : m % 2 ≤ 1 = omega arith in
            let bit : m % 2 * u ≤ 1 * u = mul-le-mul_right u one in (
              m + m % 2,
              k,
              record {
                bits = nearest_tie binary64 v c m k some near tie;
                fits = omega arith;
                normal = λ K. omega (arith, normal K);
                least = least;
                most = most;
                under = omega arith;
                over = omega arith;
              },
            )
      ]
    ]

-- in units u: n is rounded to w, and y too far above w; x is not far below y
module _ (u w x n y : ℕ) (low : x ≤ n) (close : y * 10 ^ 16 ≤ x * (10 ^ 16 + 1)) (most : n < 2 ^ 53 * u) (far : 2 * w + u ≤ 2 * y) where
  over_x : 2 * w < 2 * x + u
  over_x = omega arith

  least_x : 2 ^ 52 * u ≤ w → 2 ^ 52 * u ≤ x
  least_x least = omega arith

pub one_of_two : (a v b c : ℕ) → 0 < c → a ≤ v → v ≤ b → b * 10 ^ 16 ≤ a * (10 ^ 16 + 1)
    → (round binary64 false a c ≡ round binary64 false v c) ⊎ (round binary64 false b c ≡ round binary64 false v c)
one_of_two a v b c some low high close =
    let l = 2 ^ 1074 in
    let is = rounded v c some in
    let r = is.0 in
    let k = is.1 in
    let h = is.2 in
    let u = c * 2 ^ k in
    let least : 0 < k → 2 ^ 52 * u ≤ r * u = λ K. mul-le-mul_right u (h.normal K) in
    let closer : b * l * 10 ^ 16 ≤ a * l * (10 ^ 16 + 1) = omega (arith, mul-le-mul_right l close) in
    let same : (x : ℕ) → IsNearestBits binary64 x c (scaled_bits binary64 r k) → round binary64 false x c ≡ round binary64 false v c = λ x near. sym near.0 ∙ h.bits.0 in
    elim (cases_lt a v) [
      | inr equal ↦ inl (ap (λ x. round binary64 false x c) {x = a} {y = v} (omega arith))
      | inl less ↦ elim (cases_lt v b) [
        | inr equal ↦ inr (ap (λ x. round binary64 false x c) {x = b} {y = v} (omega arith))
        | inl more ↦
            let lower : a * l < v * l = mul-lt-mul_of_pos_right less (pow_pos 1074) in
            let upper : v * l < b * l = mul-lt-mul_of_pos_right more (pow_pos 1074) in
            elim (cases_lt (2 * (b * l)) (2 * (r * u) + u)) [
              | inl near ↦ inr (same b (nearest_of_near binary64 b c r k some h.fits h.normal (λ K. omega (arith, h.least K)) (omega (arith, h.over)) near))
              | inr far ↦
                  let near_below = over_x u (r * u) (a * l) (v * l) (b * l) (omega arith) closer h.most far in
                  let least_of = least_x u (r * u) (a * l) (v * l) (b * l) (omega arith) closer h.most far in
                  inl (same a (nearest_of_near binary64 a c r k some h.fits h.normal (λ K. least_of (least K)) near_below (omega (arith, h.under))))
            ]
      ]
    ]

-- ---- what is rounded is a number

has_number : (x : Float) (s : Bool) (a c : ℕ) → HasValue x s a c → T (not (is_nan x))
unfolding is_nan
has_number nan s a c h = absurd h
has_number (inf t) s a c h = tt
has_number (fin t m e) s a c h = tt

units_number : (s : Bool) (q k : ℕ) → T (not (is_nan (units binary64 s q k)))
unfolding units is_nan
units_number s q k = by (ltb (q * 2 ^ k) (2 ^ (low binary64 + suc (emax binary64))))
  where
    by : (b : Bool) → T (not (is_nan (cond b (odd (suc (prec binary64)) s q k (low binary64)) (inf s))))
    by true = has_number _ _ _ _ (odd_sign (suc (prec binary64)) s q k (low binary64))
    by false = tt

pub round_number : (s : Bool) (a c : ℕ) → T (not (is_nan (round binary64 s a c)))
round_number s a c = subst (λ (x : Float). T (not (is_nan x))) (sym (round_is binary64 s a c)) (units_number s _ _)

-- numbers that are rounded to the same bits are rounded to the same double
pub same_bits : (a b c d : ℕ) → to_bits binary64 (round binary64 false a b) ≡ to_bits binary64 (round binary64 false c d) → round binary64 false a b ≡ round binary64 false c d
same_bits a b c d e =
    sym (of_bits-to_bits binary64 _ (round-fits binary64 false a b)) ∙ ap (of_bits binary64) e ∙ of_bits-to_bits binary64 _ (round-fits binary64 false c d)

-- ---- digits

pub tenth : (n z m : ℕ) → n % 10 ≡ 0 → n * 10 ^ z ≡ m → n / 10 * 10 ^ (z + 1) ≡ m
tenth n z m none e =
    let whole : n / 10 * 10 ≡ n = omega arith in
    let power : 10 ^ (z + 1) ≡ 10 ^ z * 10 = rw add-one (pow-suc 10 z) in
    rw power (omega (arith, ap (λ x. x * 10 ^ z) whole))

pub few_tens : (n z k : ℕ) → 0 < n → n * 10 ^ z ≤ 10 ^ k → z ≤ k
few_tens n z k some h = elim (cases_lt k z) [
  | inr few ↦ few
  | inl more ↦
      let next : 10 ^ (k + 1) ≤ 10 ^ z = pow-le-pow_right (lit< tt) {j = z} (omega arith) in
      let power : 10 ^ (k + 1) ≡ 10 ^ k * 10 = rw add-one (pow-suc 10 k) in
      let least : 1 * 10 ^ z ≤ n * 10 ^ z = mul-le-mul_right (10 ^ z) some in
      absurd (omega (arith, ten_to_pos k))
]

-- zeros, and 17 digits at most
pub few_after : (ds : List ℕ) (zeros : ℕ) → AllDigits 10 ds → digits_value 10 (take zeros ds) ≡ 0 → zeros ≤ length ds → length ds - zeros ≤ 17 → digits_value 10 ds < 10 ^ 17
few_after ds zeros all none within few =
    let n = length ds - zeros in
    let long : zeros + n ≡ length ds = omega arith in
    let whole = rw (long, take_all (length ds) ds (omega arith)) at (many_more ds zeros n (omega arith)) in
    let most : 10 ^ n ≤ 10 ^ 17 = pow-le-pow_right (lit< tt) {j = 17} few in
    omega (arith, whole, value_below ds zeros n all, ap (λ x. x * 10 ^ n) none)

-- the digits, or one more at the last place
pub raised : (leading up down : ℕ) (x : Float) → 10 ^ 16 ≤ leading → IsLimitedTo leading up down x → (round binary64 false (leading * 10 ^ up) (10 ^ down) ≡ x → ⊥)
    → round binary64 false ((leading + 1) * 10 ^ up) (10 ^ down) ≡ x
raised leading up down x large limited other =
    let tens = 10 ^ up in
    let close : (leading + 1) * tens * 10 ^ 16 ≤ leading * tens * (10 ^ 16 + 1) = omega (arith, mul-le-mul_right tens large) in
    elim (one_of_two (leading * tens) limited.number ((leading + 1) * tens) (10 ^ down) (ten_to_pos down) limited.from limited.to close) [
      | inl low ↦ absurd (other (low ∙ limited.nearest))
      | inr high ↦ high ∙ limited.nearest
    ]
