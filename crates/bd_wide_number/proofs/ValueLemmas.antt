-- Magnitudes of doubles, and their bits.
use Rattle.std.proofs.Common.{◌≡◌, ℕ, zero, suc, ◌+◌, ◌-◌, ◌*◌, ◌/◌, ◌%◌, ◌^◌, ◌<◌, ◌≤◌, refl, sym, ap, ◌∙◌, arith, inl, inr, ⊎_elim, pow-suc, pow-add, pow_pos, mul-one, le-mul_of_pos_right, mod-eq_of_lt, subst}
use Rattle.std.proofs.Math.Nat.{pow-le-pow_right, mul-le-mul_right, mul-lt-mul_of_pos_right, eq-or-lt_of_le}
use Rattle.std.proofs.lemmas.Nat.{leading_top}
use Rattle.std.proofs.lemmas.Bool.{cases_lt}
use lib.Count.{count_leading_zeros}
use Rattle.bd_wide_number.specs.Value.{magnitude, spelled, infinite_bits}
use Rattle.bd_wide_number.proofs.OddLemmas.{products}

-- a number by its quotient and its remainder
pub by_parts : (e f : ℕ) → f < 2 ^ 52 → magnitude (e * 2 ^ 52 + f) ≡ spelled e f
unfolding magnitude
by_parts e f few =
    let q : (e * 2 ^ 52 + f) / 2 ^ 52 ≡ e = omega arith in
    let r : (e * 2 ^ 52 + f) % 2 ^ 52 ≡ f = omega arith in
    rw (q, r) refl

parts_of : (b : ℕ) → (b / 2 ^ 52) * 2 ^ 52 + b % 2 ^ 52 ≡ b
parts_of b = omega arith

-- up to 53 bits
pub small_magnitude : (b : ℕ) → b < 2 ^ 53 → magnitude b ≡ b
small_magnitude b few = ⊎_elim
    (λ (l : b < 2 ^ 52). let e : 0 * 2 ^ 52 + b ≡ b = omega arith in sym (ap magnitude e) ∙ by_parts 0 b l)
    (λ (l : 2 ^ 52 ≤ b).
    let e : 1 * 2 ^ 52 + (b - 2 ^ 52) ≡ b = omega arith in
    sym (ap magnitude e) ∙ by_parts 1 (b - 2 ^ 52) (omega arith) ∙ (let f : (2 ^ 52 + (b - 2 ^ 52)) * 2 ^ 0 ≡ b = omega arith in f))
    (cases_lt b (2 ^ 52))

-- the next exponent
doubled_parts : (e f : ℕ) → f < 2 ^ 52 → magnitude (suc (suc e) * 2 ^ 52 + f) ≡ 2 * magnitude (suc e * 2 ^ 52 + f)
doubled_parts e f few =
    let turned : (2 ^ 52 + f) * 2 ^ suc e ≡ 2 * ((2 ^ 52 + f) * 2 ^ e) = simp (pow-suc, products) in
    by_parts (suc (suc e)) f few ∙ turned ∙ ap (λ (z : ℕ). 2 * z) (sym (by_parts (suc e) f few))

pub doubled_magnitude : (b : ℕ) → 2 ^ 52 ≤ b → magnitude (2 ^ 52 + b) ≡ 2 * magnitude b
doubled_magnitude b high =
    let e = b / 2 ^ 52 - 1 in
    let one_more : suc e * 2 ^ 52 + b % 2 ^ 52 ≡ b = omega arith in
    let two_more : suc (suc e) * 2 ^ 52 + b % 2 ^ 52 ≡ 2 ^ 52 + b = omega arith in
    sym (ap magnitude two_more) ∙ doubled_parts e (b % 2 ^ 52) (omega arith) ∙ ap (λ (z : ℕ). 2 * magnitude z) one_more

-- 53 bits times a power of two
pub scaled_magnitude : (e q : ℕ) → 2 ^ 52 ≤ q → q < 2 ^ 53 → magnitude (e * 2 ^ 52 + q) ≡ q * 2 ^ e
scaled_magnitude zero q low high =
    let e : zero * 2 ^ 52 + q ≡ q = omega arith in ap magnitude e ∙ small_magnitude q high ∙ sym (mul-one q)
scaled_magnitude (suc e) q low high =
    let b : suc e * 2 ^ 52 + q ≡ 2 ^ 52 + (e * 2 ^ 52 + q) = omega arith in
    let turned : 2 * (q * 2 ^ e) ≡ q * 2 ^ suc e = simp (pow-suc, products) in
    ap magnitude b ∙ doubled_magnitude (e * 2 ^ 52 + q) (omega arith) ∙ ap (λ (z : ℕ). 2 * z) (scaled_magnitude e q low high) ∙ turned

-- each is a number of 53 bits times a power of two
spelled_form : (e f : ℕ) → f < 2 ^ 52 → (m : ℕ) × (j : ℕ) × (m < 2 ^ 53) × (m * 2 ^ j ≡ spelled e f)
spelled_form zero f few = (f, 0, omega arith, mul-one f)
spelled_form (suc e) f few = (2 ^ 52 + f, e, omega arith, refl)

pub magnitude_form : (b : ℕ) → (m : ℕ) × (j : ℕ) × (m < 2 ^ 53) × (m * 2 ^ j ≡ magnitude b)
magnitude_form b =
    let s = spelled_form (b / 2 ^ 52) (b % 2 ^ 52) (omega arith) in
    (s.0, s.1, s.2, s.3 ∙ sym (by_parts (b / 2 ^ 52) (b % 2 ^ 52) (omega arith)) ∙ ap magnitude (parts_of b))

-- with an exponent above 0 it is at least 2 ^ 52
spelled_least : (e f : ℕ) → 2 ^ 52 ≤ spelled (suc e) f
spelled_least e f = omega (arith, le-mul_of_pos_right (2 ^ 52 + f) (pow_pos e))

pub magnitude_least : (b : ℕ) → 2 ^ 52 ≤ b → 2 ^ 52 ≤ magnitude b
magnitude_least b high =
    let e = b / 2 ^ 52 - 1 in
    let same : suc e * 2 ^ 52 + b % 2 ^ 52 ≡ b = omega arith in
    let is : magnitude b ≡ spelled (suc e) (b % 2 ^ 52) = sym (ap magnitude same) ∙ by_parts (suc e) (b % 2 ^ 52) (omega arith) in
    omega (arith, spelled_least e (b % 2 ^ 52))

-- ---- magnitudes are in the order of the bits

-- the magnitude with an exponent is below those with the next one
top : (e f : ℕ) → f < 2 ^ 52 → spelled e f < 2 ^ 52 * 2 ^ e
top zero f h = omega arith
top (suc e) f h =
    let more : (2 ^ 52 + f) * 2 ^ e < (2 ^ 52 + 2 ^ 52) * 2 ^ e = mul-lt-mul_of_pos_right (omega arith) (pow_pos e) in
    let power : 2 ^ suc e ≡ 2 ^ e * 2 = pow-suc 2 e in
    omega arith

base : (e f : ℕ) → 2 ^ 52 * 2 ^ e ≤ spelled (suc e) f
base e f = mul-le-mul_right (2 ^ e) (omega arith)

next : (d e f k : ℕ) → d < e → f < 2 ^ 52 → spelled d f < spelled e k
next d zero f k l h = absurd (omega arith)
next d (suc e) f k l h =
    let low = top d f h in
    let high = base e k in
    let powers : 2 ^ d ≤ 2 ^ e = pow-le-pow_right (omega arith) (omega arith) in
    omega arith

same : (e f k : ℕ) → f < k → spelled e f < spelled e k
same zero f k l = l
same (suc e) f k l = mul-lt-mul_of_pos_right (omega arith) (pow_pos e)

parts : (d e f k : ℕ) → d ≤ e → (d ≡ e → f < k) → f < 2 ^ 52 → spelled d f < spelled e k
parts d e f k l h m = elim (eq-or-lt_of_le l) [
  | inl is ↦ subst (λ x. spelled d f < spelled x k) is (same d f k (h is))
  | inr less ↦ next d e f k less m
]

pub rises : (b c : ℕ) → b < c → magnitude b < magnitude c
unfolding magnitude
rises b c l = parts (b / 2 ^ 52) (c / 2 ^ 52) (b % 2 ^ 52) (c % 2 ^ 52) (omega arith) (λ (e : b / 2 ^ 52 ≡ c / 2 ^ 52). omega arith) (omega arith)

pub none_is : magnitude 0 ≡ 0
none_is = small_magnitude 0 (omega arith)

-- ---- `double_bits`

module _ (odd : ℕ) (some : 0 < odd) (few : odd < 2 ^ 53) where
  -- 53 bits after the shift
  shifted : (shift : ℕ) × (count_leading_zeros 64 odd ≡ 11 + shift) × (2 ^ 52 ≤ odd * 2 ^ shift) × (odd * 2 ^ shift < 2 ^ 53) × (shift ≤ 52)
  shifted =
      let top = leading_top 64 odd some (omega arith) in
      let j = top.0 in
      let low : j ≤ 52 = ⊎_elim (λ (l : 52 < j). absurd (omega (arith, pow-le-pow_right {n = 2} (omega arith) l))) (λ (l : j ≤ 52). l) (cases_lt 52 j) in
      let sum : j + (52 - j) ≡ 52 = omega arith in
      let power : 2 ^ j * 2 ^ (52 - j) ≡ 2 ^ 52 = sym (pow-add 2 j (52 - j)) ∙ ap (λ (z : ℕ). 2 ^ z) sum in
      let more : 2 ^ suc j * 2 ^ (52 - j) ≡ 2 ^ 53 = (let turned : 2 ^ suc j * 2 ^ (52 - j) ≡ 2 * (2 ^ j * 2 ^ (52 - j)) = simp (pow-suc, products) in turned ∙ ap (λ (z : ℕ). 2 * z) power) in
      (52 - j, omega (arith, top.1), omega (arith, power, mul-le-mul_right (2 ^ (52 - j)) top.2), omega (arith, more, mul-lt-mul_of_pos_right top.3 (pow_pos (52 - j))), omega arith)

  bits_are : (twos d shift : ℕ) → 5102 + d ≡ twos → shift ≤ d → 2 ^ 52 ≤ odd * 2 ^ shift → odd * 2 ^ shift < 2 ^ 53
      → magnitude ((d - shift) * 2 ^ 52 + odd * 2 ^ shift) ≡ odd * 2 ^ d
  bits_are twos d shift sum less low high =
      let back : shift + (d - shift) ≡ d = omega arith in
      scaled_magnitude (d - shift) (odd * 2 ^ shift) low high
      ∙ (let turned : odd * 2 ^ shift * 2 ^ (d - shift) ≡ odd * 2 ^ (shift + (d - shift)) = simp (pow-add, products) in turned)
      ∙ ap (λ (z : ℕ). odd * 2 ^ z) back

  pub leading_high : 11 ≤ count_leading_zeros 64 odd
  leading_high = let s = shifted in omega (arith, s.1)

  module _ (twos : ℕ) (from : 6128 ≤ twos) (to : twos < 6400) where
    leading_is : (zeros : ℕ) → count_leading_zeros 64 odd ≡ zeros → (bits : ℕ)
        → bits ≡ (twos - 5102 - (zeros - 11)) * 2 ^ 52 + odd * 2 ^ (zeros - 11) % 2 ^ 64
        → (bits < infinite_bits) × ((d : ℕ) → 5102 + d ≡ twos → magnitude bits ≡ odd * 2 ^ d)
    leading_is zeros z bits b =
        let s = shifted in
        let shift = s.0 in
        let same : zeros - 11 ≡ shift = omega (arith, s.1) in
        let kept : odd * 2 ^ shift % 2 ^ 64 ≡ odd * 2 ^ shift = mod-eq_of_lt (let f : odd * 2 ^ shift < 2 ^ 64 = omega (arith, s.3) in f) in
        let is : bits ≡ (twos - 5102 - shift) * 2 ^ 52 + odd * 2 ^ shift =
        b ∙ ap (λ (k : ℕ). (twos - 5102 - k) * 2 ^ 52 + odd * 2 ^ k % 2 ^ 64) same ∙ ap (λ (k : ℕ). (twos - 5102 - shift) * 2 ^ 52 + k) kept in (
          omega (arith, is, s.3),
          λ d sum.
              let start : twos - 5102 - shift ≡ d - shift = omega arith in
              ap magnitude (is ∙ ap (λ (k : ℕ). k * 2 ^ 52 + odd * 2 ^ shift) start) ∙ bits_are twos d shift sum (omega (arith, s.4)) s.2 s.3,
        )

    pub leading_bits : (bits : ℕ) → bits ≡ (twos - 5102 - (count_leading_zeros 64 odd - 11)) * 2 ^ 52 + odd * 2 ^ (count_leading_zeros 64 odd - 11) % 2 ^ 64
        → (bits < infinite_bits) × ((d : ℕ) → 5102 + d ≡ twos → magnitude bits ≡ odd * 2 ^ d)
    leading_bits bits b = leading_is (count_leading_zeros 64 odd) refl bits b
