-- Odd numbers, powers of two and of five.
use Rattle.std.proofs.Common.{◌≡◌, ◌≢◌, ℕ, zero, suc, ◌+◌, ◌-◌, ◌*◌, ◌/◌, ◌%◌, ◌^◌, ◌<◌, ◌≤◌, refl, sym, ap, ◌∙◌, subst, arith, Option, None, Some, IfNone, IfSome, pow-suc, pow-add, pow_pos, mul_assoc, mul_comm, mul_left_comm, mul-one, one-mul, zero-mul, mul-zero, mul-pos, add-zero, eq-zero-or-pos, ⊎_elim, Fits}
use Rattle.std.proofs.Math.Nat.{one-le-pow, pow-le-pow_right, le-mul_of_pos_right, eq_of_mul-eq-mul_right, mul-mod_left}
use Rattle.std.proofs.lemmas.Nat.{mod-pow-add, mul-lt, shr_split}
use Rattle.std.proofs.lemmas.Nat.Bits.{bit_at-trailing_zeros}
use Rattle.std.specs.Int.{trailing_zeros, w128}
use Rattle.bd_wide_number.specs.declared.odd.Odd.{Odd}
use Rattle.bd_wide_number.specs.inside.Odd.{fives, IsOddOf, IsWide}

-- a fact also holds if there is no value
pub if_none : {A P : Type 0} (o : Option A) → P → IfNone o P
if_none None p = p
if_none (Some a) p = tt

pub ruleset products = (mul_assoc, mul_comm, mul_left_comm)

-- ---- parity

odd_five : (x : ℕ) → x % 2 ≡ 1 → (x * 5) % 2 ≡ 1
odd_five x h = omega arith

pub odd_fives : (x n : ℕ) → x % 2 ≡ 1 → (x * 5 ^ n) % 2 ≡ 1
odd_fives x zero h = simp mul-one h
odd_fives x (suc n) h =
    let e : x * 5 ^ suc n ≡ (x * 5 ^ n) * 5 = simp (pow-suc, products) in
    subst (λ (y : ℕ). y % 2 ≡ 1) (sym e) (odd_five (x * 5 ^ n) (odd_fives x n h))

twice : (m j : ℕ) → m * 2 ^ suc j ≡ (m * 2 ^ j) * 2
twice m j = simp (pow-suc, products)

halved : (a b : ℕ) → a * 2 ≡ b * 2 → a ≡ b
halved a b e = omega arith

-- if an odd number times a power of two is m * 2 ^ j, then m is the odd number times a power of two, and j is at most x
pub odd_form : (o x m j : ℕ) → o % 2 ≡ 1 → m * 2 ^ j ≡ o * 2 ^ x → (d : ℕ) × (j + d ≡ x) × (m ≡ o * 2 ^ d)
odd_form o x m zero h e = (x, omega arith, sym (mul-one m) ∙ e)
odd_form o zero m (suc j) h e = absurd (let f : (m * 2 ^ j) * 2 ≡ o = sym (twice m j) ∙ e ∙ mul-one o in omega arith)
odd_form o (suc x) m (suc j) h e =
    let r = odd_form o x m j h (halved _ _ (sym (twice m j) ∙ e ∙ twice o x)) in
    (r.0, omega arith, r.2)

pub odd_least : (o x m j : ℕ) → o % 2 ≡ 1 → m * 2 ^ j ≡ o * 2 ^ x → o ≤ m
odd_least o x m j h e =
    let r = odd_form o x m j h e in
    omega (arith, r.2, le-mul_of_pos_right o (pow_pos r.0))

-- ---- division by a power of five

-- a power of five that divides twice a number divides it
half_fives : (q k y : ℕ) → q * 5 ^ k ≡ y * 2 → (q / 2) * 5 ^ k ≡ y
half_fives q k y e = even (q % 2) refl (omega arith) where
  even : (r : ℕ) → q % 2 ≡ r → r < 2 → (q / 2) * 5 ^ k ≡ y
  even zero h l =
      let f : q ≡ (q / 2) * 2 = omega arith in
      let turned : (q / 2 * 5 ^ k) * 2 ≡ (q / 2 * 2) * 5 ^ k = simp products in
      halved _ _ (turned ∙ ap (λ (z : ℕ). z * 5 ^ k) (sym f) ∙ e)
  even (suc zero) h l = absurd (let o = odd_fives q k h in omega arith)
  even (suc (suc r)) h l = absurd (omega arith)

pub only_fives : (t q k y : ℕ) → q * 5 ^ k ≡ y * 2 ^ t → (p : ℕ) × (p * 5 ^ k ≡ y)
only_fives zero q k y e = (q, e ∙ mul-one y)
only_fives (suc t) q k y e = only_fives t (q / 2) k y (half_fives q k (y * 2 ^ t) (e ∙ twice y t))

-- ---- the lowest bit

-- no lower bit is set
no_rest : (n t : ℕ) → ((i : ℕ) → i < t → n / 2 ^ i % 2 ≡ 0) → n % 2 ^ t ≡ 0
no_rest n zero h = omega arith
no_rest n (suc t) h =
    let one : n % 2 ^ (1 + t) ≡ (n / 2 ^ t % 2 ^ 1) * 2 ^ t + n % 2 ^ t = mod-pow-add n 1 t in
    let bit : n / 2 ^ t % 2 ≡ 0 = h t (omega arith) in
    let rest : n % 2 ^ t ≡ 0 = no_rest n t (λ i l. h i (omega arith)) in
    let part : (n / 2 ^ t % 2) * 2 ^ t ≡ 0 = ap (λ (z : ℕ). z * 2 ^ t) bit ∙ zero-mul (2 ^ t) in
    let same : 1 + t ≡ suc t = omega arith in
    subst (λ (z : ℕ). n % 2 ^ z ≡ 0) same (one ∙ omega arith)

-- a number without its trailing zero bits is odd, and times 2 for each of them it is the number again
pub stripped_is : (n : ℕ) → 0 < n → n < 2 ^ 128
    → (n / 2 ^ trailing_zeros w128 n % 2 ≡ 1) × (n / 2 ^ trailing_zeros w128 n * 2 ^ trailing_zeros w128 n ≡ n) × (trailing_zeros w128 n < 128)
stripped_is n some fits =
    let low = bit_at-trailing_zeros w128 n some fits in
    let t = trailing_zeros w128 n in
    let rest : n % 2 ^ t ≡ 0 = no_rest n t low.2 in
    let split : n / 2 ^ t * 2 ^ t + n % 2 ^ t ≡ n = shr_split n t in
    (low.1, omega arith, low.0)

-- ---- `divided` and `multiplied`

pub five_to_48 : (n : ℕ) → n ≤ 48 → (0 < 5 ^ n) × (5 ^ n < 2 ^ 128)
five_to_48 n h = (one-le-pow n 5 (omega arith), omega (arith, pow-le-pow_right {n = 5} (omega arith) h))

five_above_48 : (n : ℕ) → 48 < n → 2 ^ 113 ≤ 5 ^ n
five_above_48 n h = omega (arith, pow-le-pow_right {n = 5} (omega arith) h)

pub five_to_27 : (n : ℕ) → n ≤ 27 → (0 < 5 ^ n) × (5 ^ n < 2 ^ 63)
five_to_27 n h = (one-le-pow n 5 (omega arith), omega (arith, pow-le-pow_right {n = 5} (omega arith) h))

five_above_27 : (n : ℕ) → 27 < n → 2 ^ 64 ≤ 5 ^ n
five_above_27 n h = omega (arith, pow-le-pow_right {n = 5} (omega arith) h)

pub none_above_48 : (number n : ℕ) → 0 < number → number < 2 ^ 113 → 48 < n → (q : ℕ) → q * 5 ^ n ≢ number
none_above_48 number n some few h zero e = omega (arith, zero-mul (5 ^ n))
none_above_48 number n some few h (suc q) e =
    omega (arith, five_above_48 n h, le-mul_of_pos_right (5 ^ n) (let p : 0 < suc q = omega arith in p), mul_comm (suc q) (5 ^ n))

pub not_divided : (number power : ℕ) → number % power ≢ 0 → (q : ℕ) → q * power ≢ number
not_divided number power h q e = h (ap (λ (z : ℕ). z % power) (sym e) ∙ mul-mod_left q power)

pub wide_above_27 : (number n : ℕ) → 0 < number → 27 < n → 2 ^ 64 ≤ number * 5 ^ n
wide_above_27 number n some h = omega (arith, five_above_27 n h, le-mul_of_pos_right (5 ^ n) some, mul_comm number (5 ^ n))

pub times_five_le : (number n : ℕ) → number ≤ number * 5 ^ n
times_five_le number n = le-mul_of_pos_right number (one-le-pow n 5 (omega arith))

pub product_fits : (number n : ℕ) → number < 2 ^ 64 → n ≤ 27 → Fits w128 (number * 5 ^ n)
product_fits number n few h = omega (arith, mul-lt number (5 ^ n) (2 ^ 64) (2 ^ 63) few (five_to_27 n h).1)

-- ---- `stripped`

module _ (number twos n t o : ℕ) (odd : o % 2 ≡ 1) (is : o * 2 ^ t ≡ number) where
  spread : (o * 5 ^ n) * 2 ^ (twos + t) ≡ number * 2 ^ twos * 5 ^ n
  spread = let e : (o * 5 ^ n) * 2 ^ (twos + t) ≡ (o * 2 ^ t) * 2 ^ twos * 5 ^ n = simp (pow-add, products) in
      e ∙ ap (λ (z : ℕ). z * 2 ^ twos * 5 ^ n) is

  pub stripped_odd : (p : ℕ) → p ≡ o * 5 ^ n → t < 128 → IsOddOf (number * 2 ^ twos * 5 ^ n) twos (record { odd = p; twos = twos + t })
  stripped_odd p e few = record {
    odd = subst (λ (z : ℕ). z % 2 ≡ 1) (sym e) (odd_fives o n odd);
    is = ap (λ (z : ℕ). z * 2 ^ (twos + t)) e ∙ spread;
    from = omega arith;
    near = omega arith;
  }

  pub stripped_wide : (o * 5 ^ n < 2 ^ 64 → ⊥) → IsWide (number * 2 ^ twos * 5 ^ n)
  stripped_wide long = λ m j few e.
      let least : o * 5 ^ n ≤ m = odd_least (o * 5 ^ n) (twos + t) m j (odd_fives o n odd) (e ∙ sym spread) in
      long (omega arith)

-- ---- `odd_part`

fives_split : (a b : ℕ) → a + b ≡ 6176 → 5 ^ a * 5 ^ b ≡ fives
unfolding fives
fives_split a b e = sym (pow-add 5 a b) ∙ ap (λ (z : ℕ). 5 ^ z) e

pub fives_pos : 0 < fives
unfolding fives
fives_pos = one-le-pow 6176 5 (omega arith)

module _ (number twos f k : ℕ) (sum : f + k ≡ 6176) where
  -- if 5 ^ k does not divide the number
  pub not_whole : ((q : ℕ) → q * 5 ^ k ≢ number) → (n : ℕ) → n * fives ≡ number * 2 ^ twos * 5 ^ f → IsWide n
  not_whole not n e =
      let split = fives_split f k sum in
      let turned : (n * 5 ^ k) * 5 ^ f ≡ n * (5 ^ f * 5 ^ k) = simp products in
      let same : (n * 5 ^ k) * 5 ^ f ≡ number * 2 ^ twos * 5 ^ f = turned ∙ ap (λ (z : ℕ). n * z) split ∙ e in
      let less : n * 5 ^ k ≡ number * 2 ^ twos = eq_of_mul-eq-mul_right (5 ^ f) (one-le-pow f 5 (omega arith)) _ _ same in
      let r = only_fives twos n k number less in
      absurd (not r.0 r.1)

  module _ (q : ℕ) (is : q * 5 ^ k ≡ number) where
    divided_units : (q * 2 ^ twos * 5 ^ 0) * fives ≡ number * 2 ^ twos * 5 ^ f
    divided_units =
        let split = fives_split f k sum in
        let turned : (q * 2 ^ twos) * (5 ^ f * 5 ^ k) ≡ (q * 5 ^ k) * 2 ^ twos * 5 ^ f = simp products in
        ap (λ (z : ℕ). z * fives) (mul-one (q * 2 ^ twos)) ∙ ap (λ (z : ℕ). (q * 2 ^ twos) * z) (sym split) ∙ turned
        ∙ ap (λ (z : ℕ). z * 2 ^ twos * 5 ^ f) is

    pub divided_is : (o : Option Odd) → IfSome o (λ x. IsOddOf (q * 2 ^ twos * 5 ^ 0) twos x)
        → IfSome o (λ x. (n : ℕ) × (n * fives ≡ number * 2 ^ twos * 5 ^ f) × IsOddOf n twos x)
    divided_is None h = tt
    divided_is (Some x) h = (q * 2 ^ twos * 5 ^ 0, divided_units, h)

    pub divided_wide : (o : Option Odd) → IfNone o (IsWide (q * 2 ^ twos * 5 ^ 0))
        → IfNone o ((n : ℕ) → n * fives ≡ number * 2 ^ twos * 5 ^ f → IsWide n)
    divided_wide None h = λ n e. subst IsWide (sym (eq_of_mul-eq-mul_right fives fives_pos n (q * 2 ^ twos * 5 ^ 0) (e ∙ sym divided_units))) h
    divided_wide (Some x) h = tt

module _ (number twos f k : ℕ) (sum : 6176 + k ≡ f) where
  raised_units : (number * 2 ^ twos * 5 ^ k) * fives ≡ number * 2 ^ twos * 5 ^ f
  raised_units =
      let unit : fives ≡ 5 ^ 6176 = sym (fives_split 6176 0 refl) ∙ mul-one (5 ^ 6176) in
      let power : 5 ^ f ≡ fives * 5 ^ k = ap (λ (z : ℕ). 5 ^ z) (sym sum) ∙ pow-add 5 6176 k ∙ ap (λ (z : ℕ). z * 5 ^ k) (sym unit) in
      let turned : (number * 2 ^ twos * 5 ^ k) * fives ≡ number * 2 ^ twos * (fives * 5 ^ k) = simp products in
      turned ∙ ap (λ (z : ℕ). number * 2 ^ twos * z) (sym power)

  pub raised_is : (o : Option Odd) → IfSome o (λ x. IsOddOf (number * 2 ^ twos * 5 ^ k) twos x)
      → IfSome o (λ x. (n : ℕ) × (n * fives ≡ number * 2 ^ twos * 5 ^ f) × IsOddOf n twos x)
  raised_is None h = tt
  raised_is (Some x) h = (number * 2 ^ twos * 5 ^ k, raised_units, h)

  pub raised_wide : (o : Option Odd) → IfNone o (IsWide (number * 2 ^ twos * 5 ^ k))
      → IfNone o ((n : ℕ) → n * fives ≡ number * 2 ^ twos * 5 ^ f → IsWide n)
  raised_wide None h = λ n e. subst IsWide (sym (eq_of_mul-eq-mul_right fives fives_pos n (number * 2 ^ twos * 5 ^ k) (e ∙ sym raised_units))) h
  raised_wide (Some x) h = tt
