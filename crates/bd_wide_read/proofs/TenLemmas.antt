-- Numbers times powers of ten.
use Rattle.std.proofs.Common.{◌≡◌, ℕ, zero, suc, ◌+◌, ◌-◌, ◌*◌, ◌%◌, ◌^◌, ◌<◌, ◌≤◌, sym, ap, ◌∙◌, arith, pow-add, mul_assoc, one-mul, zero-mul}
use Rattle.std.proofs.Math.Nat.{one-le-pow, pow-le-pow_right, le-mul_of_pos_right, eq_of_mul-eq-mul_right, mul-mod_left, mul_right_comm, mul-le-mul_right, mul-lt-mul_of_pos_right}

pub ten_pos : (k : ℕ) → 0 < 10 ^ k
ten_pos k = one-le-pow k 10 (omega arith)

pub joined : (c a b : ℕ) → c * 10 ^ (a + b) ≡ c * 10 ^ a * 10 ^ b
joined c a b = rw (pow-add 10 a b) (sym (mul_assoc c (10 ^ a) (10 ^ b)))

pub grows : (m k : ℕ) → m ≤ m * 10 ^ k
grows m k = le-mul_of_pos_right m (ten_pos k)

-- the same number by other powers of ten
pub moved : (c m k l i j : ℕ) → k + j ≡ i + l → c * 10 ^ k ≡ m * 10 ^ l → c * 10 ^ i ≡ m * 10 ^ j
moved c m k l i j same e =
    eq_of_mul-eq-mul_right (10 ^ l) (ten_pos l) (c * 10 ^ i) (m * 10 ^ j)
    (sym (joined c i l) ∙ ap (λ (n : ℕ). c * 10 ^ n) (sym same) ∙ joined c k j ∙ ap (λ (n : ℕ). n * 10 ^ j) e ∙ mul_right_comm m (10 ^ l) (10 ^ j))

-- if the powers leave m to be multiplied by ten at least once, 34 digits become more
pub too_large : (c m k l : ℕ) → 10 ^ 33 ≤ m → k < l → c * 10 ^ k ≡ m * 10 ^ l → 10 ^ 34 ≤ c
too_large c m k l full less e =
    let f : c * 10 ^ 0 ≡ m * 10 ^ (1 + (l - suc k)) = moved c m k l 0 (1 + (l - suc k)) (omega arith) e in
    let g : m * 10 ^ (1 + (l - suc k)) ≡ m * 10 ^ 1 * 10 ^ (l - suc k) = joined m 1 (l - suc k) in
    omega (arith, f, g, grows (m * 10 ^ 1) (l - suc k))

-- the power of ten is a number of 128 bits
pub power_fits : (k : ℕ) → k ≤ 34 → 10 ^ k < 2 ^ 128
power_fits k few = let h : 10 ^ k ≤ 10 ^ 34 = pow-le-pow_right (omega arith) few in omega (arith, h)

-- ---- division by a power of ten

pub far_none : (number k c : ℕ) → 0 < number → number < 10 ^ 34 → 34 ≤ k → c * 10 ^ k ≡ number → ⊥
far_none number k zero some few far e = omega (arith, zero-mul (10 ^ k))
far_none number k (suc c) some few far e =
    let h : 10 ^ 34 ≤ 10 ^ k = pow-le-pow_right (omega arith) far in
    let g : 1 * 10 ^ k ≤ suc c * 10 ^ k = mul-le-mul_right (10 ^ k) (omega arith) in
    omega (arith, h, g, one-mul (10 ^ k))

pub rest_none : (number k c : ℕ) → (number % 10 ^ k ≡ 0 → ⊥) → c * 10 ^ k ≡ number → ⊥
rest_none number k c rest e = rest (ap (λ (n : ℕ). n % 10 ^ k) (sym e) ∙ mul-mod_left c (10 ^ k))

-- ---- products that have 34 digits

ten_split : (k : ℕ) → k ≤ 34 → 10 ^ (34 - k) * 10 ^ k ≡ 10 ^ 34
ten_split k few = let same : 34 - k + k ≡ 34 = omega arith in sym (pow-add 10 (34 - k) k) ∙ ap (λ (n : ℕ). 10 ^ n) same

pub product_fits : (number k : ℕ) → k ≤ 34 → number < 10 ^ (34 - k) → number * 10 ^ k < 10 ^ 34
product_fits number k few less =
    let h : number * 10 ^ k < 10 ^ (34 - k) * 10 ^ k = mul-lt-mul_of_pos_right less (ten_pos k) in
    omega (arith, h, ten_split k few)

pub product_large : (number k : ℕ) → k ≤ 34 → 10 ^ (34 - k) ≤ number → 10 ^ 34 ≤ number * 10 ^ k
product_large number k few more =
    let h : 10 ^ (34 - k) * 10 ^ k ≤ number * 10 ^ k = mul-le-mul_right (10 ^ k) more in
    omega (arith, h, ten_split k few)

pub product_far : (number k : ℕ) → 0 < number → 34 ≤ k → 10 ^ 34 ≤ number * 10 ^ k
product_far number k some far =
    let h : 10 ^ 34 ≤ 10 ^ k = pow-le-pow_right (omega arith) far in
    let g : 1 * 10 ^ k ≤ number * 10 ^ k = mul-le-mul_right (10 ^ k) some in
    omega (arith, h, g, one-mul (10 ^ k))
