-- The codes of numbers, by the values of the numbers.
use Rattle.std.proofs.Common.{◌≡◌, ◌≢◌, ◌⊎◌, ℕ, zero, suc, ◌+◌, ◌-◌, ◌*◌, ◌/◌, ◌%◌, ◌^◌, ◌<◌, ◌≤◌, Bool, true, false, ℤ, pos, neg_ℤ, Option, None, Some, refl, sym, ap, ◌∙◌, arith, inl, inr, ⊎_elim, pow-add, pow_pos, zero-mul, mul-pos, mul-div_cancel, option_map, w64, SFits, to_z, of_z}
use Rattle.std.specs.Prelude.{unsigned_abs}
use Rattle.std.proofs.Math.Nat.{one-le-pow, eq_of_mul-eq-mul_right, mul-mod_left}
use Rattle.std.proofs.lemmas.Nat.{mul-pow, div-add-mod'}
use Rattle.std.proofs.lemmas.Int.{to_z-of_z, fits_signed_from_abs}
use Rattle.std.proofs.lemmas.Bool.{cases_lt, cases_eq}
use borrow.Author.Tests.{lt-ltb, le-ltb, eq-eqb, ne_eqb}
use Rattle.bd_wide_number.specs.Value.{nan, infinite, finite, least_double, magnitude, infinite_bits, has_sign, signed, double_value, decimal128_value}
use Rattle.bd_wide_number.specs.Decimal128.{five_bits, coefficient_of, biased_exponent}
use Rattle.bd_wide_number.specs.Code.{bits_of, double_code, double_part}
use Rattle.bd_wide_number.specs.declared.odd.Odd.{Odd}
use Rattle.bd_wide_number.specs.inside.Odd.{fives, IsOddOf, IsWide}
use Rattle.bd_wide_number.proofs.OddLemmas.{products, fives_pos, odd_least}
use Rattle.bd_wide_number.proofs.ValueLemmas.{doubled_magnitude, magnitude_form, magnitude_least, small_magnitude}

-- ---- options

mapped : {B : Type 0} (f : ℕ → B) (o : Option ℕ) (c : B) → option_map f o ≡ Some c → (x : ℕ) × (o ≡ Some x) × (c ≡ f x)
mapped f None c h = absurd (let no : ⊥ = cc in no)
mapped f (Some x) c h = (x, refl, cc)

none_from : {B : Type 0} (o : Option B) → ((c : B) → o ≡ Some c → ⊥) → o ≡ None
none_from None h = refl
none_from (Some c) h = absurd (h c refl)

-- ---- the bits of a magnitude

bits_low : (n u : ℕ) → u < 2 ^ 53 → bits_of (suc n) u ≡ Some u
unfolding bits_of
bits_low n u few = rw (lt-ltb u (2 ^ 53) few) refl

bits_even : (n u : ℕ) → 2 ^ 53 ≤ u → u % 2 ≡ 0 → bits_of (suc n) u ≡ option_map (λ b. 2 ^ 52 + b) (bits_of n (u / 2))
unfolding bits_of
bits_even n u high even = rw (le-ltb u (2 ^ 53) high, eq-eqb (u % 2) 0 even) refl

bits_odd : (n u : ℕ) → 2 ^ 53 ≤ u → (u % 2 ≡ 0 → ⊥) → bits_of (suc n) u ≡ None
unfolding bits_of
bits_odd n u high odd = rw (le-ltb u (2 ^ 53) high, ne_eqb (u % 2) 0 odd) refl

halves_sound : (n u b x : ℕ) → 2 ^ 53 ≤ u → u % 2 ≡ 0 → b ≡ 2 ^ 52 + x → magnitude x ≡ u / 2 → x < suc n * 2 ^ 52
    → (magnitude b ≡ u) × (b < suc (suc n) * 2 ^ 52)
halves_sound n u b x high even is half few =
    let from : 2 ^ 52 ≤ x = ⊎_elim (λ (l : x < 2 ^ 52). absurd (omega (arith, small_magnitude x (omega arith)))) (λ (l : 2 ^ 52 ≤ x). l) (cases_lt x (2 ^ 52)) in
    (ap magnitude is ∙ doubled_magnitude x from ∙ omega arith, omega arith)

module _ (n u b : ℕ) (below : (x : ℕ) → bits_of n (u / 2) ≡ Some x → (magnitude x ≡ u / 2) × (x < suc n * 2 ^ 52)) (h : bits_of (suc n) u ≡ Some b) where
  sound_above : 2 ^ 53 ≤ u → (u % 2 ≡ 0) ⊎ (u % 2 ≡ 0 → ⊥) → (magnitude b ≡ u) × (b < suc (suc n) * 2 ^ 52)
  sound_above high (inl even) =
      let r = mapped (λ (x : ℕ). 2 ^ 52 + x) (bits_of n (u / 2)) b (sym (bits_even n u high even) ∙ h) in
      let s = below r.0 r.1 in
      halves_sound n u b r.0 high even r.2 s.0 s.1
  sound_above high (inr odd) = absurd (let no : ⊥ = cc (bits_odd n u high odd) in no)

  sound_step : (u < 2 ^ 53) ⊎ (2 ^ 53 ≤ u) → (magnitude b ≡ u) × (b < suc (suc n) * 2 ^ 52)
  sound_step (inl few) =
      let is : u ≡ b = cc (bits_low n u few) in
      (ap magnitude (sym is) ∙ small_magnitude u few, omega arith)
  sound_step (inr high) = sound_above high (cases_eq (u % 2) 0)

bits_sound : (n u b : ℕ) → bits_of n u ≡ Some b → (magnitude b ≡ u) × (b < suc n * 2 ^ 52)
unfolding bits_of
bits_sound zero u b h = absurd (let no : ⊥ = cc in no)
bits_sound (suc n) u b h = sound_step n u b (λ x e. bits_sound n (u / 2) x e) h (cases_lt u (2 ^ 53))

complete_low : (n b : ℕ) → b < 2 ^ 53 → bits_of (suc n) (magnitude b) ≡ Some b
complete_low n b low = ap (bits_of (suc n)) (small_magnitude b low) ∙ bits_low n b low

complete_high : (n b : ℕ) → 2 ^ 53 ≤ b → bits_of (suc n) (magnitude (b - 2 ^ 52)) ≡ Some (b - 2 ^ 52) → bits_of (suc (suc n)) (magnitude b) ≡ Some b
complete_high n b high below =
    let x = b - 2 ^ 52 in
    let back : 2 ^ 52 + x ≡ b = omega arith in
    let twice : magnitude b ≡ 2 * magnitude x = sym (ap magnitude back) ∙ doubled_magnitude x (omega arith) in
    let least : 2 ^ 52 ≤ magnitude x = magnitude_least x (omega arith) in
    let half : magnitude b / 2 ≡ magnitude x = omega arith in
    bits_even (suc n) (magnitude b) (omega arith) (omega arith)
    ∙ ap (λ (z : ℕ). option_map (λ y. 2 ^ 52 + y) (bits_of (suc n) z)) half
    ∙ ap (option_map (λ (y : ℕ). 2 ^ 52 + y)) below ∙ ap Some back

bits_complete : (n b : ℕ) → b < suc (suc n) * 2 ^ 52 → bits_of (suc n) (magnitude b) ≡ Some b
bits_complete zero b few = complete_low zero b (omega arith)
bits_complete (suc n) b few = ⊎_elim
    (λ (low : b < 2 ^ 53). complete_low (suc n) b low)
    (λ (high : 2 ^ 53 ≤ b). complete_high n b high (bits_complete n (b - 2 ^ 52) (omega arith)))
    (cases_lt b (2 ^ 53))

-- ---- multiples of a unit

module _ (x unit size : ℕ) (some : 0 < unit) (is : x * unit ≡ size) where
  no_rest : size % unit ≡ 0
  no_rest = sym (ap (λ (z : ℕ). z % unit) is) ∙ mul-mod_left x unit

  quotient : size / unit ≡ x
  quotient = sym (ap (λ (z : ℕ). z / unit) is) ∙ mul-div_cancel x some

multiple : (size unit : ℕ) → size % unit ≡ 0 → (size / unit) * unit ≡ size
multiple size unit h = let split = div-add-mod' size unit in omega arith

-- the least double has more than zero units
pub least_pos : 0 < least_double
unfolding least_double
least_pos = mul-pos (pow_pos 5102) (one-le-pow 6176 5 (omega arith))

-- ---- a number of units as a double

pub double_is : (negative : Bool) (size b : ℕ) → b < infinite_bits → magnitude b * least_double ≡ size → double_part negative size ≡ Some (signed negative b)
unfolding double_part
double_is negative size b few is =
    let whole = eq-eqb (size % least_double) 0 (no_rest (magnitude b) least_double size least_pos is) in
    let bits : bits_of 2046 (size / least_double) ≡ Some b =
    ap (bits_of 2046) (quotient (magnitude b) least_double size least_pos is) ∙ bits_complete 2045 b few in
    rw (whole, bits) refl

pub double_gives : (negative : Bool) (size : ℕ) (c : ℤ) → double_part negative size ≡ Some c
    → (b : ℕ) × (b < infinite_bits) × (magnitude b * least_double ≡ size) × (c ≡ signed negative b)
unfolding double_part
double_gives negative size c h = by_rest (cases_eq (size % least_double) 0) where
  by_rest : (size % least_double ≡ 0) ⊎ (size % least_double ≡ 0 → ⊥)
      → (b : ℕ) × (b < infinite_bits) × (magnitude b * least_double ≡ size) × (c ≡ signed negative b)
  by_rest (inl none) =
      let found : option_map (signed negative) (bits_of 2046 (size / least_double)) ≡ Some c = rw (eq-eqb (size % least_double) 0 none) at h in
      let r = mapped (signed negative) (bits_of 2046 (size / least_double)) c found in
      let s = bits_sound 2046 (size / least_double) r.0 r.1 in
      (r.0, s.1, ap (λ (z : ℕ). z * least_double) s.0 ∙ multiple size least_double none, r.2)
  by_rest (inr some) = absurd (let f : None ≡ Some c = rw (ne_eqb (size % least_double) 0 some) at h in let no : ⊥ = cc in no)

pub double_none : (negative : Bool) (size : ℕ) → ((b : ℕ) → b < infinite_bits → magnitude b * least_double ≡ size → ⊥) → double_part negative size ≡ None
double_none negative size h = none_from (double_part negative size)
    (λ (c : ℤ) (e : double_part negative size ≡ Some c). let r = double_gives negative size c e in h r.0 r.1 r.2)

-- ---- the units

pub least_is : least_double ≡ 2 ^ 5102 * fives
unfolding least_double fives
least_is = refl

tens : (x n : ℕ) → x * 10 ^ n ≡ x * 2 ^ n * 5 ^ n
tens x n = let e : 10 ^ n ≡ 2 ^ n * 5 ^ n = mul-pow 2 5 n in ap (λ (z : ℕ). x * z) e ∙ (let f : x * (2 ^ n * 5 ^ n) ≡ x * 2 ^ n * 5 ^ n = simp products in f)

module _ (s : ℕ) (unit : least_double ≡ 2 ^ s * fives) where
  as_form : (b size : ℕ) → magnitude b * least_double ≡ size → (m : ℕ) × (j : ℕ) × (m < 2 ^ 53) × ((m * 2 ^ j) * fives ≡ size)
  as_form b size is =
      let f = magnitude_form b in
      let turned : (f.0 * 2 ^ (f.1 + s)) * fives ≡ (f.0 * 2 ^ f.1) * (2 ^ s * fives) = simp (pow-add, products) in
      (f.0, f.1 + s, f.2, turned ∙ ap (λ (z : ℕ). z * (2 ^ s * fives)) f.3 ∙ ap (λ (z : ℕ). magnitude b * z) (sym unit) ∙ is)

  found_units : (b odd d : ℕ) → magnitude b ≡ odd * 2 ^ d → magnitude b * least_double ≡ (odd * 2 ^ (s + d)) * fives
  found_units b odd d is =
      let turned : (odd * 2 ^ d) * (2 ^ s * fives) ≡ (odd * 2 ^ (s + d)) * fives = simp (pow-add, products) in
      ap (λ (z : ℕ). z * least_double) is ∙ ap (λ (z : ℕ). (odd * 2 ^ d) * z) unit ∙ turned

-- ---- a number times a power of ten, as a double

-- the code of 0 by a double is 0, whatever its sign
pub zero_double : (negative : Bool) (size : ℕ) → size ≡ 0 → Some (pos 0) ≡ double_part negative size
zero_double true size e = sym (double_is true size 0 (omega arith) (ap (λ (z : ℕ). z * least_double) (small_magnitude 0 (omega arith)) ∙ zero-mul least_double ∙ sym e))
zero_double false size e = sym (double_is false size 0 (omega arith) (ap (λ (z : ℕ). z * least_double) (small_magnitude 0 (omega arith)) ∙ zero-mul least_double ∙ sym e))

pub double_wide : (negative : Bool) (number e : ℕ) → ((n : ℕ) → n * fives ≡ number * 2 ^ e * 5 ^ e → IsWide n) → double_part negative (number * 10 ^ e) ≡ None
double_wide negative number e wide = double_none negative (number * 10 ^ e) (λ b few is.
    let r = as_form 5102 least_is b (number * 10 ^ e) is in
    wide (r.0 * 2 ^ r.1) (r.3 ∙ tens number e) r.0 r.1 (omega arith) refl)

module _ (negative : Bool) (number e n : ℕ) (o : Odd) (units : n * fives ≡ number * 2 ^ e * 5 ^ e) (odd : IsOddOf n e o) where
  pub double_large : 2 ^ 53 ≤ o.odd → double_part negative (number * 10 ^ e) ≡ None
  double_large large = double_none negative (number * 10 ^ e) (λ b few is.
      let r = as_form 5102 least_is b (number * 10 ^ e) is in
      let same : r.0 * 2 ^ r.1 ≡ n = eq_of_mul-eq-mul_right fives fives_pos _ _ (r.3 ∙ tens number e ∙ sym units) in
      let least : o.odd ≤ r.0 = odd_least o.odd o.twos r.0 r.1 odd.odd (same ∙ sym odd.is) in
      omega arith)

  pub double_found : (b d : ℕ) → b < infinite_bits → 5102 + d ≡ o.twos → magnitude b ≡ o.odd * 2 ^ d
      → double_part negative (number * 10 ^ e) ≡ Some (signed negative b)
  double_found b d few sum is = double_is negative (number * 10 ^ e) b few
      (found_units 5102 least_is b o.odd d is ∙ ap (λ (z : ℕ). (o.odd * 2 ^ z) * fives) sum ∙ ap (λ (z : ℕ). z * fives) odd.is ∙ units ∙ sym (tens number e))

-- ---- signs

signed_size : (negative : Bool) (n : ℕ) → unsigned_abs (signed negative n) ≡ n
signed_size true zero = refl
signed_size true (suc n) = refl
signed_size false n = refl

pub same_passed : (z : ℤ) → SFits w64 z → Some (to_z w64 (of_z w64 z)) ≡ Some z
same_passed z fits = ap Some (to_z-of_z w64 z fits)

-- a whole number below 2^63, with its sign, goes through the 64 bits of an int64 unchanged
pub passed : (negative : Bool) (n : ℕ) (z : ℤ) → n < 2 ^ 63 → z ≡ signed negative n → Some (to_z w64 (of_z w64 z)) ≡ Some (signed negative n)
passed negative n z few e =
    let size : unsigned_abs z ≡ n = ap unsigned_abs e ∙ signed_size negative n in
    same_passed z (fits_signed_from_abs w64 z (let f : unsigned_abs z < 2 ^ 63 = omega arith in f)) ∙ ap Some e

-- ---- doubles

module _ (bits : ℕ) where
  -- bits above those of an infinity are a NaN
  pub nan_is : infinite_bits < bits % 2 ^ 63 → double_value bits ≡ nan
  unfolding double_value
  nan_is h = rw (lt-ltb infinite_bits (bits % 2 ^ 63) h) refl

  -- these bits, with a sign, are an infinity
  pub infinite_is : bits % 2 ^ 63 ≡ infinite_bits → double_value bits ≡ infinite (has_sign bits)
  unfolding double_value
  infinite_is h = rw (le-ltb infinite_bits (bits % 2 ^ 63) (omega arith), eq-eqb (bits % 2 ^ 63) infinite_bits h) refl

  -- bits below those of an infinity are a finite double
  pub finite_is : bits % 2 ^ 63 < infinite_bits → double_value bits ≡ finite (has_sign bits) (magnitude (bits % 2 ^ 63) * least_double)
  unfolding double_value
  finite_is h = rw (le-ltb infinite_bits (bits % 2 ^ 63) (omega arith), ne_eqb (bits % 2 ^ 63) infinite_bits (omega arith)) refl

  -- the code of a NaN is the least int64
  pub nan_code : infinite_bits < bits % 2 ^ 63 → double_code (double_value bits) ≡ Some (neg_ℤ (pos (2 ^ 63)))
  unfolding double_code
  nan_code h = ap double_code (nan_is h)

  -- the code of a double is its bits without the sign, with the sign as that of a number
  pub bits_code : bits % 2 ^ 63 ≤ infinite_bits → double_code (double_value bits) ≡ Some (signed (has_sign bits) (bits % 2 ^ 63))
  unfolding double_code
  bits_code h = ⊎_elim
      (λ (l : bits % 2 ^ 63 < infinite_bits). ap double_code (finite_is l) ∙ double_is (has_sign bits) (magnitude (bits % 2 ^ 63) * least_double) (bits % 2 ^ 63) l refl)
      (λ (l : infinite_bits ≤ bits % 2 ^ 63). let same : bits % 2 ^ 63 ≡ infinite_bits = omega arith in
      ap double_code (infinite_is same) ∙ ap (λ (z : ℕ). Some (signed (has_sign bits) z)) (sym same))
      (cases_lt (bits % 2 ^ 63) infinite_bits)

-- ---- decimals

module _ (low high : ℕ) where
  -- five bits that are 31 are a NaN
  pub decimal_nan : five_bits high ≡ 31 → decimal128_value low high ≡ nan
  unfolding decimal128_value
  decimal_nan h = rw (eq-eqb (five_bits high) 31 h) refl

  -- five bits that are 30 are an infinity
  pub decimal_infinite : five_bits high ≡ 30 → decimal128_value low high ≡ infinite (has_sign high)
  unfolding decimal128_value
  decimal_infinite h = rw (ne_eqb (five_bits high) 31 (omega arith), eq-eqb (five_bits high) 30 h) refl

  -- all others are a finite number: its coefficient times its power of ten
  pub decimal_finite : five_bits high ≢ 31 → five_bits high ≢ 30
      → decimal128_value low high ≡ finite (has_sign high) (coefficient_of low high * 10 ^ biased_exponent high)
  unfolding decimal128_value
  decimal_finite g h = rw (ne_eqb (five_bits high) 31 g, ne_eqb (five_bits high) 30 h) refl
