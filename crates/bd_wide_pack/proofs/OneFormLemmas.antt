-- Each decimal128 has one form with its text and its value, and the value of a double is NaN if the double is.
use Rattle.std.proofs.Common.{◌≡◌, ◌<◌, ℕ, zero, suc, ◌+◌, ◌*◌, ◌/◌, ◌%◌, ◌^◌, ◌==◌, pos, ◌-ℤ◌, Bool, true, false, cond, ◌++◌, leb, refl, sym, ap, ◌∙◌, inl, inr, arith, ne_eqb, eq-eqb, decimal}
use Rattle.std.proofs.lemmas.Bool.{cases_eq, cases_lt, eqb-true}
use Rattle.std.proofs.lemmas.Nat.{shr-shr}
use borrow.Author.Tests.{lt-leb, le-leb}
use Rattle.std.specs.Fmt.{sign_text}
use Rattle.std.specs.Float.{binary64}
use lib.Ieee.{Float, nan, inf, of_bits, of_fields, odd}
use Rattle.bd_wide_number.specs.Decimal128.{five_bits, coefficient_of, biased_exponent}
use Rattle.bd_wide_number.specs.Value as worths
use Rattle.bd_wide_number.specs.Value.{decimal128_value, double_value, finite, has_sign}
use Rattle.bd_wide_number.proofs.CodeLemmas.{nan_is}
use Rattle.bd_wide_text.specs.Decimal128.{decimal128_size, decimal128_text, exponent_of, scientific_string}
use Rattle.bd_wide_read.specs.DecimalText.{IsCanonical, high_half}
use Rattle.bd_wide_read.proofs.DecimalTextLemmas.{coefficient_below}

-- ---- doubles

odd_number : (d : ℕ) (s : Bool) (q k l : ℕ) → odd d s q k l ≡ nan → ⊥
unfolding odd
odd_number d s zero k l h = cc
odd_number d s (suc q) k l h = cc

nan_by : (a b s : Bool) (v : Float) → (v ≡ nan → ⊥) → cond a (cond b (inf s) nan) v ≡ nan → (a ≡ true) × (b ≡ false)
nan_by true true s v other h = absurd cc
nan_by true false s v other h = (refl, refl)
nan_by false b s v other h = absurd (other h)

some_of : (t : ℕ) → (t == 0) ≡ false → 0 < t
some_of zero h = absurd cc
some_of (suc t) h = omega arith

nan_fields : (s : Bool) (x t : ℕ) → of_fields binary64 s x t ≡ nan → (x ≡ 2047) × (0 < t)
unfolding of_fields
nan_fields s zero t h = absurd (odd_number 53 s t 0 1074 h)
nan_fields s (suc x) t h =
    let p = nan_by (suc x == 2047) (t == 0) s (odd 53 s (2 ^ 52 + t) x 1074) (odd_number 53 s (2 ^ 52 + t) x 1074) h in
    (eqb-true (suc x) 2047 p.0, some_of t p.1)

-- the value of a double that is NaN
pub nan_value : (bits : ℕ) → of_bits binary64 bits ≡ nan → double_value bits ≡ worths.nan
unfolding of_bits
nan_value bits h =
    let p = nan_fields (leb 9223372036854775808 bits) (bits % 9223372036854775808 / 4503599627370496) (bits % 4503599627370496) h in
    nan_is bits (omega (arith, p.0, p.1))

-- ---- decimal128

-- The decimal128 in its one form has the same text and the same value.
pub record HasForm (low high : ℕ) : Type 0 where
  pub lower : ℕ
  pub upper : ℕ
  pub low_fits : lower < 2 ^ 64
  pub high_fits : upper < 2 ^ 64
  pub canonical : IsCanonical lower upper
  pub text : decimal128_text low high ≡ decimal128_text lower upper
  pub value : decimal128_value low high ≡ decimal128_value lower upper

finite_text : (low high : ℕ) → five_bits high < 30 → decimal128_text low high ≡ sign_text (leb (2 ^ 63) high) ++ scientific_string (decimal (coefficient_of low high)) (exponent_of high)
unfolding decimal128_text decimal128_size
finite_text low high h = rw (ne_eqb (five_bits high) 31 (λ e. omega arith), ne_eqb (five_bits high) 30 (λ e. omega arith)) refl

finite_value : (low high : ℕ) → five_bits high < 30 → decimal128_value low high ≡ finite (has_sign high) (coefficient_of low high * 10 ^ biased_exponent high)
unfolding decimal128_value
finite_value low high h = rw (ne_eqb (five_bits high) 31 (λ e. omega arith), ne_eqb (five_bits high) 30 (λ e. omega arith)) refl

exponent_inside : (high : ℕ) → five_bits high < 30 → biased_exponent high < 12288
exponent_inside high h =
    let one : high / 2 ^ 49 / 2 ^ 9 ≡ high / 2 ^ 58 = shr-shr high 49 9 in
    let two : high / 2 ^ 47 / 2 ^ 11 ≡ high / 2 ^ 58 = shr-shr high 47 11 in
    elim (cases_lt (five_bits high) 24) [
      | inl less ↦ rw (lt-leb 24 (five_bits high) less) (omega (arith, one))
      | inr more ↦ rw (le-leb 24 (five_bits high) more) (omega (arith, two))
    ]

-- the upper half of the bits of a sign, the upper bits of a coefficient and an exponent
abbrev half : Bool → ℕ → ℕ → ℕ
half s u b = cond s (2 ^ 63) 0 + (b * 2 ^ 49 + u)

half_parts : (s : Bool) (u b : ℕ) → u < 2 ^ 49 → b < 12288
    → (half s u b / 2 ^ 58 % 32 < 24) × (half s u b % 2 ^ 49 ≡ u) × (half s u b / 2 ^ 49 % 2 ^ 14 ≡ b) × (leb (2 ^ 63) (half s u b) ≡ s) × (half s u b < 2 ^ 64)
half_parts true u b few inside = (omega arith, omega arith, omega arith, le-leb (2 ^ 63) (half true u b) (omega arith), omega arith)
half_parts false u b few inside = (omega arith, omega arith, omega arith, lt-leb (2 ^ 63) (half false u b) (omega arith), omega arith)

finite_form : (low high : ℕ) → five_bits high < 30 → HasForm low high
finite_form low high h =
    let c = coefficient_of low high in
    let b = biased_exponent high in
    let s = leb (2 ^ 63) high in
    let few : c < 10 ^ 34 = coefficient_below low high in
    let upper : c / 2 ^ 64 < 2 ^ 49 = omega arith in
    let n = high_half s c b in
    let m = c % 2 ^ 64 in
    let p = half_parts s (c / 2 ^ 64) b upper (exponent_inside high h) in
    let all : n % 2 ^ 49 * 2 ^ 64 + m ≡ c = ap (λ (k : ℕ). k * 2 ^ 64 + m) p.1 ∙ (let whole : c / 2 ^ 64 * 2 ^ 64 + c % 2 ^ 64 ≡ c = omega arith in whole) in
    let below : n % 2 ^ 49 * 2 ^ 64 + m < 10 ^ 34 = omega (arith, all) in
    let same_c : coefficient_of m n ≡ c = (let open_up : coefficient_of m n ≡ n % 2 ^ 49 * 2 ^ 64 + m = rw (lt-leb 24 (five_bits n) p.0, lt-leb (10 ^ 34) (n % 2 ^ 49 * 2 ^ 64 + m) below) refl in open_up ∙ all) in
    let same_b : biased_exponent n ≡ b = (let open_up : biased_exponent n ≡ n / 2 ^ 49 % 2 ^ 14 = rw (lt-leb 24 (five_bits n) p.0) refl in open_up ∙ p.2) in
    let inside : five_bits n < 30 = omega (arith, p.0) in
    record {
      lower = m;
      upper = n;
      low_fits = omega arith;
      high_fits = p.4;
      canonical = inl (p.0, below);
      text = finite_text low high h ∙ (λ i. sign_text (sym p.3 i) ++ scientific_string (decimal (sym same_c i)) (pos (sym same_b i) -ℤ pos 6176)) ∙ sym (finite_text m n inside);
      value = finite_value low high h ∙ (λ i. finite (sym p.3 i) (sym same_c i * 10 ^ sym same_b i)) ∙ sym (finite_value m n inside);
    }

infinite_form : (low high : ℕ) → five_bits high ≡ 30 → HasForm low high
unfolding decimal128_text decimal128_size decimal128_value
infinite_form low high h = elim (cases_lt high (2 ^ 63)) [
  | inl less ↦ record {
    lower = 0;
    upper = 0x7800_0000_0000_0000;
    low_fits = omega arith;
    high_fits = omega arith;
    canonical = inr (refl, inr (inl refl));
    text = rw (ne_eqb (five_bits high) 31 (λ e. omega arith), eq-eqb (five_bits high) 30 h, lt-leb (2 ^ 63) high less) refl;
    value = rw (ne_eqb (five_bits high) 31 (λ e. omega arith), eq-eqb (five_bits high) 30 h, lt-leb (2 ^ 63) high less) refl;
  }
  | inr more ↦ record {
    lower = 0;
    upper = 0xF800_0000_0000_0000;
    low_fits = omega arith;
    high_fits = omega arith;
    canonical = inr (refl, inr (inr refl));
    text = rw (ne_eqb (five_bits high) 31 (λ e. omega arith), eq-eqb (five_bits high) 30 h, le-leb (2 ^ 63) high more) refl;
    value = rw (ne_eqb (five_bits high) 31 (λ e. omega arith), eq-eqb (five_bits high) 30 h, le-leb (2 ^ 63) high more) refl;
  }
]

nan_form : (low high : ℕ) → five_bits high ≡ 31 → HasForm low high
unfolding decimal128_text decimal128_value
nan_form low high h = record {
  lower = 0;
  upper = 0x7C00_0000_0000_0000;
  low_fits = omega arith;
  high_fits = omega arith;
  canonical = inr (refl, inl refl);
  text = rw (eq-eqb (five_bits high) 31 h) refl;
  value = rw (eq-eqb (five_bits high) 31 h) refl;
}

-- the one form of a decimal128
pub decimal_form : (low high : ℕ) → HasForm low high
decimal_form low high =
    let small : five_bits high < 32 = omega arith in
    elim (cases_lt (five_bits high) 30) [
      | inl less ↦ finite_form low high less
      | inr more ↦ elim (cases_eq (five_bits high) 30) [ inl is ↦ infinite_form low high is | inr other ↦ nan_form low high (omega arith) ]
    ]
