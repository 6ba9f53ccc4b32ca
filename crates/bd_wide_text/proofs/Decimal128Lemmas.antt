-- The text of a decimal128 by its biased exponent is its text.
use Rattle.std.proofs.Common.{◌≡◌, ◌<◌, ◌≤◌, ◌+◌, ◌-◌, ◌^◌, ◌==◌, ℕ, suc, pos, negsuc, ◌-ℤ◌, false, List, length, refl, sym, ap, ◌∙◌, inl, inr, arith, ltb, eqb, eq-eqb, ne_eqb, codes}
use Rattle.std.proofs.lemmas.Bool.{cases_lt}
use Rattle.std.proofs.lemmas.Fmt.{decimal_is_IsNumeral_wide}
use borrow.Author.Tests.{lt-ltb, le-ltb, lt-leb, le-leb}
use Rattle.std.specs.Fmt.{decimal, digits}
use Rattle.bd_wide_number.specs.Decimal128.{five_bits, coefficient_of, biased_exponent}
use Rattle.bd_wide_text.specs.Decimal128.{decimal128_text, decimal128_size, scientific_string}
use Rattle.bd_wide_text.specs.BiasedText.{biased_string}

-- a coefficient has a digit
pub some_digits : (n : ℕ) → n < 10 ^ 34 → 0 < length (decimal n)
some_digits n few = (decimal_is_IsNumeral_wide n (omega arith)).0.0

-- ---- worked rows

zero_row : decimal128_text 0 0x3040_0000_0000_0000 ≡ codes "0"
unfolding decimal128_text decimal128_size scientific_string digits
zero_row = refl

thousand_row : decimal128_text 1 0x3046_0000_0000_0000 ≡ codes "1E+3"
unfolding decimal128_text decimal128_size scientific_string digits
thousand_row = refl

thousandth_row : decimal128_text 1 0x303A_0000_0000_0000 ≡ codes "0.001"
unfolding decimal128_text decimal128_size scientific_string digits
thousandth_row = refl

small_row : decimal128_text 123 0x3030_0000_0000_0000 ≡ codes "0.00000123"
unfolding decimal128_text decimal128_size scientific_string digits
small_row = refl

smaller_row : decimal128_text 123 0x302E_0000_0000_0000 ≡ codes "1.23E-7"
unfolding decimal128_text decimal128_size scientific_string digits
smaller_row = refl

least_row : decimal128_text 1 0x8000_0000_0000_0000 ≡ codes "-1E-6176"
unfolding decimal128_text decimal128_size scientific_string digits
least_row = refl

-- ---- by the biased exponent

-- the exponent is below 0
below : (digits : List ℕ) (biased : ℕ) → 0 < length digits → biased < 6176 → scientific_string digits (negsuc (6176 - suc biased)) ≡ biased_string digits biased
unfolding scientific_string biased_string
below digits biased some less =
    let places : suc (6176 - suc biased) ≡ 6176 - biased = omega arith in
    let long = length digits in
    let first : ltb 6176 biased ≡ false = le-ltb 6176 biased (omega arith) in
    let other : eqb biased 6176 ≡ false = ne_eqb biased 6176 (λ e. omega arith) in
    elim (cases_lt (biased + long) 6177) [
      | inr whole ↦
          rw (places, le-ltb (long - 1) (6176 - biased) (omega arith), first, le-ltb (biased + long) 6171 (omega arith), other, ne_eqb (6176 - biased) 0 (λ e. omega arith)) refl
      | inl broken ↦
          let power : 6176 - biased - suc (long - 1) ≡ 6176 - (biased + long) = omega arith in
          elim (cases_lt (biased + long) 6171) [
            | inl small ↦
                let next : 6176 - (biased + long) + 1 ≡ 6177 - (biased + long) = omega arith in
                rw (places, lt-ltb (long - 1) (6176 - biased) (omega arith), power, lt-leb (6176 - (biased + long)) 5 (omega arith), first, lt-ltb (biased + long) 6171 small, lt-ltb (biased + long) 6177 broken, next) refl
            | inr near ↦
                rw (places, lt-ltb (long - 1) (6176 - biased) (omega arith), power, le-leb (6176 - (biased + long)) 5 (omega arith), first, le-ltb (biased + long) 6171 near, other, ne_eqb (6176 - biased) 0 (λ e. omega arith)) refl
          ]
    ]

-- the exponent is 0 or more
above : (digits : List ℕ) (biased : ℕ) → 0 < length digits → 6176 ≤ biased → scientific_string digits (pos (biased - 6176)) ≡ biased_string digits biased
unfolding scientific_string biased_string
above digits biased some more =
    let long = length digits in
    elim (cases_lt 6176 biased) [
      | inl far ↦
          let power : biased - 6176 + (long - 1) ≡ biased + long - 6177 = omega arith in
          rw (lt-leb (biased - 6176) 0 (omega arith), power, lt-ltb 6176 biased far, le-ltb (biased + long) 6177 (omega arith)) refl
      | inr near ↦
          let none : biased - 6176 ≡ 0 = omega arith in
          rw (none, le-ltb 6176 biased near, le-ltb (biased + long) 6171 (omega arith), eq-eqb biased 6176 (omega arith)) refl
    ]

pub biased_is : (digits : List ℕ) (biased : ℕ) → 0 < length digits → scientific_string digits (pos biased -ℤ pos 6176) ≡ biased_string digits biased
biased_is digits biased some = elim (cases_lt biased 6176) [
  | inl less ↦ rw (lt-ltb biased 6176 less) (below digits biased some less)
  | inr more ↦ rw (le-ltb biased 6176 more) (above digits biased some more)
]

-- the number that was written is the size
pub size_is : (low high c biased : ℕ) (ds : List ℕ) → (five_bits high == 30) ≡ false → ds ≡ decimal c → c ≡ coefficient_of low high → biased ≡ biased_exponent high → 0 < length ds
    → biased_string ds biased ≡ decimal128_size low high
unfolding decimal128_size
size_is low high c biased ds finite written is exponent some =
    rw finite (sym (biased_is ds biased some) ∙ (λ i. scientific_string ((written ∙ ap decimal is) i) (pos (exponent i) -ℤ pos 6176)))
