-- The text of a decimal128 is read as the decimal128.
use Rattle.std.proofs.Common.{◌≡◌, ◌<◌, ◌≤◌, ◌⊎◌, ℕ, zero, suc, ◌+◌, ◌-◌, ◌*◌, ◌/◌, ◌%◌, ◌^◌, ◌==◌, Bool, true, false, cond, List, [], ◌∷◌, ◌++◌, length, take, drop, refl, sym, ap, ◌∙◌, subst, inl, inr, arith, leb, ne_eqb, eq-eqb, Result, Ok, Err, append-nil, length-append, length-take, length-drop, take-append-drop, true≢false, min, ltb, codes, ◌||◌}
use Rattle.std.proofs.lemmas.Bool.{cases_lt}
use Rattle.std.proofs.lemmas.List.{length-replicate}
use Rattle.std.proofs.lemmas.Nat.{shr-shr}
use Rattle.std.proofs.lemmas.Str.Parse.{digit_from_value}
use Rattle.std.proofs.lemmas.Fmt.{decimal_is_IsNumeral_wide, length-decimal-le_wide}
use Rattle.std.proofs.lemmas.Float.Parse.{scan_numeral-text_of}
use Rattle.std.proofs.Math.Nat.{eq_of_mul-eq-mul_right}
use borrow.Author.Tests.{lt-ltb, le-ltb, lt-leb, le-leb}
use Rattle.std.specs.Fmt.{decimal, sign_text}
use Rattle.std.specs.List.{list_any}
use Rattle.std.proofs.lemmas.List.Folds.{list_any-append}
use Rattle.std.specs.Str.Parse.{AllDigits, digits_value, digits_value_after}
use Rattle.std.specs.Float.Numeral.{Parts, scan_numeral, numeral_digits, tens_up, tens_down, IsWellFormed}
use Rattle.fast_float.proofs.Rows.{AllDigits-take, AllDigits-drop, AllDigits-append}
use Rattle.bd_wide_number.specs.Decimal128.{five_bits, coefficient_of, biased_exponent}
use Rattle.bd_wide_text.specs.Layout.{mantissa, zeros}
use Rattle.bd_wide_text.specs.Decimal128.{decimal128_size, decimal128_text, exponent_of, scientific_string}
use Rattle.bd_wide_text.specs.BiasedText.{biased_power_text, biased_string}
use Rattle.bd_wide_text.proofs.Decimal128Lemmas.{biased_is, size_is as text_size_is}
use Rattle.bd_wide_read.specs.declared.fault.TextFault.{TextFault}
use Rattle.bd_wide_read.specs.declared.fault.TextFault.TheVariants.{BadText, OutOfRange}
use Rattle.bd_wide_read.specs.DecimalText.{number, IsCanonical, IsExact, IsRead, IsWorth, high_half, is_numeral, numeric_of, scaled_of, size_of}
use Rattle.bd_wide_read.specs.inside.Digits.{scaled}
use Rattle.bd_wide_read.proofs.DoubleLemmas.{AllDigits-zeros}
use Rattle.bd_wide_read.proofs.DecimalLemmas.{value_append}
use Rattle.bd_wide_text.proofs.ReadBackLemmas.{parts, scan_scientific, sign_byte}
use Rattle.bd_wide_read.proofs.TenLemmas.{ten_pos}

-- ---- the numeral of a layout

-- The text is that of n * 10 ^ (b - 6176), and begins with a digit.
record IsText (text : List ℕ) (n b : ℕ) : Type 0 where
  all : is_numeral text ≡ true
  value : scaled_of (scan_numeral text) ≡ scaled n b 0
  first : ℕ
  rest : List ℕ
  begins : text ≡ first ∷ rest
  digit : (48 ≤ first) × (first ≤ 57)

begins_with : (ds rest : List ℕ) → AllDigits 10 ds → 0 < length ds → (d : ℕ) × (t : List ℕ) × (ds ++ rest ≡ d ∷ t) × (48 ≤ d) × (d ≤ 57)
begins_with [] rest all some = absurd (omega arith)
begins_with (d ∷ ds) rest all some = let r = digit_from_value d all.0 in (d, ds ++ rest, refl, r.0, r.1)

text_is : (text : List ℕ) (p : Parts) (n b : ℕ) → scan_numeral text ≡ p → p.len ≡ length text → 0 < length p.whole + length p.fraction → numeral_digits p ≡ n
    → tens_up p + 6176 ≡ b + tens_down p → ((d : ℕ) × (t : List ℕ) × (text ≡ d ∷ t) × (48 ≤ d) × (d ≤ 57)) → IsText text n b
text_is text p n b scans long some value power_is start = record {
  all = rw scans (rw (lt-ltb 0 (length p.whole + length p.fraction) some) (eq-eqb p.len (length text) long));
  value =
      let above : tens_up p + 6176 - tens_down p ≡ b = omega arith in
      let below : tens_down p - (tens_up p + 6176) ≡ 0 = omega arith in
      ap scaled_of scans ∙ (λ i. scaled (value i) (above i) (below i));
  first = start.0;
  rest = start.1;
  begins = start.2;
  digit = (start.3, start.4);
}

-- digits, a point and digits
point_text : (whole fraction : List ℕ) (b : ℕ) → AllDigits 10 whole → AllDigits 10 fraction → 0 < length whole → length fraction ≤ 6176 → b ≡ 6176 - length fraction
    → IsText (whole ++ (46 ∷ fraction)) (digits_value 10 (whole ++ fraction)) b
point_text whole fraction b w f some few at =
    let text = whole ++ ((46 ∷ fraction) ++ []) in
    let p : Parts = record { whole = whole; point = true; fraction = fraction; exponent_negative = false; exponent = []; len = length text } in
    let good : IsWellFormed p = record { whole_digits = w; fraction_digits = f; exponent_digits = tt; no_point = λ e. absurd (true≢false e); no_exponent = λ e. refl; len_is = refl } in
    let is : IsText text (digits_value 10 (whole ++ fraction)) b = text_is text p _ b (scan_numeral-text_of p good) refl (omega arith) refl (omega arith) (begins_with whole _ w some) in
    subst (λ (t : List ℕ). IsText (whole ++ (46 ∷ t)) (digits_value 10 (whole ++ fraction)) b) (append-nil fraction) is

plain_text : (digits : List ℕ) → AllDigits 10 digits → 0 < length digits → IsText digits (digits_value 10 digits) 6176
plain_text digits all some =
    let text = digits ++ ([] ++ []) in
    let p : Parts = record { whole = digits; point = false; fraction = []; exponent_negative = false; exponent = []; len = length text } in
    let good : IsWellFormed p = record { whole_digits = all; fraction_digits = tt; exponent_digits = tt; no_point = λ e. refl; no_exponent = λ e. refl; len_is = refl } in
    let is : IsText text (digits_value 10 (digits ++ [])) 6176 = text_is text p _ 6176 (scan_numeral-text_of p good) refl (omega arith) refl (omega arith) (begins_with digits _ all some) in
    subst (λ (t : List ℕ). IsText t (digits_value 10 t) 6176) (append-nil digits) is

scientific_text : (digits : List ℕ) (negative : Bool) (e b : ℕ) → AllDigits 10 digits → 0 < length digits → e < 10 ^ 64
    → (cond negative 0 e + 6176 ≡ b + (length digits - 1 + cond negative e 0))
    → IsText (mantissa digits ++ (69 ∷ sign_byte negative ∷ decimal e)) (digits_value 10 digits) b
scientific_text [] negative e b all some few power_is = absurd (omega arith)
scientific_text (d ∷ []) true e b all some few power_is =
    let x = decimal_is_IsNumeral_wide e few in
    let t = mantissa (d ∷ []) ++ (69 ∷ 45 ∷ decimal e) in
    text_is t (parts d [] true (decimal e) (length t)) _ b (scan_scientific d [] (decimal e) true all x.0.0 x.0.1) refl (omega arith) refl (omega (arith, x.1)) (begins_with (d ∷ []) _ all (omega arith))
scientific_text (d ∷ []) false e b all some few power_is =
    let x = decimal_is_IsNumeral_wide e few in
    let t = mantissa (d ∷ []) ++ (69 ∷ 43 ∷ decimal e) in
    text_is t (parts d [] false (decimal e) (length t)) _ b (scan_scientific d [] (decimal e) false all x.0.0 x.0.1) refl (omega arith) refl (omega (arith, x.1)) (begins_with (d ∷ []) _ all (omega arith))
scientific_text (d ∷ f ∷ fs) true e b all some few power_is =
    let x = decimal_is_IsNumeral_wide e few in
    let t = mantissa (d ∷ f ∷ fs) ++ (69 ∷ 45 ∷ decimal e) in
    let r = digit_from_value d all.0 in
    text_is t (parts d (f ∷ fs) true (decimal e) (length t)) _ b (scan_scientific d (f ∷ fs) (decimal e) true all x.0.0 x.0.1) refl (omega arith) refl (omega (arith, x.1)) (d, _, refl, r.0, r.1)
scientific_text (d ∷ f ∷ fs) false e b all some few power_is =
    let x = decimal_is_IsNumeral_wide e few in
    let t = mantissa (d ∷ f ∷ fs) ++ (69 ∷ 43 ∷ decimal e) in
    let r = digit_from_value d all.0 in
    text_is t (parts d (f ∷ fs) false (decimal e) (length t)) _ b (scan_scientific d (f ∷ fs) (decimal e) false all x.0.0 x.0.1) refl (omega arith) refl (omega (arith, x.1)) (d, _, refl, r.0, r.1)

value_zeros : (n : ℕ) → digits_value 10 (zeros n) ≡ 0
value_zeros zero = refl
value_zeros (suc n) = value_zeros n

value_after_zeros : (n : ℕ) (digits : List ℕ) → digits_value 10 (48 ∷ (zeros n ++ digits)) ≡ digits_value 10 digits
value_after_zeros n digits = value_append (zeros n) digits 0 ∙ ap (λ (v : ℕ). digits_value_after 10 v digits) (value_zeros n)

layout_text : (digits : List ℕ) (b : ℕ) → AllDigits 10 digits → 0 < length digits → length digits ≤ 40 → b < 2 ^ 14 → IsText (biased_string digits b) (digits_value 10 digits) b
unfolding biased_string
layout_text digits b all some few inside = elim (cases_lt 6176 b) [
  | inl far ↦ rw (lt-ltb 6176 b far, le-ltb (b + length digits) 6177 (omega arith)) (scientific_text digits false (b + length digits - 6177) b all some (omega arith) (omega arith))
  | inr near ↦ elim (cases_lt (b + length digits) 6171) [
    | inl small ↦
        let below : b + length digits < 6177 = omega arith in
        rw (le-ltb 6176 b near, lt-ltb (b + length digits) 6171 small, lt-ltb (b + length digits) 6177 below)
        (scientific_text digits true (6177 - (b + length digits)) b all some (omega arith) (omega arith))
    | inr large ↦ elim (cases_lt b 6176) [
      | inl less ↦ elim (cases_lt (6176 - b) (length digits)) [
        | inl inner ↦
            let n = length digits - (6176 - b) in
            let rest : length (drop n digits) ≡ length digits - n = length-drop n digits in
            let first : length (take n digits) ≡ min n (length digits) = length-take n digits in
            rw (le-ltb 6176 b near, le-ltb (b + length digits) 6171 large, ne_eqb b 6176 (λ e. omega arith), lt-ltb (6176 - b) (length digits) inner)
            (subst (λ (t : List ℕ). IsText (take n digits ++ (46 ∷ drop n digits)) (digits_value 10 t) b) (take-append-drop n digits)
            (point_text (take n digits) (drop n digits) b (AllDigits-take n digits all) (AllDigits-drop n digits all) (omega arith) (omega arith) (omega arith)))
        | inr outer ↦
            let n = 6176 - b - length digits in
            let long : length (zeros n ++ digits) ≡ n + length digits = length-append (zeros n) digits ∙ ap (λ k. k + length digits) (length-replicate {A = ℕ} n 48) in
            rw (le-ltb 6176 b near, le-ltb (b + length digits) 6171 large, ne_eqb b 6176 (λ e. omega arith), le-ltb (6176 - b) (length digits) outer)
            (subst (λ (v : ℕ). IsText (48 ∷ 46 ∷ (zeros n ++ digits)) v b) (value_after_zeros n digits)
            (point_text (48 ∷ []) (zeros n ++ digits) b (omega arith, tt) (AllDigits-append (zeros n) digits (AllDigits-zeros n) all) (omega arith) (omega arith) (omega arith)))
      ]
      | inr equal ↦
          let same : b ≡ 6176 = omega arith in
          rw (le-ltb 6176 b near, le-ltb (b + length digits) 6171 large, eq-eqb b 6176 same)
          (subst (λ (n : ℕ). IsText digits (digits_value 10 digits) n) (sym same) (plain_text digits all some))
    ]
  ]
]

-- ---- the numeric-string

no_sign : (d : ℕ) (t : List ℕ) → 48 ≤ d → numeric_of (d ∷ t) ≡ size_of false (d ∷ t)
no_sign d t low = rw (ne_eqb d 45 (λ e. omega arith), ne_eqb d 43 (λ e. omega arith))

size_is : (s : Bool) (t : List ℕ) (n b : ℕ) → IsText t n b → size_of s t ≡ number s (scaled n b 0)
size_is s t n b is = rw is.all (ap (λ v. number s v) is.value)

numeric_is : (s : Bool) (t : List ℕ) (n b : ℕ) → IsText t n b → numeric_of (sign_text s ++ t) ≡ number s (scaled n b 0)
numeric_is true t n b is = size_is true t n b is
numeric_is false t n b is =
    subst (λ (u : List ℕ). numeric_of u ≡ size_of false u) (sym is.begins) (no_sign is.first is.rest is.digit.0) ∙ size_is false t n b is

-- ---- what it is read as

read_only : (s : Bool) (c b : ℕ) (r : Result (ℕ × ℕ) TextFault) → c < 10 ^ 34 → b < 12288 → IsRead (number s (scaled c b 0)) r → r ≡ Ok (c % 2 ^ 64, high_half s c b)
read_only s c b (Ok bits) few inside is =
    let one : b + 0 ≡ b = omega arith in
    let itself : IsWorth (scaled c b 0) c b = record { digits = few; exponent = inside; value = ap (λ (n : ℕ). c * 10 ^ n) one } in
    let near = is.2.nearest c b itself in
    let same : is.1 ≡ b = omega (arith, near) in
    let power : b ≡ is.1 + 0 = omega arith in
    let equal : is.0 ≡ c = eq_of_mul-eq-mul_right (10 ^ b) (ten_pos b) is.0 c (ap (λ (n : ℕ). is.0 * 10 ^ n) power ∙ is.2.worth.value) in
    let low : bits.0 ≡ c % 2 ^ 64 = is.3 ∙ ap (λ (n : ℕ). n % 2 ^ 64) equal in
    let high : bits.1 ≡ high_half s c b = is.4 ∙ (λ i. high_half s (equal i) (same i)) in
    λ i. Ok (low i, high i)
read_only s c b (Err OutOfRange) few inside is =
    let one : b + 0 ≡ b = omega arith in
    absurd (is c b (record { digits = few; exponent = inside; value = ap (λ (n : ℕ). c * 10 ^ n) one }))
read_only s c b (Err BadText) few inside is = absurd is

-- ---- the bits

coefficient_is : (low high : ℕ) → five_bits high < 24 → high % 2 ^ 49 * 2 ^ 64 + low < 10 ^ 34 → coefficient_of low high ≡ high % 2 ^ 49 * 2 ^ 64 + low
coefficient_is low high five few = rw (lt-leb 24 (five_bits high) five, lt-leb (10 ^ 34) (high % 2 ^ 49 * 2 ^ 64 + low) few)

exponent_is : (high : ℕ) → five_bits high < 24 → biased_exponent high ≡ high / 2 ^ 49 % 2 ^ 14
exponent_is high five = rw (lt-leb 24 (five_bits high) five)

exponent_below : (high : ℕ) → five_bits high < 24 → high / 2 ^ 49 % 2 ^ 14 < 12288
exponent_below high five =
    let split : high / 2 ^ 49 / 2 ^ 9 ≡ high / 2 ^ 58 = shr-shr high 49 9 in
    omega (arith, split)

high_is : (low high : ℕ) → low < 2 ^ 64 → high < 2 ^ 64 → high_half (leb (2 ^ 63) high) (high % 2 ^ 49 * 2 ^ 64 + low) (high / 2 ^ 49 % 2 ^ 14) ≡ high
high_is low high l h =
    let upper : (high % 2 ^ 49 * 2 ^ 64 + low) / 2 ^ 64 ≡ high % 2 ^ 49 = omega arith in
    let split : high / 2 ^ 49 / 2 ^ 14 ≡ high / 2 ^ 63 = shr-shr high 49 14 in
    elim (cases_lt high (2 ^ 63)) [
      | inl less ↦ rw (lt-leb (2 ^ 63) high less) (omega (arith, split, upper))
      | inr more ↦ rw (le-leb (2 ^ 63) high more) (omega (arith, split, upper))
    ]

finite_text : (low high : ℕ) → five_bits high < 24 → high % 2 ^ 49 * 2 ^ 64 + low < 10 ^ 34 → IsText (decimal128_size low high) (high % 2 ^ 49 * 2 ^ 64 + low) (high / 2 ^ 49 % 2 ^ 14)
finite_text low high five few =
    let c = high % 2 ^ 49 * 2 ^ 64 + low in
    let b = high / 2 ^ 49 % 2 ^ 14 in
    let wide : c < 10 ^ 64 = omega arith in
    let numeral = decimal_is_IsNumeral_wide c wide in
    let short : length (decimal c) ≤ 34 = length-decimal-le_wide 34 c (omega arith) few wide in
    let is : IsText (biased_string (decimal c) b) c b =
    subst (λ (n : ℕ). IsText (biased_string (decimal c) b) n b) numeral.1 (layout_text (decimal c) b numeral.0.1 numeral.0.0 (omega arith) (omega arith)) in
    let finite : (five_bits high == 30) ≡ false = ne_eqb (five_bits high) 30 (λ e. omega arith) in
    let size = text_size_is low high c b (decimal c) finite refl (sym (coefficient_is low high five few)) (sym (exponent_is high five)) numeral.0.0 in
    subst (λ (t : List ℕ). IsText t c b) size is

finite_means : (low high : ℕ) → five_bits high < 24 → high % 2 ^ 49 * 2 ^ 64 + low < 10 ^ 34
    → numeric_of (decimal128_text low high) ≡ number (leb (2 ^ 63) high) (scaled (high % 2 ^ 49 * 2 ^ 64 + low) (high / 2 ^ 49 % 2 ^ 14) 0)
unfolding decimal128_text
finite_means low high five few =
    let s = leb (2 ^ 63) high in
    let not_nan : (five_bits high == 31) ≡ false = ne_eqb (five_bits high) 31 (λ e. omega arith) in
    let text : decimal128_text low high ≡ sign_text s ++ decimal128_size low high = rw not_nan in
    ap numeric_of text ∙ numeric_is s (decimal128_size low high) (high % 2 ^ 49 * 2 ^ 64 + low) (high / 2 ^ 49 % 2 ^ 14) (finite_text low high five few)

finite_read : (low high : ℕ) (r : Result (ℕ × ℕ) TextFault) → low < 2 ^ 64 → high < 2 ^ 64 → five_bits high < 24 → high % 2 ^ 49 * 2 ^ 64 + low < 10 ^ 34
    → IsRead (numeric_of (decimal128_text low high)) r → r ≡ Ok (low, high)
finite_read low high r l h five few is =
    let c = high % 2 ^ 49 * 2 ^ 64 + low in
    let bits =
    read_only (leb (2 ^ 63) high) c (high / 2 ^ 49 % 2 ^ 14) r few (exponent_below high five) (subst (λ n. IsRead n r) (finite_means low high five few) is) in
    let lower : c % 2 ^ 64 ≡ low = omega arith in
    bits ∙ (λ i. Ok (lower i, high_is low high l h i))

exact_here : (c b : ℕ) → c < 10 ^ 34 → b < 12288 → IsExact (scaled c b 0) c b
exact_here c b few inside =
    let one : b + 0 ≡ b = omega arith in
    record {
      worth = record { digits = few; exponent = inside; value = ap (λ (n : ℕ). c * 10 ^ n) one };
      nearest = λ other at w. omega arith;
    }

finite_is_read : (low high : ℕ) → low < 2 ^ 64 → high < 2 ^ 64 → five_bits high < 24 → high % 2 ^ 49 * 2 ^ 64 + low < 10 ^ 34 → IsRead (numeric_of (decimal128_text low high)) (Ok (low, high))
finite_is_read low high l h five few =
    let c = high % 2 ^ 49 * 2 ^ 64 + low in
    let b = high / 2 ^ 49 % 2 ^ 14 in
    let lower : low ≡ c % 2 ^ 64 = omega arith in
    subst (λ n. IsRead n (Ok (low, high))) (sym (finite_means low high five few)) (c, b, exact_here c b few (exponent_below high five), lower, sym (high_is low high l h))

special_read : (low high : ℕ) (r : Result (ℕ × ℕ) TextFault) → low ≡ 0 → (high ≡ 0x7C00_0000_0000_0000) ⊎ ((high ≡ 0x7800_0000_0000_0000) ⊎ (high ≡ 0xF800_0000_0000_0000))
    → IsRead (numeric_of (decimal128_text low high)) r → r ≡ Ok (low, high)
unfolding decimal128_text decimal128_size scan_numeral
special_read low high r none (inl e) is =
    let is2 : IsRead (numeric_of (decimal128_text 0 0x7C00_0000_0000_0000)) r = subst (λ (n : ℕ). IsRead (numeric_of (decimal128_text 0 n)) r) e (subst (λ (n : ℕ). IsRead (numeric_of (decimal128_text n high)) r) none is) in
    is2 ∙ (λ i. Ok (sym none i, sym e i))
special_read low high r none (inr (inl e)) is =
    let is2 : IsRead (numeric_of (decimal128_text 0 0x7800_0000_0000_0000)) r = subst (λ (n : ℕ). IsRead (numeric_of (decimal128_text 0 n)) r) e (subst (λ (n : ℕ). IsRead (numeric_of (decimal128_text n high)) r) none is) in
    is2 ∙ (λ i. Ok (sym none i, sym e i))
special_read low high r none (inr (inr e)) is =
    let is2 : IsRead (numeric_of (decimal128_text 0 0xF800_0000_0000_0000)) r = subst (λ (n : ℕ). IsRead (numeric_of (decimal128_text 0 n)) r) e (subst (λ (n : ℕ). IsRead (numeric_of (decimal128_text n high)) r) none is) in
    is2 ∙ (λ i. Ok (sym none i, sym e i))

pub decimal_read : (low high : ℕ) (r : Result (ℕ × ℕ) TextFault) → low < 2 ^ 64 → high < 2 ^ 64 → IsCanonical low high → IsRead (numeric_of (decimal128_text low high)) r → r ≡ Ok (low, high)
decimal_read low high r l h (inl finite) is = finite_read low high r l h finite.0 finite.1 is
decimal_read low high r l h (inr special) is = special_read low high r special.0 special.1 is

special_is_read : (low high : ℕ) → low ≡ 0 → (high ≡ 0x7C00_0000_0000_0000) ⊎ ((high ≡ 0x7800_0000_0000_0000) ⊎ (high ≡ 0xF800_0000_0000_0000))
    → IsRead (numeric_of (decimal128_text low high)) (Ok (low, high))
unfolding decimal128_text decimal128_size scan_numeral
special_is_read low high none (inl e) =
    let P : ℕ → ℕ → Type 0 = λ n m. IsRead (numeric_of (decimal128_text n m)) (Ok (n, m)) in
    let here : P 0 0x7C00_0000_0000_0000 = refl in
    subst (λ (m : ℕ). P low m) (sym e) (subst (λ (n : ℕ). P n 0x7C00_0000_0000_0000) (sym none) here)
special_is_read low high none (inr (inl e)) =
    let P : ℕ → ℕ → Type 0 = λ n m. IsRead (numeric_of (decimal128_text n m)) (Ok (n, m)) in
    let here : P 0 0x7800_0000_0000_0000 = refl in
    subst (λ (m : ℕ). P low m) (sym e) (subst (λ (n : ℕ). P n 0x7800_0000_0000_0000) (sym none) here)
special_is_read low high none (inr (inr e)) =
    let P : ℕ → ℕ → Type 0 = λ n m. IsRead (numeric_of (decimal128_text n m)) (Ok (n, m)) in
    let here : P 0 0xF800_0000_0000_0000 = refl in
    subst (λ (m : ℕ). P low m) (sym e) (subst (λ (n : ℕ). P n 0xF800_0000_0000_0000) (sym none) here)

pub decimal_is_read : (low high : ℕ) → low < 2 ^ 64 → high < 2 ^ 64 → IsCanonical low high → IsRead (numeric_of (decimal128_text low high)) (Ok (low, high))
decimal_is_read low high l h (inl finite) = finite_is_read low high l h finite.0 finite.1
decimal_is_read low high l h (inr special) = special_is_read low high special.0 special.1

-- ---- its text has no quotes

abbrev IsUnquoted : List ℕ → Type 0
IsUnquoted text = list_any (λ c. c == 34) text ≡ false

both_unquoted : (xs ys : List ℕ) → IsUnquoted xs → IsUnquoted ys → IsUnquoted (xs ++ ys)
both_unquoted xs ys h k = list_any-append (λ c. c == 34) xs ys ∙ rw (h, k) refl

digits_unquoted : (ds : List ℕ) → AllDigits 10 ds → IsUnquoted ds
digits_unquoted [] all = refl
digits_unquoted (d ∷ ds) all = let r = digit_from_value d all.0 in rw (ne_eqb d 34 (λ e. omega arith)) (digits_unquoted ds all.1)

decimal_unquoted : (n : ℕ) → n < 10 ^ 64 → IsUnquoted (decimal n)
decimal_unquoted n small = digits_unquoted (decimal n) (decimal_is_IsNumeral_wide n small).0.1

mantissa_unquoted : (ds : List ℕ) → AllDigits 10 ds → IsUnquoted (mantissa ds)
mantissa_unquoted ds all =
    both_unquoted (take 1 ds) _ (digits_unquoted (take 1 ds) (AllDigits-take 1 ds all))
    (elim (ltb 1 (length ds)) as (λ b. IsUnquoted (cond b (46 ∷ drop 1 ds) [])) [
      | true ↦ digits_unquoted (drop 1 ds) (AllDigits-drop 1 ds all)
      | false ↦ refl
    ])

power_unquoted : (sum : ℕ) → sum < 2 ^ 60 → IsUnquoted (biased_power_text sum)
power_unquoted sum small =
    elim (ltb sum 6177) as (λ b. IsUnquoted (cond b (69 ∷ 45 ∷ decimal (6177 - sum)) (69 ∷ 43 ∷ decimal (sum - 6177)))) [
      | true ↦ decimal_unquoted (6177 - sum) (omega arith)
      | false ↦ decimal_unquoted (sum - 6177) (omega arith)
    ]

string_unquoted : (ds : List ℕ) (b : ℕ) → AllDigits 10 ds → b + length ds < 2 ^ 60 → IsUnquoted (biased_string ds b)
unfolding biased_string
string_unquoted ds b all small =
    let n = 6176 - b in
    elim (ltb 6176 b || ltb (b + length ds) 6171) as (λ x. IsUnquoted (cond x (mantissa ds ++ biased_power_text (b + length ds))
    (cond (b == 6176) ds (cond (ltb n (length ds)) (take (length ds - n) ds ++ (46 ∷ drop (length ds - n) ds)) (48 ∷ 46 ∷ (zeros (n - length ds) ++ ds)))))) [
      | true ↦ both_unquoted (mantissa ds) (biased_power_text (b + length ds)) (mantissa_unquoted ds all) (power_unquoted (b + length ds) small)
      | false ↦ elim (b == 6176) as (λ x. IsUnquoted (cond x ds (cond (ltb n (length ds)) (take (length ds - n) ds ++ (46 ∷ drop (length ds - n) ds)) (48 ∷ 46 ∷ (zeros (n - length ds) ++ ds))))) [
        | true ↦ digits_unquoted ds all
        | false ↦ elim (ltb n (length ds)) as (λ x. IsUnquoted (cond x (take (length ds - n) ds ++ (46 ∷ drop (length ds - n) ds)) (48 ∷ 46 ∷ (zeros (n - length ds) ++ ds)))) [
          | true ↦ both_unquoted (take (length ds - n) ds) (46 ∷ drop (length ds - n) ds) (digits_unquoted _ (AllDigits-take (length ds - n) ds all)) (digits_unquoted (drop (length ds - n) ds) (AllDigits-drop (length ds - n) ds all))
          | false ↦ both_unquoted (zeros (n - length ds)) ds (digits_unquoted _ (AllDigits-zeros (n - length ds))) (digits_unquoted ds all)
        ]
      ]
    ]

pub coefficient_below : (low high : ℕ) → coefficient_of low high < 10 ^ 34
coefficient_below low high =
    let c = high % 2 ^ 49 * 2 ^ 64 + low in
    elim (cases_lt c (10 ^ 34)) [
      | inl less ↦ elim (leb 24 (five_bits high) || leb (10 ^ 34) c) as (λ x. cond x 0 c < 10 ^ 34) [
        | true ↦ omega arith
        | false ↦ less
      ]
      | inr more ↦ elim (leb 24 (five_bits high)) as (λ x. cond (x || leb (10 ^ 34) c) 0 c < 10 ^ 34) [
        | true ↦ omega arith
        | false ↦ rw (le-leb (10 ^ 34) c more) (omega arith)
      ]
    ]

exponent_small : (high : ℕ) → biased_exponent high < 2 ^ 20
exponent_small high =
    elim (leb 24 (five_bits high)) as (λ x. cond x (high / 2 ^ 47) (high / 2 ^ 49) % 2 ^ 14 < 2 ^ 20) [
      | true ↦ omega arith
      | false ↦ omega arith
    ]

size_unquoted : (low high : ℕ) → IsUnquoted (decimal128_size low high)
unfolding decimal128_size
size_unquoted low high =
    let c = coefficient_of low high in
    let few : c < 10 ^ 34 = coefficient_below low high in
    let wide : c < 10 ^ 64 = omega arith in
    let short : length (decimal c) ≤ 34 = length-decimal-le_wide 34 c (omega arith) few wide in
    let numeral = decimal_is_IsNumeral_wide c wide in
    elim (five_bits high == 30) as (λ x. IsUnquoted (cond x (codes "Infinity") (scientific_string (decimal c) (exponent_of high)))) [
      | true ↦ refl
      | false ↦ subst IsUnquoted (sym (biased_is (decimal c) (biased_exponent high) numeral.0.0)) (string_unquoted (decimal c) (biased_exponent high) numeral.0.1 (omega (arith, exponent_small high)))
    ]

sign_unquoted : (s : Bool) → IsUnquoted (sign_text s)
sign_unquoted true = refl
sign_unquoted false = refl

-- the text of a decimal128 has no quotes
pub decimal_text_unquoted : (low high : ℕ) → list_any (λ c. c == 34) (decimal128_text low high) ≡ false
unfolding decimal128_text
decimal_text_unquoted low high =
    elim (five_bits high == 31) as (λ x. IsUnquoted (cond x (codes "NaN") (sign_text (leb (2 ^ 63) high) ++ decimal128_size low high))) [
      | true ↦ refl
      | false ↦ both_unquoted (sign_text (leb (2 ^ 63) high)) (decimal128_size low high) (sign_unquoted (leb (2 ^ 63) high)) (size_unquoted low high)
    ]
