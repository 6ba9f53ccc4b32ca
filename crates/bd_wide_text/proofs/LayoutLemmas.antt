-- A number laid out again is the same number.
use Rattle.std.proofs.Common.{◌≡◌, ◌≢◌, ◌<◌, ◌≤◌, ℕ, zero, suc, ◌+◌, ◌-◌, ◌*◌, ◌/◌, ◌%◌, ◌^◌, ◌==◌, Bool, true, false, cond, List, [], ◌∷◌, ◌++◌, length, take, drop, get_or, refl, sym, ap, ◌∙◌, subst, inl, inr, arith, append-nil, append_assoc, length-append, length-take, length-drop, take-append-drop, take_at, drop_at, codes, pos, negsuc, ltb, eq-eqb, ne_eqb}
use Rattle.std.proofs.lemmas.Bool.{cases_lt}
use Rattle.std.proofs.lemmas.Fmt.{decimal_is_IsNumeral_wide, length-decimal-le}
use Rattle.std.proofs.lemmas.List.{length-replicate, get_or_append_left, get_or-append_right, get_or-take, get_or-drop}
use Rattle.std.proofs.lemmas.Str.Parse.{digit_at, digits_value-take-le}
use Rattle.std.proofs.Math.Nat.{pow-suc, pow-le-pow_right, mul-le-mul_left, mul-one, eq-zero-or-pos}
use lib.Dec.{lit<}
use borrow.Author.Tests.{lt-ltb, le-ltb, le-leb, lt-leb}
use Rattle.std.specs.Fmt.{decimal, digits, digits_onto, digit_glyph}
use Rattle.std.specs.Str.Parse.{digits_value, AllDigits}
use Rattle.std.specs.Float.{binary64}
use Rattle.std.specs.Float.Ieee.{round}
use lib.Ieee.Scale.{round_same}
use Rattle.fast_float.specs.Text.{Parts, digits_of, tens_up, tens_down, nearest, exponent_text}
use Rattle.fast_float.proofs.DigitsLemmas.{digits_value-append, is_digit}
use Rattle.fast_float.proofs.ExactLemmas.{ten_to_pos}
use Rattle.fast_float.proofs.Extremes.{tens_eq}
use Rattle.fast_float.proofs.Rows.{AllDigits-take, AllDigits-drop, AllDigits-append, front_large}
use Rattle.ryu.proofs.Texts.{value_zeros}
use Rattle.bd_wide_text.specs.Layout.{mantissa, zeros}
use Rattle.bd_wide_text.specs.Double.{AreSignificant, padded, laid_out, nearest_double}
use Rattle.bd_wide_text.specs.inside.LaidOutAnew.{AreParts, IsNumberOf, IsLaidOutAnew, AreZerosBefore, AreZerosAfter, small_text, large_text}

-- ---- equal decimals have one nearest double

pub same_tens : (s : Bool) (w i j k l : ℕ) → i + l ≡ k + j → round binary64 s (w * 10 ^ i) (10 ^ j) ≡ round binary64 s (w * 10 ^ k) (10 ^ l)
same_tens s w i j k l e = round_same binary64 s _ _ _ _ (ten_to_pos j) (ten_to_pos l) (tens_eq w i l k j e)

-- ---- `decimal` writes a number of few digits completely

onto_grows : (k n : ℕ) (acc : List ℕ) → length acc ≤ length (digits_onto k 10 false n acc)
onto_grows zero n acc = omega arith
onto_grows (suc k) n acc =
    let more = digit_glyph false (n % 10) ∷ acc in
    let rest = onto_grows k (n / 10) more in
    elim (n / 10 == 0) as (λ t. length acc ≤ length (cond t more (digits_onto k 10 false (n / 10) more))) [ true ↦ omega arith | false ↦ omega arith ]

onto_long : (j k n : ℕ) (acc : List ℕ) → j < k → 10 ^ j ≤ n → j + length acc < length (digits_onto k 10 false n acc)
onto_long j zero n acc inside big = absurd (omega arith)
onto_long zero (suc k) n acc inside big =
    let more = digit_glyph false (n % 10) ∷ acc in
    let rest = onto_grows k (n / 10) more in
    elim (n / 10 == 0) as (λ t. 0 + length acc < length (cond t more (digits_onto k 10 false (n / 10) more))) [ true ↦ omega arith | false ↦ omega arith ]
onto_long (suc j) (suc k) n acc inside big =
    let more = digit_glyph false (n % 10) ∷ acc in
    let tens : 10 ^ j ≤ n / 10 = omega (arith, pow-suc 10 j) in
    let some : 0 < 10 ^ j = ten_to_pos j in
    let rest = onto_long j k (n / 10) more (omega arith) tens in
    let test : (n / 10 == 0) ≡ false = ne_eqb (n / 10) 0 (λ e. omega arith) in
    subst (λ (t : Bool). suc j + length acc < length (cond t more (digits_onto k 10 false (n / 10) more))) (sym test) (omega arith)

few_digits : (e : ℕ) → length (decimal e) ≤ 25 → e < 10 ^ 64
unfolding digits
few_digits e few = elim (cases_lt e (10 ^ 25)) [
  | inl less ↦ omega arith
  | inr more ↦ let long = onto_long 25 64 e [] (omega arith) more in absurd (omega arith)
]

pub value_decimal : (e : ℕ) → length (decimal e) ≤ 25 → digits_value 10 (decimal e) ≡ e
value_decimal e few = (decimal_is_IsNumeral_wide e (few_digits e few)).1

-- ---- the parts of a text

exponent_inside : (negative : Bool) (exponent : List ℕ) → length exponent ≤ length (exponent_text negative exponent)
exponent_inside negative [] = omega arith
exponent_inside true (d ∷ ds) = omega arith
exponent_inside false (d ∷ ds) = omega arith

pub short_exponent : (size : List ℕ) (p : Parts) → AreParts size p → length p.exponent ≤ 25
short_exponent size p parts =
    let back = exponent_text p.exponent_negative p.exponent in
    let middle = cond p.point (46 ∷ p.fraction) [] in
    omega (arith, parts.short, ap (λ xs. length xs) parts.text, length-append p.whole (middle ++ back), length-append middle back, exponent_inside p.exponent_negative p.exponent)

-- the text has a point, or an exponent
pub few_parts : (size : List ℕ) (p : Parts) → AreParts size p → length p.whole + length p.fraction ≤ 24
few_parts size p parts = by p.point refl
  where
    sized : (middle : List ℕ) → cond p.point (46 ∷ p.fraction) [] ≡ middle → length p.whole + (length middle + length (exponent_text p.exponent_negative p.exponent)) ≤ 25
    sized middle is =
        let back = exponent_text p.exponent_negative p.exponent in
        let between = cond p.point (46 ∷ p.fraction) [] in
        omega (arith, parts.short, ap (λ xs. length xs) parts.text, length-append p.whole (between ++ back), length-append between back, ap (λ xs. length xs) is)

    by : (point : Bool) → p.point ≡ point → length p.whole + length p.fraction ≤ 24
    by true is = omega (arith, sized (46 ∷ p.fraction) (rw is refl))
    by false is =
        omega (arith, sized [] (rw is refl), exponent_inside p.exponent_negative p.exponent, parts.plain.marked is, ap (λ xs. length xs) (parts.plain.well_formed.no_point is))

-- the digits and the exponent
pub few_all : (size : List ℕ) (p : Parts) → AreParts size p → length p.whole + length p.fraction + length p.exponent ≤ 25
few_all size p parts = by p.point refl
  where
    sized : (middle : List ℕ) → cond p.point (46 ∷ p.fraction) [] ≡ middle → length p.whole + (length middle + length p.exponent) ≤ 25
    sized middle is =
        let back = exponent_text p.exponent_negative p.exponent in
        let between = cond p.point (46 ∷ p.fraction) [] in
        omega (arith, parts.short, ap (λ xs. length xs) parts.text, length-append p.whole (between ++ back), length-append between back, ap (λ xs. length xs) is, exponent_inside p.exponent_negative p.exponent)

    by : (point : Bool) → p.point ≡ point → length p.whole + length p.fraction + length p.exponent ≤ 25
    by true is = omega (arith, sized (46 ∷ p.fraction) (rw is refl))
    by false is = omega (arith, sized [] (rw is refl), ap (λ xs. length xs) (parts.plain.well_formed.no_point is))

-- a power of two digits at most
pub short_power : (text made : List ℕ) (n : ℕ) → text ≡ made → made ≡ decimal n → n < 100 → length text ≤ 2
short_power text made n is written few = omega (arith, ap (λ t. length t) is, ap (λ t. length t) written, length-decimal-le 2 n (omega arith) few (omega arith))

pub last_of : (a b : List ℕ) → 0 < length b → get_or (a ++ b) (length (a ++ b) - 1) 0 ≡ get_or b (length b - 1) 0
last_of a b some =
    let long : length (a ++ b) - 1 ≡ length a + (length b - 1) = omega (arith, length-append a b) in
    let back : length a + (length b - 1) - length a ≡ length b - 1 = omega arith in
    rw long (get_or-append_right a b (length a) (length a + (length b - 1)) 0 refl (omega arith) ∙ ap (λ i. get_or b i 0) back)

pub above_zero : (ds : List ℕ) (i : ℕ) → AllDigits 10 ds → i < length ds → get_or ds i 0 ≢ 48 → 48 < get_or ds i 0
above_zero ds i all inside ne = let r = digit_at ds i all inside in omega (arith, r.0, r.1)

-- ---- digits of which the first is not 0

pub leading_large : (ds : List ℕ) → AllDigits 10 ds → 0 < length ds → 48 < get_or ds 0 0 → 10 ^ (length ds - 1) ≤ digits_value 10 ds
leading_large ds all some first =
    let r = digit_at ds 0 all some in
    let digit = (is_digit (get_or ds 0 0) r.0 (omega (arith, r.1))).1 in
    omega (arith, front_large ds 0 (length ds) some (omega arith) (omega arith), digits_value-take-le 10 ds (length ds) (omega arith))

few_of_value : (ds : List ℕ) → AllDigits 10 ds → 0 < length ds → 48 < get_or ds 0 0 → digits_value 10 ds < 10 ^ 17 → length ds ≤ 17
few_of_value ds all some first small = elim (cases_lt 17 (length ds)) [
  | inr few ↦ few
  | inl more ↦
      let most : 10 ^ 17 ≤ 10 ^ (length ds - 1) = pow-le-pow_right (lit< tt) {i = 17} {j = length ds - 1} (omega arith) in
      absurd (omega (arith, leading_large ds all some first))
]

-- ---- with an exponent

pub far_first : (size : List ℕ) (p : Parts) → AreParts size p → 0 < length p.exponent → (48 < get_or (p.whole ++ p.fraction) 0 0) × (length (p.whole ++ p.fraction) ≡ 1 + length p.fraction)
far_first size p parts far =
    let one = parts.layout.one_digit far in
    (rw (get_or_append_left p.whole p.fraction 0 0 (omega arith)) one.1, omega (arith, length-append p.whole p.fraction))

far_digits : (size : List ℕ) (p : Parts) → AreParts size p → digits_of p < 10 ^ 17 → 0 < length p.exponent → AreSignificant (p.whole ++ p.fraction)
far_digits size p parts small far =
    let one = parts.layout.one_digit far in
    let w = parts.plain.well_formed in
    let first = (far_first size p parts far).0 in
    let long = (far_first size p parts far).1 in
    let all = AllDigits-append p.whole p.fraction w.whole_digits w.fraction_digits in
    let last : 48 < get_or (p.whole ++ p.fraction) (length (p.whole ++ p.fraction) - 1) 0 = elim (eq-zero-or-pos (length p.fraction)) [
      | inl none ↦ let at : length (p.whole ++ p.fraction) - 1 ≡ 0 = omega (arith, length-append p.whole p.fraction) in rw at first
      | inr some ↦ rw (last_of p.whole p.fraction some) (elim (parts.layout.trimmed some) [
        | inl t ↦ absurd (omega (arith, ap (λ xs. length xs) t.0))
        | inr t ↦ t
      ])
    ] in
    record { all = all; first = first; last = last; few = few_of_value (p.whole ++ p.fraction) all (omega arith) first small }

pub far_up : (size : List ℕ) (p : Parts) → AreParts size p → digits_of p < 10 ^ 17 → 0 < length p.exponent → p.exponent_negative ≡ false
    → IsLaidOutAnew p (mantissa (p.whole ++ p.fraction) ++ (codes "E+" ++ padded p.exponent))
unfolding nearest_double laid_out
far_up size p parts few some sign =
    let far = parts.layout.far some in
    let e = far.0 in
    let short : length (decimal e) ≤ 25 = subst (λ (x : List ℕ). length x ≤ 25) far.1 (short_exponent size p parts) in
    let big : 16 ≤ e = subst (λ (b : Bool). (cond b 6 16) ≤ e) sign far.2 in
    let up : tens_up p ≡ e = ap (λ b. cond b 0 (digits_value 10 p.exponent)) sign ∙ ap (digits_value 10) far.1 ∙ value_decimal e short in
    let down : tens_down p ≡ length p.fraction = ap (λ b. length p.fraction + cond b (digits_value 10 p.exponent) 0) sign ∙ omega arith in
    let long = (far_first size p parts some).1 in
    let test : ltb 5 e ≡ true = lt-ltb 5 e (omega arith) in
    inr (
      p.whole ++ p.fraction,
      pos e,
      far_digits size p parts few some,
      λ s. same_tens s (digits_of p) (e + 1) (length (p.whole ++ p.fraction)) (tens_up p) (tens_down p) (omega (arith, up, down, long)),
      rw (test, far.1) refl,
    )

pub far_down : (size : List ℕ) (p : Parts) → AreParts size p → digits_of p < 10 ^ 17 → 0 < length p.exponent → p.exponent_negative ≡ true
    → IsLaidOutAnew p (mantissa (p.whole ++ p.fraction) ++ (codes "E-" ++ padded p.exponent))
unfolding nearest_double laid_out
far_down size p parts few some sign =
    let far = parts.layout.far some in
    let e = far.0 in
    let short : length (decimal e) ≤ 25 = subst (λ (x : List ℕ). length x ≤ 25) far.1 (short_exponent size p parts) in
    let big : 6 ≤ e = subst (λ (b : Bool). (cond b 6 16) ≤ e) sign far.2 in
    let k = e - 1 in
    let next : k + 1 ≡ e = omega arith in
    let up : tens_up p ≡ 0 = ap (λ b. cond b 0 (digits_value 10 p.exponent)) sign in
    let down : tens_down p ≡ length p.fraction + e =
    ap (λ b. length p.fraction + cond b (digits_value 10 p.exponent) 0) sign ∙ ap (λ n. length p.fraction + n) (ap (digits_value 10) far.1 ∙ value_decimal e short) in
    let long = (far_first size p parts some).1 in
    let test : ltb 3 k ≡ true = lt-ltb 3 k (omega arith) in
    let one : digits_of p * 10 ^ 0 ≡ digits_of p = mul-one (digits_of p) in
    inr (
      p.whole ++ p.fraction,
      negsuc k,
      far_digits size p parts few some,
      λ s. ap (λ n. round binary64 s n (10 ^ (k + length (p.whole ++ p.fraction)))) (sym one)
          ∙ same_tens s (digits_of p) 0 (k + length (p.whole ++ p.fraction)) (tens_up p) (tens_down p) (omega (arith, up, down, long)),
      rw (test, next, far.1) refl,
    )

-- ---- without an exponent

pub record AreNear (size : List ℕ) (p : Parts) : Type 0 where
  pub text : size ≡ p.whole ++ (46 ∷ p.fraction)
  pub some : 0 < length p.fraction
  pub up : tens_up p ≡ 0
  pub down : tens_down p ≡ length p.fraction

pub near : (size : List ℕ) (p : Parts) → AreParts size p → p.exponent ≡ [] → AreNear size p
near size p parts none =
    let sign : p.exponent_negative ≡ false = parts.plain.well_formed.no_exponent none in
    let point : p.point ≡ true = elim p.point as (λ b. p.point ≡ b → b ≡ true) [
      | true ↦ λ e. refl
      | false ↦ λ e. absurd (omega (arith, parts.plain.marked e, ap (λ xs. length xs) none))
    ] refl in
    record {
      text = parts.text ∙ (λ i. p.whole ++ (cond (point i) (46 ∷ p.fraction) [] ++ exponent_text (sign i) (none i))) ∙ ap (λ xs. p.whole ++ xs) (append-nil (46 ∷ p.fraction));
      some = parts.plain.fraction point;
      up = (λ i. cond (sign i) 0 (digits_value 10 (none i)));
      down = (λ i. length p.fraction + cond (sign i) (digits_value 10 p.exponent) 0) ∙ omega arith;
    }

-- the number without an exponent, with its digits written in another way
near_number : (size : List ℕ) (p : Parts) → AreNear size p → (s : Bool) (w i j : ℕ) → digits_of p ≡ w * 10 ^ i → (k l : ℕ) → k + length p.fraction ≡ i + l
    → round binary64 s (w * 10 ^ k) (10 ^ l) ≡ nearest binary64 s p
near_number size p is s w i j worth k l e =
    same_tens s w k l i (length p.fraction) e
    ∙ (λ t. round binary64 s ((sym worth ∙ sym (mul-one (digits_of p)) ∙ ap (λ n. digits_of p * 10 ^ n) (sym is.up)) t) (10 ^ (sym is.down t)))

single : (xs : List ℕ) → length xs ≡ 1 → get_or xs 0 0 ≡ 48 → xs ≡ 48 ∷ []
single [] long first = absurd (omega arith)
single (x ∷ []) long first = ap (λ y. y ∷ []) first
single (x ∷ y ∷ xs) long first = absurd (omega arith)

pub nothing : (xs : List ℕ) → length xs ≡ 0 → xs ≡ []
nothing [] e = refl
nothing (x ∷ xs) e = absurd (omega arith)

only_zero : (xs : List ℕ) (i : ℕ) → xs ≡ 48 ∷ [] → i < length xs → get_or xs i 0 ≡ 48
only_zero xs i e inside = let at : i ≡ 0 = omega (arith, ap (λ l. length l) e) in rw (at, e) refl

small_number : (size : List ℕ) (p : Parts) (count : ℕ) → AreParts size p → digits_of p < 10 ^ 17 → p.exponent ≡ [] → AreNear size p → p.whole ≡ 48 ∷ [] → AreZerosBefore p.fraction count
    → p.fraction ≡ zeros count ++ drop count p.fraction → digits_of p ≡ digits_value 10 (drop count p.fraction) → count < length p.fraction
    → IsLaidOutAnew p (small_text size p.fraction count)
unfolding nearest_double laid_out
small_number size p count parts few none is whole before splits value inside =
    let digits = drop count p.fraction in
    let digits_all = parts.plain.well_formed.fraction_digits in
    let long : length digits ≡ length p.fraction - count = length-drop count p.fraction in
    let other : (count == length p.fraction) ≡ false = ne_eqb count (length p.fraction) (λ e. omega arith) in
    let first : 48 < get_or digits 0 0 = rw (get_or-drop count p.fraction 0 0) (let at : count + 0 ≡ count = omega arith in rw at (above_zero p.fraction count digits_all inside (before.next inside))) in
    let end : count + (length digits - 1) ≡ length p.fraction - 1 = omega arith in
    let last : 48 < get_or digits (length digits - 1) 0 = rw (get_or-drop count p.fraction (length digits - 1) 0, end) (elim (parts.layout.trimmed is.some) [
      | inl t ↦ absurd (before.next inside (only_zero p.fraction count t.1 inside))
      | inr t ↦ t
    ]) in
    let all = AllDigits-drop count p.fraction digits_all in
    let sig : AreSignificant digits = record { all = all; first = first; last = last; few = few_of_value digits all (omega arith) first (omega (arith, value)) } in
    let number : IsNumberOf p digits (negsuc count) = λ s.
    ap (λ n. round binary64 s n (10 ^ (count + length digits))) (sym (mul-one (digits_value 10 digits)))
    ∙ near_number size p is s (digits_value 10 digits) 0 0 (value ∙ sym (mul-one (digits_value 10 digits))) 0 (count + length digits) (omega arith) in
    elim (cases_lt 3 count) [
      | inl more ↦ inr (digits, negsuc count, sig, number, rw (lt-leb count 3 more, other, lt-ltb 3 count more, append-nil) refl)
      | inr near_by ↦ inr (digits, negsuc count, sig, number, rw (le-leb count 3 near_by, le-ltb 3 count near_by) (is.text ∙ (λ i. whole i ++ (46 ∷ splits i))))
    ]

pub whole_is : (size : List ℕ) (p : Parts) → AreParts size p → get_or p.whole 0 0 ≡ 48 → p.whole ≡ 48 ∷ []
whole_is size p parts zero_first = single p.whole (parts.plain.no_leading_zero zero_first) zero_first

fraction_is : (p : Parts) (count : ℕ) → AreZerosBefore p.fraction count → p.fraction ≡ zeros count ++ drop count p.fraction
fraction_is p count before = sym (take-append-drop count p.fraction) ∙ ap (λ xs. xs ++ drop count p.fraction) before.zeros_are

pub small_value : (size : List ℕ) (p : Parts) (count : ℕ) → AreParts size p → get_or p.whole 0 0 ≡ 48 → AreZerosBefore p.fraction count
    → digits_of p ≡ digits_value 10 (drop count p.fraction)
small_value size p count parts zero_first before =
    let whole = whole_is size p parts zero_first in
    let splits = fraction_is p count before in
    let all : p.whole ++ p.fraction ≡ zeros (suc count) ++ drop count p.fraction = (λ i. whole i ++ splits i) in
    ap (digits_value 10) all ∙ digits_value-append (zeros (suc count)) (drop count p.fraction)
    ∙ ap (λ n. n * 10 ^ length (drop count p.fraction) + digits_value 10 (drop count p.fraction)) (value_zeros (suc count)) ∙ omega arith

pub small : (size : List ℕ) (p : Parts) (count : ℕ) → AreParts size p → digits_of p < 10 ^ 17 → p.exponent ≡ [] → get_or p.whole 0 0 ≡ 48 → AreZerosBefore p.fraction count
    → IsLaidOutAnew p (small_text size p.fraction count)
small size p count parts few none zero_first before =
    let is = near size p parts none in
    let value = small_value size p count parts zero_first before in
    elim (cases_lt count (length p.fraction)) [
      | inr beyond ↦ inl (value ∙ ap (λ xs. digits_value 10 xs) (nothing (drop count p.fraction) (omega (arith, length-drop count p.fraction))))
      | inl inside ↦ small_number size p count parts few none is (whole_is size p parts zero_first) before (fraction_is p count before) value inside
    ]

tenfold : (w z : ℕ) → w * 10 ^ z * 10 ^ 1 + 0 ≡ w * 10 ^ (z + 1)
tenfold w z = omega (arith, tens_eq w z 1 (z + 1) 0 (omega arith), mul-one (w * 10 ^ (z + 1)))

large_whole : (size : List ℕ) (p : Parts) (count : ℕ) → AreParts size p → digits_of p < 10 ^ 17 → AreNear size p → AreZerosAfter p.whole count → get_or p.whole 0 0 ≢ 48
    → p.fraction ≡ 48 ∷ [] → IsLaidOutAnew p (large_text size p.whole p.fraction count)
unfolding nearest_double laid_out
large_whole size p count parts few is after first zero_behind =
    let digits = take count p.whole in
    let n = length p.whole in
    let z = n - count in
    let digits_all = parts.plain.well_formed.whole_digits in
    let long : length digits ≡ count = length-take count p.whole ∙ omega (arith, after.within) in
    let splits : p.whole ≡ digits ++ zeros z = sym (take-append-drop count p.whole) ∙ ap (λ xs. digits ++ xs) after.zeros_are in
    let first_is : 48 < get_or digits 0 0 = rw (get_or-take count p.whole 0 0 after.some) (above_zero p.whole 0 digits_all (omega (arith, after.some, after.within)) first) in
    let end : length digits - 1 ≡ count - 1 = omega arith in
    let last_is : 48 < get_or digits (length digits - 1) 0 =
    rw (end, get_or-take count p.whole (count - 1) 0 (omega (arith, after.some))) (above_zero p.whole (count - 1) digits_all (omega (arith, after.some, after.within)) after.last) in
    let w = digits_value 10 digits in
    let whole_value : digits_value 10 p.whole ≡ w * 10 ^ z =
    ap (digits_value 10) splits ∙ digits_value-append digits (zeros z) ∙ (λ i. w * 10 ^ (length-replicate {A = ℕ} z 48 i) + value_zeros z i) ∙ omega arith in
    let value : digits_of p ≡ w * 10 ^ (z + 1) =
    digits_value-append p.whole p.fraction ∙ (λ i. whole_value i * 10 ^ length (zero_behind i) + digits_value 10 (zero_behind i)) ∙ tenfold w z in
    let all_digits = AllDigits-take count p.whole digits_all in
    let least : w * 1 ≤ w * 10 ^ (z + 1) = mul-le-mul_left w (ten_to_pos (z + 1)) in
    let few_are = few_of_value digits all_digits (omega (arith, after.some)) first_is (omega (arith, value)) in
    let sig : AreSignificant digits = record { all = all_digits; first = first_is; last = last_is; few = few_are } in
    let one : length p.fraction ≡ 1 = ap (λ xs. length xs) zero_behind in
    let number : IsNumberOf p digits (pos (n - 1)) = λ s. near_number size p is s w (z + 1) 0 value (n - 1 + 1) (length digits) (omega (arith, after.some, after.within)) in
    let ends : get_or p.fraction (length p.fraction - 1) 0 ≡ 48 = (λ i. get_or (zero_behind i) (length (zero_behind i) - 1) 0) in
    elim (cases_lt 6 n) [
      | inl more ↦ inr (digits, pos (n - 1), sig, number, rw (lt-leb n 6 more, eq-eqb _ 48 ends, lt-ltb 5 (n - 1) (omega arith), append-nil) refl)
      | inr near_by ↦
          let all : n - 1 + 1 ≡ n = omega (arith, after.some, after.within) in
          let over : n - length digits ≡ z = omega arith in
          inr (
            digits,
            pos (n - 1),
            sig,
            number,
            rw (le-leb n 6 near_by, le-ltb 5 (n - 1) (omega arith), all, le-ltb n (length digits) (omega (arith, after.within)), over) (
                is.text ∙ (λ i. splits i ++ (46 ∷ zero_behind i)) ∙ append_assoc digits (zeros z) (46 ∷ 48 ∷ [])),
          )
    ]

large_broken : (size : List ℕ) (p : Parts) (count : ℕ) → AreParts size p → digits_of p < 10 ^ 17 → AreNear size p → AreZerosAfter p.whole count → get_or p.whole 0 0 ≢ 48
    → 48 < get_or p.fraction (length p.fraction - 1) 0 → IsLaidOutAnew p (large_text size p.whole p.fraction count)
unfolding nearest_double laid_out
large_broken size p count parts few is after first last =
    let digits = p.whole ++ p.fraction in
    let n = length p.whole in
    let w = parts.plain.well_formed in
    let some : 0 < n = omega (arith, after.some, after.within) in
    let long : length digits ≡ n + length p.fraction = length-append p.whole p.fraction in
    let all = AllDigits-append p.whole p.fraction w.whole_digits w.fraction_digits in
    let first_is : 48 < get_or digits 0 0 = rw (get_or_append_left p.whole p.fraction 0 0 some) (above_zero p.whole 0 w.whole_digits some first) in
    let sig : AreSignificant digits = record {
      all = all;
      first = first_is;
      last = rw (last_of p.whole p.fraction is.some) last;
      few = few_of_value digits all (omega arith) first_is few;
    } in
    let number : IsNumberOf p digits (pos (n - 1)) = λ s. near_number size p is s (digits_of p) 0 0 (sym (mul-one (digits_of p))) (n - 1 + 1) (length digits) (omega arith) in
    let ends : (get_or p.fraction (length p.fraction - 1) 0 == 48) ≡ false = ne_eqb _ 48 (λ e. omega arith) in
    elim (cases_lt 6 n) [
      | inl more ↦ inr (digits, pos (n - 1), sig, number, rw (lt-leb n 6 more, ends, lt-ltb 5 (n - 1) (omega arith)) refl)
      | inr near_by ↦
          let all : n - 1 + 1 ≡ n = omega arith in
          inr (digits, pos (n - 1), sig, number, rw (le-leb n 6 near_by, le-ltb 5 (n - 1) (omega arith), all, lt-ltb n (length digits) (omega (arith, is.some)), take_at p.whole p.fraction n refl, drop_at p.whole p.fraction n refl) is.text)
    ]

pub large : (size : List ℕ) (p : Parts) (count : ℕ) → AreParts size p → digits_of p < 10 ^ 17 → p.exponent ≡ [] → AreZerosAfter p.whole count
    → get_or p.whole 0 0 ≢ 48 → IsLaidOutAnew p (large_text size p.whole p.fraction count)
large size p count parts few none after first =
    let is = near size p parts none in
    elim (parts.layout.trimmed is.some) [
      | inl t ↦ large_whole size p count parts few is after first t.1
      | inr t ↦ large_broken size p count parts few is after first t
    ]
