-- The text from `ryu` for a double above 0.0001 and below 1,000,000 is its text.
use Rattle.std.proofs.Common.{◌≡◌, ◌≢◌, ◌<◌, ◌≤◌, ℕ, zero, suc, ◌+◌, ◌-◌, ◌*◌, ◌/◌, ◌%◌, ◌^◌, ◌==◌, ◌||◌, ◌&&◌, Bool, true, false, cond, not, T, List, [], ◌∷◌, ◌++◌, length, take, drop, get_or, refl, sym, ap, ◌∙◌, subst, inl, inr, arith, true≢false, length-append, length-drop, append_assoc, take-add, ltb, eqb, ne_eqb, Some}
use Rattle.std.proofs.lemmas.Bool.{cases_lt}
use Rattle.std.proofs.lemmas.Float.{not_nan_f64_bits}
use Rattle.std.proofs.lemmas.Int.Digits.{digits_value-lt}
use Rattle.std.proofs.lemmas.List.{drop_more, get_or_append_left, get_or-append-add, length-take-le, take-take, take_at, drop_at}
use Rattle.std.proofs.lemmas.Slice.{take-put_mid}
use borrow.Rule.Slice.PartMut.{put_mid}
use Rattle.std.proofs.lemmas.Str.Parse.{digit_at}
use Rattle.std.proofs.Math.Nat.{mul-one, pow-le-pow_right, eq-zero-or-pos, mul-le-mul_right, le_of_mul-le-mul_right}
use borrow.Author.Tests.{le-ltb, le-leb}
use Rattle.std.specs.Fmt.{sign_text, decimal}
use Rattle.std.specs.Str.Parse.{digits_value, AllDigits}
use Rattle.std.specs.Float.{binary64}
use Rattle.std.specs.Float.Parse.{parse_float}
use lib.Dec.{lit<}
use lib.Pow.{pow_pos}
use lib.Ieee.{Float, nan, inf, fin, Format, prec, emax, low, up, down, odd, units, round, neg, le, is_nan, of_bits}
use lib.Ieee.Bits.{nan_bits_is}
use lib.Ieee.Exact.{HasValue, odd_sign}
use lib.Ieee.Fits.{down_pos, round_is}
use lib.Ieee.Order.{round_mono, transfer}
use Rattle.fast_float.specs.Text.{Parts, digits_of, tens_up, tens_down, nearest, scan}
use Rattle.fast_float.proofs.ExactLemmas.{ten_to_pos}
use Rattle.fast_float.proofs.Extremes.{tens_le}
use Rattle.fast_float.proofs.Patterns.{of_bits_value, field_units, neg-round}
use Rattle.fast_float.proofs.Rows.{AllDigits-append, AllDigits-drop}
use Rattle.ryu.specs.Plain.{IsLaidOutNumber}
use Rattle.ryu.proofs.Signs.{parts as sign_parts}
use Rattle.bd_wide_number.specs.Value.{magnitude, spelled}
use Rattle.bd_wide_number.proofs.ValueLemmas.{rises}
use Rattle.bd_wide_text.specs.Double.{IsTextOf, IsDoubleText}
use Rattle.bd_wide_text.specs.Layout.{zeros}
use Rattle.bd_wide_text.specs.inside.Limited.{HasNone, IsShort}
use Rattle.bd_wide_text.specs.inside.LaidOutAnew.{AreParts, IsLaidOutAnew, IsMiddling, IsSized, AreZerosBefore, AreZerosAfter, small_text, large_text}
use Rattle.bd_wide_text.proofs.DoubleLemmas.{by_digits, first_digit, sized, parts_of, nearest_of}
use Rattle.bd_wide_text.proofs.LayoutLemmas.{near, nothing, small, small_value, large, short_exponent, far_first, leading_large, above_zero, whole_is, value_decimal}

-- ---- a double without its sign

abbrev bare : Float → Float
bare nan = nan
bare (inf s) = inf false
bare (fin s m e) = fin false m e

bare_neg : (x : Float) → bare (neg x) ≡ bare x
unfolding neg
bare_neg nan = refl
bare_neg (inf s) = refl
bare_neg (fin s m e) = refl

bare_value : (x : Float) (a c : ℕ) → HasValue x false a c → bare x ≡ x
bare_value nan a c h = absurd h
bare_value (inf s) a c h = absurd h
bare_value (fin s m e) a c h = ap (λ (t : Bool). fin t m e) (sym h.0)

bare_units : (f : Format) (q k : ℕ) → bare (units f false q k) ≡ units f false q k
unfolding units
bare_units f q k = by (ltb (q * 2 ^ k) (2 ^ (low f + suc (emax f))))
  where
    by : (b : Bool) → bare (cond b (odd (suc (prec f)) false q k (low f)) (inf false)) ≡ cond b (odd (suc (prec f)) false q k (low f)) (inf false)
    by true = bare_value _ _ _ (odd_sign (suc (prec f)) false q k (low f))
    by false = refl

bare_positive : (f : Format) (a c : ℕ) → bare (round f false a c) ≡ round f false a c
bare_positive f a c = ap bare (round_is f false a c) ∙ bare_units f _ _ ∙ sym (round_is f false a c)

bare_round : (f : Format) (s : Bool) (a c : ℕ) → bare (round f s a c) ≡ round f false a c
bare_round f true a c = ap bare (sym (neg-round f a c)) ∙ bare_neg (round f false a c) ∙ bare_positive f a c
bare_round f false a c = bare_positive f a c

bare_signed : (t : Bool) (y x : Float) → cond t (neg y) y ≡ x → bare x ≡ bare y
bare_signed true y x e = ap bare (sym e) ∙ bare_neg y
bare_signed false y x e = ap bare (sym e)

units_are : (e t : ℕ) → field_units binary64 e t ≡ spelled e t
units_are zero t = mul-one t
units_are (suc e) t = refl

bits_value : (b : ℕ) → b < 0x7FF0_0000_0000_0000 → HasValue (of_bits binary64 b) false (magnitude b) (2 ^ 1074)
unfolding magnitude
bits_value b finite =
    let e = b / 2 ^ 52 in
    let t = b % 2 ^ 52 in
    let same : e * 2 ^ 52 + t ≡ b = omega arith in
    let value : HasValue (of_bits binary64 (e * 2 ^ 52 + t)) false (field_units binary64 e t) (2 ^ 1074) = of_bits_value binary64 e t (omega arith) (omega arith) in
    subst (λ (a : ℕ). HasValue (of_bits binary64 b) false a (2 ^ 1074)) (units_are e t)
    (subst (λ (c : ℕ). HasValue (of_bits binary64 c) false (field_units binary64 e t) (2 ^ 1074)) same value)

bare_bits : (bits : ℕ) → bits < 2 ^ 64 → bits % 2 ^ 63 < 0x7FF0_0000_0000_0000 → bare (of_bits binary64 bits) ≡ of_bits binary64 (bits % 2 ^ 63)
bare_bits bits fits finite =
    let number : T (not (is_nan (of_bits binary64 bits))) = subst (λ (t : Bool). T (not t)) (nan_bits_is binary64 bits) (not_nan_f64_bits bits (omega arith)) in
    let p = sign_parts binary64 (of_bits binary64 bits) bits refl fits number in
    bare_signed _ _ _ p.same ∙ bare_value _ _ _ (bits_value (bits % 2 ^ 63) finite)

-- ---- the order of doubles, and of the numbers that they are the nearest to

level_le : (x y : ℕ) → T (ltb x y || (eqb x y && true)) → x ≤ y
level_le x y h = elim (cases_lt y x) [
  | inl more ↦
      let a : ltb x y ≡ false = le-ltb x y (omega arith) in
      let b : eqb x y ≡ false = ne_eqb x y (λ e. omega arith) in
      absurd (subst (λ (t : Bool). T t) (λ i. a i || (b i && true)) h)
  | inr less ↦ less
]

values_of_le : (x y : Float) (a b c : ℕ) → 0 < c → HasValue x false a c → HasValue y false b c → T (le x y) → a ≤ b
unfolding le
values_of_le nan y a b c some p q h = absurd p
values_of_le (inf s) y a b c some p q h = absurd p
values_of_le (fin true m e) y a b c some p q h = absurd (true≢false p.0)
values_of_le (fin false m e) nan a b c some p q h = absurd q
values_of_le (fin false m e) (inf t) a b c some p q h = absurd q
values_of_le (fin false m e) (fin true n d) a b c some p q h = absurd (true≢false q.0)
values_of_le (fin false m e) (fin false n d) a b c some p q h =
    let less : m * up e * down d ≤ n * up d * down e = level_le (m * up e * down d) (n * up d * down e) h in
    le_of_mul-le-mul_right (transfer a b c c (m * up e) (n * up d) (down e) (down d) (down_pos e) (down_pos d) (sym p.1) (sym q.1) less) some

million : round binary64 false (10 ^ 6) 1 ≡ of_bits binary64 0x412E_8480_0000_0000
unfolding round of_bits
million = refl

ten_thousandth : round binary64 false 1 (10 ^ 4) ≡ of_bits binary64 0x3F1A_36E2_EB1C_432D
unfolding round of_bits
ten_thousandth = refl

not_above : (b n d : ℕ) → b < 0x412E_8480_0000_0000 → 0 < d → of_bits binary64 b ≡ round binary64 false n d → 10 ^ 6 * d ≤ n → ⊥
not_above b n d small some is big =
    let order : T (le (round binary64 false (10 ^ 6) 1) (round binary64 false n d)) = round_mono binary64 (10 ^ 6) 1 n d (omega arith) some (omega arith) in
    let there = subst (λ (x : Float). T (le x (of_bits binary64 b))) million (subst (λ (x : Float). T (le (round binary64 false (10 ^ 6) 1) x)) (sym is) order) in
    let sizes = values_of_le (of_bits binary64 0x412E_8480_0000_0000) (of_bits binary64 b) (magnitude 0x412E_8480_0000_0000) (magnitude b) (2 ^ 1074) (pow_pos 1074)
    (bits_value 0x412E_8480_0000_0000 (omega arith)) (bits_value b (omega arith)) there in
    let less = rises b 0x412E_8480_0000_0000 small in
    omega arith

not_below : (b n d : ℕ) → 0x3F1A_36E2_EB1C_432D < b → b < 0x7FF0_0000_0000_0000 → 0 < d → of_bits binary64 b ≡ round binary64 false n d → n * 10 ^ 4 ≤ d → ⊥
not_below b n d large finite some is tiny =
    let order : T (le (round binary64 false n d) (round binary64 false 1 (10 ^ 4))) = round_mono binary64 n d 1 (10 ^ 4) some (omega arith) (omega arith) in
    let there = subst (λ (x : Float). T (le (of_bits binary64 b) x)) ten_thousandth (subst (λ (x : Float). T (le x (round binary64 false 1 (10 ^ 4)))) (sym is) order) in
    let sizes = values_of_le (of_bits binary64 b) (of_bits binary64 0x3F1A_36E2_EB1C_432D) (magnitude b) (magnitude 0x3F1A_36E2_EB1C_432D) (2 ^ 1074) (pow_pos 1074)
    (bits_value b finite) (bits_value 0x3F1A_36E2_EB1C_432D (omega arith)) there in
    let less = rises 0x3F1A_36E2_EB1C_432D b large in
    omega arith

-- ---- the zeros before and after digits

zeros_first : (ds : List ℕ) → (count : ℕ) × AreZerosBefore ds count
zeros_first [] = (0, record { within = omega arith; zeros_are = refl; next = λ l. absurd (omega arith) })
zeros_first (d ∷ ds) =
    let rest = zeros_first ds in
    elim (cases_lt d 48) [
      | inl less ↦ (0, record { within = omega arith; zeros_are = refl; next = λ l e. omega arith })
      | inr least ↦ elim (cases_lt 48 d) [
        | inl more ↦ (0, record { within = omega arith; zeros_are = refl; next = λ l e. omega arith })
        | inr most ↦
            let is : d ≡ 48 = omega arith in
            (suc rest.0, record { within = omega (arith, rest.1.within); zeros_are = (λ i. is i ∷ rest.1.zeros_are i); next = λ l. rest.1.next (omega arith) })
      ]
    ]

zeros_last_from : (ds : List ℕ) (n : ℕ) → n ≤ length ds → drop n ds ≡ zeros (length ds - n) → get_or ds 0 0 ≢ 48 → 0 < n → (count : ℕ) × AreZerosAfter ds count
zeros_last_from ds zero within are first some = absurd (omega arith)
zeros_last_from ds (suc n) within are first some = let at : get_or ds (suc n - 1) 0 ≡ get_or ds n 0 = ap (λ k. get_or ds k 0) {x = suc n - 1} {y = n} (omega arith) in elim (cases_lt (get_or ds n 0) 48) [
  | inl less ↦ (suc n, record { some = omega arith; within = within; zeros_are = are; last = λ e. omega (arith, at) })
  | inr least ↦ elim (cases_lt 48 (get_or ds n 0)) [
    | inl more ↦ (suc n, record { some = omega arith; within = within; zeros_are = are; last = λ e. omega (arith, at) })
    | inr most ↦
        let is : get_or ds n 0 ≡ 48 = omega arith in
        let step : drop n ds ≡ get_or ds n 0 ∷ drop (n + 1) ds = drop_more ds n 0 (omega arith) in
        let next : n + 1 ≡ suc n = omega arith in
        let long : length ds - n ≡ suc (length ds - suc n) = omega arith in
        let back : drop n ds ≡ zeros (length ds - n) = step ∙ (λ i. is i ∷ drop (next i) ds) ∙ ap (λ xs. 48 ∷ xs) are ∙ ap zeros (sym long) in
        elim (eq-zero-or-pos n) [
          | inl none ↦ absurd (first (subst (λ (k : ℕ). get_or ds k 0 ≡ 48) none is))
          | inr some ↦ zeros_last_from ds n (omega arith) back first some
        ]
  ]
]

zeros_last : (ds : List ℕ) → 0 < length ds → get_or ds 0 0 ≢ 48 → (count : ℕ) × AreZerosAfter ds count
zeros_last ds some first =
    let none : drop (length ds) ds ≡ [] = nothing (drop (length ds) ds) (omega (arith, length-drop (length ds) ds)) in
    let empty : length ds - length ds ≡ 0 = omega arith in
    zeros_last_from ds (length ds) (omega arith) (none ∙ ap zeros (sym empty)) first some

as_it_is_small : (size fraction : List ℕ) (count : ℕ) → count ≤ 3 → small_text size fraction count ≡ size
as_it_is_small size fraction count few = rw (le-leb count 3 few) refl

as_it_is_large : (size whole fraction : List ℕ) (count : ℕ) → length whole ≤ 6 → large_text size whole fraction count ≡ size
as_it_is_large size whole fraction count few = rw (le-leb (length whole) 6 few) refl

-- ---- a short text has 17 digits at most

few_in : (ds : List ℕ) → AllDigits 10 ds → length ds ≤ 17 → digits_value 10 ds < 10 ^ 17
few_in ds all few =
    let most : 10 ^ length ds ≤ 10 ^ 17 = pow-le-pow_right (lit< tt) {j = 17} few in
    omega (arith, digits_value-lt 10 ds all)

one_at_most : (b : Bool) → cond b 1 0 ≤ 1
one_at_most true = omega arith
one_at_most false = omega arith

short_size : (s : Bool) (text size : List ℕ) → text ≡ sign_text s ++ size → (get_or size 0 0 == 45) ≡ false → length text ≤ 18 + cond (get_or text 0 0 == 45) 1 0 → length size ≤ 18
short_size true text size is other few = omega (arith, ap (λ t. length t) is, one_at_most (get_or text 0 0 == 45), few)
short_size false text size is other few =
    let none : (get_or text 0 0 == 45) ≡ false = ap (λ t. get_or t 0 0 == 45) is ∙ other in
    omega (arith, ap (λ t. length t) is, subst (λ (b : Bool). length text ≤ 18 + cond b 1 0) none few)

-- the bytes at the leading that are no digit other than 0 end at the latest where one comes
none_beyond : (leading back text : List ℕ) (k count : ℕ) → text ≡ leading ++ back → HasNone text count → 48 < get_or back k 0 → count ≤ length leading + k
none_beyond leading back text k count is none some = elim (cases_lt (length leading + k) count) [
  | inr few ↦ few
  | inl more ↦
      let at : get_or text (length leading + k) 0 ≡ get_or back k 0 = ap (λ t. get_or t (length leading + k) 0) is ∙ get_or-append-add leading back k 0 in
      absurd (omega (arith, none (length leading + k) more))
]

module _ (s : Bool) (text size : List ℕ) (p : Parts) (parts : AreParts size p) (is : text ≡ sign_text s ++ size) (none : p.exponent ≡ []) where
  long : length size ≡ length p.whole + (1 + length p.fraction)
  long = omega (arith, ap (λ t. length t) (near size p parts none).text, length-append p.whole (46 ∷ p.fraction))

  as_long : length text ≡ length (sign_text s) + length size
  as_long = ap (λ t. length t) is ∙ length-append (sign_text s) size

  few_long : length size ≤ 18 → digits_of p < 10 ^ 17
  few_long few =
      let w = parts.plain.well_formed in
      few_in (p.whole ++ p.fraction) (AllDigits-append p.whole p.fraction w.whole_digits w.fraction_digits) (omega (arith, long, length-append p.whole p.fraction))

  few_large : (count : ℕ) → HasNone text count → length text ≤ 17 + count → 48 < get_or p.whole 0 0 → digits_of p < 10 ^ 17
  few_large count zeros_are few more =
      let first : get_or size 0 0 ≡ get_or p.whole 0 0 = ap (λ t. get_or t 0 0) (near size p parts none).text ∙ get_or_append_left p.whole (46 ∷ p.fraction) 0 0 parts.plain.whole in
      few_long (omega (arith, as_long, none_beyond (sign_text s) size text 0 count is zeros_are (omega arith)))

  few_small : (count : ℕ) → HasNone text count → length text ≤ 17 + count → get_or p.whole 0 0 ≡ 48 → digits_of p < 10 ^ 17
  few_small count zeros_are few first =
      let leading = sign_text s ++ (48 ∷ 46 ∷ []) in
      let whole = whole_is size p parts first in
      let splits : text ≡ leading ++ p.fraction =
      is ∙ ap (λ t. sign_text s ++ t) ((near size p parts none).text ∙ ap (λ w. w ++ (46 ∷ p.fraction)) whole) ∙ sym (append_assoc (sign_text s) (48 ∷ 46 ∷ []) p.fraction) in
      let found = zeros_first p.fraction in
      let n = found.0 in
      let rest = drop n p.fraction in
      let fraction_digits = parts.plain.well_formed.fraction_digits in
      let all = length-append leading p.fraction in
      let as_text : length text ≡ length (leading ++ p.fraction) = ap (λ t. length t) splits in
      let most : length rest ≤ 17 = elim (cases_lt n (length p.fraction)) [
        | inr beyond ↦ omega (arith, length-drop n p.fraction)
        | inl inside ↦ omega (arith, length-drop n p.fraction, none_beyond leading p.fraction text n count splits zeros_are (above_zero p.fraction n fraction_digits inside (found.1.next inside)))
      ] in
      omega (arith, small_value size p n parts first found.1, few_in rest (AllDigits-drop n p.fraction fraction_digits) most)

  few_short : IsShort text → digits_of p < 10 ^ 17
  few_short (inl few) = few_long (short_size s text size is first few) where
    first : (get_or size 0 0 == 45) ≡ false
    first = ap (λ t. get_or t 0 0 == 45) parts.text ∙ first_digit p parts.plain
  few_short (inr h) = elim (cases_lt 48 (get_or p.whole 0 0)) [
    | inl more ↦ few_large h.0 h.1 h.2 more
    | inr most ↦ few_small h.0 h.1 h.2 (omega (arith, (digit_at p.whole 0 parts.plain.well_formed.whole_digits parts.plain.whole).0))
  ]

-- ---- a number with these parts that is above 0.0001 and below 1,000,000

module _ (size : List ℕ) (p : Parts) (parts : AreParts size p) (few : p.exponent ≡ [] → digits_of p < 10 ^ 17) (big : 10 ^ 6 * 10 ^ tens_down p ≤ digits_of p * 10 ^ tens_up p → ⊥) (tiny : digits_of p * 10 ^ tens_up p * 10 ^ 4 ≤ 10 ^ tens_down p → ⊥) where
  digits_are : AllDigits 10 (p.whole ++ p.fraction)
  digits_are = AllDigits-append p.whole p.fraction parts.plain.well_formed.whole_digits parts.plain.well_formed.fraction_digits

  no_power : (t : Bool) → p.exponent_negative ≡ t → 0 < length p.exponent → ⊥
  no_power true sign far =
      let e = (parts.layout.far far).0 in
      let written = (parts.layout.far far).1 in
      let short : length (decimal e) ≤ 25 = subst (λ (x : List ℕ). length x ≤ 25) written (short_exponent size p parts) in
      let least : 6 ≤ e = subst (λ (b : Bool). (cond b 6 16) ≤ e) sign (parts.layout.far far).2 in
      let none : tens_up p ≡ 0 = ap (λ b. cond b 0 (digits_value 10 p.exponent)) sign in
      let below : tens_down p ≡ length p.fraction + e = ap (λ b. length p.fraction + cond b (digits_value 10 p.exponent) 0) sign ∙ ap (λ n. length p.fraction + n) (ap (digits_value 10) written ∙ value_decimal e short) in
      let n : digits_of p * 10 ^ tens_up p ≡ digits_of p = ap (λ k. digits_of p * 10 ^ k) none ∙ mul-one (digits_of p) in
      let d : 10 ^ tens_down p ≡ 10 ^ (length p.fraction + e) = ap (λ k. 10 ^ k) below in
      let l : 10 ^ length (p.whole ++ p.fraction) ≡ 10 ^ (1 + length p.fraction) = ap (λ k. 10 ^ k) (far_first size p parts far).1 in
      let ordered = tens_le 1 1 (1 + length p.fraction) 4 (length p.fraction + e) 0 (omega arith) (omega arith) in
      tiny (omega (arith, digits_value-lt 10 (p.whole ++ p.fraction) digits_are))
  no_power false sign far =
      let e = (parts.layout.far far).0 in
      let written = (parts.layout.far far).1 in
      let short : length (decimal e) ≤ 25 = subst (λ (x : List ℕ). length x ≤ 25) written (short_exponent size p parts) in
      let least : 16 ≤ e = subst (λ (b : Bool). (cond b 6 16) ≤ e) sign (parts.layout.far far).2 in
      let above : tens_up p ≡ e = ap (λ b. cond b 0 (digits_value 10 p.exponent)) sign ∙ ap (digits_value 10) written ∙ value_decimal e short in
      let below : tens_down p ≡ length p.fraction = ap (λ b. length p.fraction + cond b (digits_value 10 p.exponent) 0) sign ∙ omega arith in
      let first : 48 < get_or (p.whole ++ p.fraction) 0 0 = (far_first size p parts far).0 in
      let long = (far_first size p parts far).1 in
      let most = leading_large (p.whole ++ p.fraction) digits_are (omega arith) first in
      let l : 10 ^ (length (p.whole ++ p.fraction) - 1) ≡ 10 ^ length p.fraction = ap (λ k. 10 ^ k) {x = length (p.whole ++ p.fraction) - 1} {y = length p.fraction} (omega arith) in
      let n : digits_of p * 10 ^ tens_up p ≡ digits_of p * 10 ^ e = ap (λ k. digits_of p * 10 ^ k) above in
      let d : 10 ^ tens_down p ≡ 10 ^ length p.fraction = ap (λ k. 10 ^ k) below in
      let ordered = tens_le 1 1 6 (length p.fraction) (length p.fraction) e (omega arith) (omega arith) in
      let scaled : 10 ^ length p.fraction * 10 ^ e ≤ digits_of p * 10 ^ e = mul-le-mul_right (10 ^ e) (omega arith) in
      big (omega arith)

  small_laid : p.exponent ≡ [] → get_or p.whole 0 0 ≡ 48 → IsLaidOutAnew p size
  small_laid none first =
      let is = near size p parts none in
      let found = zeros_first p.fraction in
      let count = found.0 in
      let before = found.1 in
      let laid = small size p count parts (few none) none first before in
      elim (cases_lt 3 count) [
        | inr few ↦ subst (IsLaidOutAnew p) (as_it_is_small size p.fraction count few) laid
        | inl more ↦
            let value = small_value size p count parts first before in
            let less = digits_value-lt 10 (drop count p.fraction) (AllDigits-drop count p.fraction parts.plain.well_formed.fraction_digits) in
            let long : length (drop count p.fraction) ≡ length p.fraction - count = length-drop count p.fraction in
            let l : 10 ^ length (drop count p.fraction) ≡ 10 ^ (length p.fraction - count) = ap (λ k. 10 ^ k) long in
            let n : digits_of p * 10 ^ tens_up p ≡ digits_of p = ap (λ k. digits_of p * 10 ^ k) is.up ∙ mul-one (digits_of p) in
            let d : 10 ^ tens_down p ≡ 10 ^ length p.fraction = ap (λ k. 10 ^ k) is.down in
            let ordered = tens_le 1 1 (length p.fraction - count) 4 (length p.fraction) 0 (omega arith) (omega (arith, before.within)) in
            absurd (tiny (omega arith))
      ]

  large_laid : p.exponent ≡ [] → 48 < get_or p.whole 0 0 → IsLaidOutAnew p size
  large_laid none first =
      let is = near size p parts none in
      let other : get_or p.whole 0 0 ≢ 48 = λ e. omega arith in
      let found = zeros_last p.whole parts.plain.whole other in
      let laid = large size p found.0 parts (few none) none found.1 other in
      elim (cases_lt 6 (length p.whole)) [
        | inr few ↦ subst (IsLaidOutAnew p) (as_it_is_large size p.whole p.fraction found.0 few) laid
        | inl more ↦
            let first_is : 48 < get_or (p.whole ++ p.fraction) 0 0 = rw (get_or_append_left p.whole p.fraction 0 0 parts.plain.whole) first in
            let long = length-append p.whole p.fraction in
            let most = leading_large (p.whole ++ p.fraction) digits_are (omega arith) first_is in
            let n : digits_of p * 10 ^ tens_up p ≡ digits_of p = ap (λ k. digits_of p * 10 ^ k) is.up ∙ mul-one (digits_of p) in
            let d : 10 ^ tens_down p ≡ 10 ^ length p.fraction = ap (λ k. 10 ^ k) is.down in
            let ordered = tens_le 1 1 6 (length p.fraction) (length (p.whole ++ p.fraction) - 1) 0 (omega arith) (omega arith) in
            absurd (big (omega arith))
      ]

  plain_laid : IsLaidOutAnew p size
  plain_laid = elim (eq-zero-or-pos (length p.exponent)) [
    | inr far ↦ absurd (no_power p.exponent_negative refl far)
    | inl none ↦ elim (cases_lt 48 (get_or p.whole 0 0)) [
      | inl more ↦ large_laid (nothing p.exponent none) more
      | inr most ↦ small_laid (nothing p.exponent none) (omega (arith, (digit_at p.whole 0 parts.plain.well_formed.whole_digits parts.plain.whole).0))
    ]
  ]

-- ---- the text

pub middling_sized : (bits : ℕ) → bits < 2 ^ 64 → IsMiddling bits → IsSized (of_bits binary64 bits)
middling_sized bits fits h =
    let low = h.0 in
    let high = h.1 in
    sized bits fits (λ e. omega arith) (λ e. omega arith) (λ e. omega arith) (λ e. omega arith) (omega arith)

pub plain_text : (bits : ℕ) (text : List ℕ) → bits < 2 ^ 64 → IsMiddling bits → parse_float binary64 text ≡ Some (of_bits binary64 bits) → IsLaidOutNumber 16 4 text → length text ≤ 25 → IsShort text → IsDoubleText bits text
plain_text bits text fits middling parses laid short short_is =
    let x = of_bits binary64 bits in
    let s = laid.0 in
    let size = laid.1 in
    let is = laid.2 in
    let p = laid.3.0 in
    let low = middling.0 in
    let high = middling.1 in
    let few : length size ≤ 25 = omega (arith, ap (λ t. length t) is, length-append (sign_text s) size) in
    let parts = parts_of p size laid.3.1 laid.3.2 laid.3.3 few in
    let close : nearest binary64 s (scan size) ≡ x = nearest_of p s x size laid.3.1 laid.3.2 (ap (parse_float binary64) (sym is) ∙ parses) in
    let q = scan size in
    let n = digits_of q * 10 ^ tens_up q in
    let d = 10 ^ tens_down q in
    let same : of_bits binary64 (bits % 2 ^ 63) ≡ round binary64 false n d = sym (bare_bits bits fits (omega arith)) ∙ ap bare (sym close) ∙ bare_round binary64 s n d in
    let laid_out = plain_laid size q parts (λ none. few_short s text size q parts is none short_is) (not_above (bits % 2 ^ 63) n d high (ten_to_pos (tens_down q)) same) (not_below (bits % 2 ^ 63) n d low (omega arith) (ten_to_pos (tens_down q)) same) in
    subst (IsTextOf x) (sym is) (by_digits x s q size close laid_out (middling_sized bits fits middling))

-- a part of a buffer was written, and its first n bytes count
pub placed : (a ys : List ℕ) (i k n : ℕ) → i ≤ length a → n ≤ length ys → take (i + n) (put_mid i k a ys) ≡ take i a ++ take n ys
placed a ys i k n fits few =
    let as_long = length-take-le i a fits in
    sym (take-take (i + n) (i + length ys) (put_mid i k a ys) (omega arith)) ∙ ap (take (i + n)) (take-put_mid i k a ys (i + length ys) refl fits) ∙ take-add i n (take i a ++ ys)
    ∙ (λ j. take_at (take i a) ys i as_long j ++ take n (drop_at (take i a) ys i as_long j))
