-- The text of a double is read back as the double.
use Rattle.std.proofs.Common.{◌≡◌, ◌<◌, ◌≤◌, ℕ, zero, suc, ◌+◌, ◌-◌, ◌*◌, ◌^◌, ◌==◌, ◌&&◌, ℤ, Bool, true, false, cond, T, List, [], ◌∷◌, ◌++◌, length, take, drop, get_or, slice_range, refl, sym, ap, ◌∙◌, subst, inl, inr, arith, true≢false, codes, pos, negsuc, ltb, eqb, eqb-true, ne_eqb, eq-eqb, Some, append-nil, append_assoc, length-append, length-take, length-drop, take_at, drop_at, take-append-drop, add-zero}
use Rattle.std.proofs.lemmas.Bool.{cases_lt}
use Rattle.std.proofs.lemmas.List.{length-replicate, replicate-append-replicate, get_or-append-add}
use Rattle.std.proofs.lemmas.Str.Parse.{digit_from_value}
use Rattle.std.proofs.lemmas.Fmt.{decimal_is_IsNumeral_wide}
use Rattle.std.proofs.lemmas.Int.Digits.{digits_value-lt}
use Rattle.std.proofs.lemmas.Float.Parse.{parse_float-text_of, parse_float_on_literals}
use Rattle.std.proofs.Math.Nat.{mul-one, one-mul, pow-suc, le_trans, mul-le-mul_right}
use borrow.Author.Tests.{lt-ltb, le-ltb}
use Rattle.std.specs.Fmt.{decimal, sign_text}
use Rattle.std.specs.Str.Parse.{digits_value, AllDigits}
use Rattle.std.specs.Float.{binary64}
use Rattle.std.specs.Float.Numeral.{digits_len, digits_end, exponent_start, has_exponent, scan_numeral, IsWellFormed}
use Rattle.std.specs.Float.Parse.{parse_float, read_float}
use lib.Ieee.{Float, nan, inf, fin, round, of_bits, fits, neg}
use lib.Ieee.Bits.{of_bits-fits, is_true}
use lib.Pow.{pow_pos}
use Rattle.fast_float.specs.Text.{Parts, nearest}
use Rattle.fast_float.proofs.DigitsLemmas.{digits_value-append, is_digit}
use Rattle.fast_float.proofs.ExactLemmas.{ten_to_pos}
use Rattle.fast_float.proofs.Extremes.{nearest_of_tiny, nearest_of_huge, tens_le}
use Rattle.fast_float.proofs.Patterns.{infinite, neg-round}
use Rattle.fast_float.proofs.Rows.{AllDigits-take, AllDigits-drop, AllDigits-append}
use Rattle.ryu.proofs.Texts.{AllDigits-zeros, value_zeros}
use Rattle.bd_wide_text.specs.Layout.{mantissa, zeros}
use Rattle.bd_wide_text.specs.Double.{AreSignificant, IsTextOf, IsDoubleText, laid_out, nearest_double, padded}
use Rattle.bd_wide_text.proofs.LayoutLemmas.{same_tens}

-- ---- a numeral with a sign at its exponent

digits_len-append : (ds rest : List ℕ) → AllDigits 10 ds → digits_len (ds ++ rest) ≡ length ds + digits_len rest
digits_len-append [] rest h = omega arith
digits_len-append (d ∷ ds) rest h = let r = digit_from_value d h.0 in rw ((is_digit d r.0 r.1).0) (omega (arith, digits_len-append ds rest h.1))

module _ (prefix ds rest : List ℕ) (i : ℕ) (at : length prefix ≡ i) (digits : AllDigits 10 ds) (ends : digits_len rest ≡ 0) where
  run_end : digits_end (prefix ++ (ds ++ rest)) i ≡ i + length ds
  run_end = rw (drop_at prefix _ i at, digits_len-append ds rest digits, ends, add-zero)

  run_is : slice_range (prefix ++ (ds ++ rest)) i (i + length ds) ≡ ds
  run_is = rw (drop_at prefix _ i at) (take_at ds rest (i + length ds - i) (omega arith))

byte_after : (prefix rest : List ℕ) (i k : ℕ) → length prefix ≡ i → get_or (prefix ++ rest) (i + k) 0 ≡ get_or rest k 0
byte_after prefix rest i k e = rw (← e) (get_or-append-add prefix rest k 0)

byte_at_end : (prefix rest : List ℕ) (i : ℕ) → length prefix ≡ i → get_or (prefix ++ rest) i 0 ≡ get_or rest 0 0
byte_at_end prefix rest i e = rw add-zero at (byte_after prefix rest i 0 e)

abbrev Tail : List ℕ → ℕ → Bool → List ℕ → Type 0
Tail bs b negative exponent =
    ((has_exponent bs b && eqb (get_or bs (b + 1) 0) 45) ≡ negative)
    × (cond (has_exponent bs b) (slice_range bs (exponent_start bs b) (digits_end bs (exponent_start bs b))) [] ≡ exponent)
    × (cond (has_exponent bs b) (digits_end bs (exponent_start bs b)) b ≡ length bs)

tail_of : (bs : List ℕ) (b c : ℕ) (negative : Bool) (exponent : List ℕ) → has_exponent bs b ≡ true → exponent_start bs b ≡ c → eqb (get_or bs (b + 1) 0) 45 ≡ negative
    → digits_end bs c ≡ c + length exponent → slice_range bs c (c + length exponent) ≡ exponent → c + length exponent ≡ length bs → Tail bs b negative exponent
tail_of bs b c negative exponent has start sign end is long = (rw has sign, rw (has, start, end) is, rw (has, start, end) long)

-- the byte of a sign
abbrev pub sign_byte : Bool → ℕ
sign_byte true = 45
sign_byte false = 43

signed_tail : (prefix : List ℕ) (b : ℕ) (negative : Bool) (exponent : List ℕ) → length prefix ≡ b → 0 < length exponent → AllDigits 10 exponent
    → Tail (prefix ++ 69 ∷ sign_byte negative ∷ exponent) b negative exponent
signed_tail prefix b negative [] at some digits = absurd (omega arith)
signed_tail prefix b true (d ∷ ds) at some digits =
    let r = digit_from_value d digits.0 in
    let bs = prefix ++ 69 ∷ 45 ∷ d ∷ ds in
    let next : get_or bs (b + 1) 0 ≡ 45 = byte_after prefix _ b 1 at in
    let start : exponent_start bs b ≡ b + 2 = rw next in
    let splits : (prefix ++ 69 ∷ 45 ∷ []) ++ ((d ∷ ds) ++ []) ≡ bs = rw (append-nil, append_assoc) in
    let long : length (prefix ++ 69 ∷ 45 ∷ []) ≡ b + 2 = rw (length-append, at) in
    tail_of bs b (b + 2) true (d ∷ ds) (rw (start, byte_after prefix _ b 2 at, byte_at_end prefix _ b at) (is_digit d r.0 r.1).0) start (rw next)
    (rw splits at (run_end _ (d ∷ ds) [] (b + 2) long digits refl)) (rw splits at (run_is _ (d ∷ ds) [] (b + 2) long digits refl)) (omega (arith, length-append prefix (69 ∷ 45 ∷ d ∷ ds)))
signed_tail prefix b false (d ∷ ds) at some digits =
    let r = digit_from_value d digits.0 in
    let bs = prefix ++ 69 ∷ 43 ∷ d ∷ ds in
    let next : get_or bs (b + 1) 0 ≡ 43 = byte_after prefix _ b 1 at in
    let start : exponent_start bs b ≡ b + 2 = rw next in
    let splits : (prefix ++ 69 ∷ 43 ∷ []) ++ ((d ∷ ds) ++ []) ≡ bs = rw (append-nil, append_assoc) in
    let long : length (prefix ++ 69 ∷ 43 ∷ []) ≡ b + 2 = rw (length-append, at) in
    tail_of bs b (b + 2) false (d ∷ ds) (rw (start, byte_after prefix _ b 2 at, byte_at_end prefix _ b at) (is_digit d r.0 r.1).0) start (rw next)
    (rw splits at (run_end _ (d ∷ ds) [] (b + 2) long digits refl)) (rw splits at (run_is _ (d ∷ ds) [] (b + 2) long digits refl)) (omega (arith, length-append prefix (69 ∷ 43 ∷ d ∷ ds)))

scan_is : (bs whole fraction exponent : List ℕ) (point negative : Bool) (a b : ℕ) → digits_end bs 0 ≡ a → eqb (get_or bs a 0) 46 ≡ point → cond point (digits_end bs (a + 1)) a ≡ b
    → slice_range bs 0 a ≡ whole → cond point (slice_range bs (a + 1) b) [] ≡ fraction → Tail bs b negative exponent
    → scan_numeral bs ≡ record { whole = whole; point = point; fraction = fraction; exponent_negative = negative; exponent = exponent; len = length bs }
unfolding scan_numeral
scan_is bs whole fraction exponent point negative a b ea ep eb ew ef t =
    rw (ea, ep, eb) (λ i. record { whole = ew i; point = point; fraction = ef i; exponent_negative = t.0 i; exponent = t.1 i; len = t.2 i })

-- the parts of a number with a power of ten, by its first digit and the others
abbrev pub parts : ℕ → List ℕ → Bool → List ℕ → ℕ → Parts
parts d [] negative exponent len = record { whole = d ∷ []; point = false; fraction = []; exponent_negative = negative; exponent = exponent; len = len }
parts d (e ∷ ds) negative exponent len = record { whole = d ∷ []; point = true; fraction = e ∷ ds; exponent_negative = negative; exponent = exponent; len = len }

-- a number with a power of ten is scanned as its parts
pub scan_scientific : (d : ℕ) (ds exponent : List ℕ) (negative : Bool) → AllDigits 10 (d ∷ ds) → 0 < length exponent → AllDigits 10 exponent
    → let bs = mantissa (d ∷ ds) ++ (69 ∷ sign_byte negative ∷ exponent) in scan_numeral bs ≡ parts d ds negative exponent (length bs)
scan_scientific d [] exponent negative all some e =
    let back = 69 ∷ sign_byte negative ∷ exponent in
    let one : AllDigits 10 (d ∷ []) = (all.0, tt) in
    scan_is ((d ∷ []) ++ back) (d ∷ []) [] exponent false negative 1 1 (run_end [] (d ∷ []) back 0 refl one refl) refl refl
    (run_is [] (d ∷ []) back 0 refl one refl) refl (signed_tail (d ∷ []) 1 negative exponent refl some e)
scan_scientific d (f ∷ ds) exponent negative all some e =
    let back = 69 ∷ sign_byte negative ∷ exponent in
    let one : AllDigits 10 (d ∷ []) = (all.0, tt) in
    let test : ltb 1 (length (d ∷ f ∷ ds)) ≡ true = lt-ltb 1 _ (omega arith) in
    let n = 1 + 1 + length (f ∷ ds) in
    let whole : scan_numeral (d ∷ 46 ∷ ((f ∷ ds) ++ back)) ≡ parts d (f ∷ ds) negative exponent (length (d ∷ 46 ∷ ((f ∷ ds) ++ back))) =
    scan_is (d ∷ 46 ∷ ((f ∷ ds) ++ back)) (d ∷ []) (f ∷ ds) exponent true negative 1 n (run_end [] (d ∷ []) (46 ∷ ((f ∷ ds) ++ back)) 0 refl one refl) refl
    (run_end (d ∷ 46 ∷ []) (f ∷ ds) back 2 refl all.1 refl) (run_is [] (d ∷ []) (46 ∷ ((f ∷ ds) ++ back)) 0 refl one refl) (run_is (d ∷ 46 ∷ []) (f ∷ ds) back 2 refl all.1 refl)
    (signed_tail (d ∷ 46 ∷ (f ∷ ds)) n negative exponent (omega arith) some e) in
    rw test whole

-- ---- a numeral that is scanned completely is read

first_digit : (ds rest : List ℕ) → AllDigits 10 ds → 0 < length ds → (eqb (get_or (ds ++ rest) 0 0) 45 ≡ false) × (eqb (get_or (ds ++ rest) 0 0) 43 ≡ false)
first_digit [] rest h l = absurd (omega arith)
first_digit (d ∷ ds) rest h l = let r = digit_from_value d h.0 in (ne_eqb d 45 (λ e. omega arith), ne_eqb d 43 (λ e. omega arith))

reads : (s : Bool) (bs : List ℕ) (p : Parts) → scan_numeral bs ≡ p → p.len ≡ length bs → 0 < length p.whole + length p.fraction
    → (eqb (get_or bs 0 0) 45 ≡ false) × (eqb (get_or bs 0 0) 43 ≡ false) → parse_float binary64 (sign_text s ++ bs) ≡ Some (nearest binary64 s p)
unfolding read_float
reads true bs p is long some first = rw (is, lt-ltb 0 (length p.whole + length p.fraction) some, eq-eqb (1 + p.len) (suc (length bs)) (omega arith))
reads false bs p is long some first = rw (first.0, first.1, is, lt-ltb 0 (length p.whole + length p.fraction) some, eq-eqb (0 + p.len) (length bs) (omega arith))

-- ---- with a power of ten

padded_is : (ds : List ℕ) → AllDigits 10 ds → 0 < length ds → (digits_value 10 (padded ds) ≡ digits_value 10 ds) × AllDigits 10 (padded ds) × (0 < length (padded ds))
padded_is ds all some =
    let P = λ (xs : List ℕ). (digits_value 10 xs ≡ digits_value 10 ds) × AllDigits 10 xs × (0 < length xs) in
    elim (length ds == 1) as (λ t. P (cond t (48 ∷ ds) ds)) [
      | true ↦ (refl, (omega arith, all), omega arith)
      | false ↦ (refl, all, some)
    ]

up_worth : (s : Bool) (d : ℕ) (ds x : List ℕ) (len e : ℕ) → digits_value 10 x ≡ e → nearest binary64 s (parts d ds false x len) ≡ nearest_double s (d ∷ ds) (pos e)
unfolding nearest_double
up_worth s d [] x len e is = same_tens s (digits_value 10 (d ∷ [])) (digits_value 10 x) 0 (e + 1) 1 (omega arith)
up_worth s d (f ∷ ds) x len e is = same_tens s (digits_value 10 (d ∷ f ∷ ds)) (digits_value 10 x) (length (f ∷ ds) + 0) (e + 1) (length (d ∷ f ∷ ds)) (omega arith)

down_worth : (s : Bool) (d : ℕ) (ds x : List ℕ) (len k : ℕ) → digits_value 10 x ≡ k + 1 → nearest binary64 s (parts d ds true x len) ≡ nearest_double s (d ∷ ds) (negsuc k)
unfolding nearest_double
down_worth s d [] x len k is =
    same_tens s (digits_value 10 (d ∷ [])) 0 (0 + digits_value 10 x) 0 (k + 1) (omega arith)
    ∙ ap (λ n. round binary64 s n (10 ^ (k + 1))) (mul-one (digits_value 10 (d ∷ [])))
down_worth s d (f ∷ ds) x len k is =
    same_tens s (digits_value 10 (d ∷ f ∷ ds)) 0 (length (f ∷ ds) + digits_value 10 x) 0 (k + length (d ∷ f ∷ ds)) (omega arith)
    ∙ ap (λ n. round binary64 s n (10 ^ (k + length (d ∷ f ∷ ds)))) (mul-one (digits_value 10 (d ∷ f ∷ ds)))

parts_are : (d : ℕ) (ds x : List ℕ) (negative : Bool) (len : ℕ) → ((parts d ds negative x len).len ≡ len) × (0 < length (parts d ds negative x len).whole + length (parts d ds negative x len).fraction)
parts_are d [] x negative len = (refl, omega arith)
parts_are d (f ∷ ds) x negative len = (refl, omega arith)

scientific_first : (d : ℕ) (ds back : List ℕ) → AllDigits 10 (d ∷ ds) → (eqb (get_or (mantissa (d ∷ ds) ++ back) 0 0) 45 ≡ false) × (eqb (get_or (mantissa (d ∷ ds) ++ back) 0 0) 43 ≡ false)
scientific_first d ds back all = let r = digit_from_value d all.0 in (ne_eqb d 45 (λ e. omega arith), ne_eqb d 43 (λ e. omega arith))

reads_scientific : (s negative : Bool) (d : ℕ) (ds : List ℕ) (e : ℕ) → AllDigits 10 (d ∷ ds) → e < 10 ^ 64
    → let x = padded (decimal e) in (n : ℕ) × (parse_float binary64 (sign_text s ++ (mantissa (d ∷ ds) ++ (69 ∷ sign_byte negative ∷ x))) ≡ Some (nearest binary64 s (parts d ds negative x n))) × (digits_value 10 x ≡ e)
reads_scientific s negative d ds e all few =
    let numeral = decimal_is_IsNumeral_wide e few in
    let x = padded (decimal e) in
    let pad = padded_is (decimal e) numeral.0.1 numeral.0.0 in
    let bs = mantissa (d ∷ ds) ++ (69 ∷ sign_byte negative ∷ x) in
    let is = parts_are d ds x negative (length bs) in
    (length bs, reads s bs (parts d ds negative x (length bs)) (scan_scientific d ds x negative all pad.2 pad.1) is.0 is.1 (scientific_first d ds (69 ∷ sign_byte negative ∷ x) all), pad.0 ∙ numeral.1)

-- ---- without one

reads_plain : (s : Bool) (whole fraction : List ℕ) → AllDigits 10 whole → AllDigits 10 fraction → 0 < length whole
    → parse_float binary64 (sign_text s ++ (whole ++ (46 ∷ fraction))) ≡ Some (round binary64 s (digits_value 10 (whole ++ fraction) * 10 ^ 0) (10 ^ (length fraction + 0)))
reads_plain s whole fraction w f some =
    let text = whole ++ ((46 ∷ fraction) ++ []) in
    let p : Parts = record { whole = whole; point = true; fraction = fraction; exponent_negative = false; exponent = []; len = length text } in
    let good : IsWellFormed p = record { whole_digits = w; fraction_digits = f; exponent_digits = tt; no_point = λ e. absurd (true≢false e); no_exponent = λ e. refl; len_is = refl } in
    ap (λ t. parse_float binary64 (sign_text s ++ (whole ++ t))) (sym (append-nil (46 ∷ fraction))) ∙ parse_float-text_of binary64 s p good some

reads_broken : (s : Bool) (digits : List ℕ) (e : ℕ) → AllDigits 10 digits → e + 1 < length digits
    → parse_float binary64 (sign_text s ++ (take (e + 1) digits ++ (46 ∷ drop (e + 1) digits))) ≡ Some (nearest_double s digits (pos e))
unfolding nearest_double
reads_broken s digits e all more =
    let whole = take (e + 1) digits in
    let fraction = drop (e + 1) digits in
    let w : length whole ≡ e + 1 = length-take (e + 1) digits ∙ omega arith in
    let f : length fraction ≡ length digits - (e + 1) = length-drop (e + 1) digits in
    reads_plain s whole fraction (AllDigits-take (e + 1) digits all) (AllDigits-drop (e + 1) digits all) (omega arith)
    ∙ ap (λ (x : Float). Some x) (ap (λ t. round binary64 s (digits_value 10 t * 10 ^ 0) (10 ^ (length fraction + 0))) (take-append-drop (e + 1) digits)
    ∙ same_tens s (digits_value 10 digits) 0 (length fraction + 0) (e + 1) (length digits) (omega arith))

zeros_end : (z : ℕ) → zeros z ++ 48 ∷ [] ≡ zeros (z + 1)
zeros_end z = replicate-append-replicate z 1 48

reads_whole : (s : Bool) (digits : List ℕ) (e : ℕ) → AllDigits 10 digits → length digits ≤ e + 1 → 0 < length digits
    → parse_float binary64 (sign_text s ++ (digits ++ (zeros (e + 1 - length digits) ++ (46 ∷ 48 ∷ [])))) ≡ Some (nearest_double s digits (pos e))
unfolding nearest_double
reads_whole s digits e all few some =
    let z = e + 1 - length digits in
    let whole = digits ++ zeros z in
    let one : AllDigits 10 (48 ∷ []) = (omega arith, tt) in
    let join : digits ++ (zeros z ++ (46 ∷ 48 ∷ [])) ≡ whole ++ (46 ∷ 48 ∷ []) = sym (append_assoc digits (zeros z) (46 ∷ 48 ∷ [])) in
    let w = digits_value 10 digits in
    let value : digits_value 10 (whole ++ 48 ∷ []) ≡ w * 10 ^ (z + 1) =
    ap (digits_value 10) (append_assoc digits (zeros z) (48 ∷ []) ∙ ap (λ t. digits ++ t) (zeros_end z)) ∙ digits_value-append digits (zeros (z + 1))
    ∙ (λ i. w * 10 ^ (length-replicate {A = ℕ} (z + 1) 48 i) + value_zeros (z + 1) i) ∙ omega arith in
    ap (λ t. parse_float binary64 (sign_text s ++ t)) join
    ∙ reads_plain s whole (48 ∷ []) (AllDigits-append digits (zeros z) all (AllDigits-zeros z)) one (omega (arith, length-append digits (zeros z)))
    ∙ ap (λ (x : Float). Some x) (ap (λ n. round binary64 s n (10 ^ (1 + 0))) (mul-one (digits_value 10 (whole ++ 48 ∷ [])) ∙ value)
    ∙ same_tens s w (z + 1) (1 + 0) (e + 1) (length digits) (omega arith))

reads_small : (s : Bool) (digits : List ℕ) (k : ℕ) → AllDigits 10 digits → parse_float binary64 (sign_text s ++ (48 ∷ 46 ∷ (zeros k ++ digits))) ≡ Some (nearest_double s digits (negsuc k))
unfolding nearest_double
reads_small s digits k all =
    let one : AllDigits 10 (48 ∷ []) = (omega arith, tt) in
    let fraction = zeros k ++ digits in
    let long : length fraction ≡ k + length digits = length-append (zeros k) digits ∙ ap (λ n. n + length digits) (length-replicate {A = ℕ} k 48) in
    let value : digits_value 10 (48 ∷ fraction) ≡ digits_value 10 digits =
    digits_value-append (zeros (suc k)) digits ∙ ap (λ n. n * 10 ^ length digits + digits_value 10 digits) (value_zeros (suc k)) ∙ omega arith in
    reads_plain s (48 ∷ []) fraction one (AllDigits-append (zeros k) digits (AllDigits-zeros k) all) (omega arith)
    ∙ (λ i. Some (round binary64 s ((mul-one (digits_value 10 (48 ∷ fraction)) ∙ value) i) (10 ^ ((add-zero (length fraction) ∙ long) i))))

-- ---- powers of ten beyond the doubles

by_sign : (s : Bool) (a c : ℕ) (x y : Float) → round binary64 false a c ≡ x → neg x ≡ y → round binary64 s a c ≡ cond s y x
by_sign false a c x y is other = is
by_sign true a c x y is other = sym (neg-round binary64 a c) ∙ ap neg is ∙ other

large_value : (d : ℕ) (ds : List ℕ) → AllDigits 10 (d ∷ ds) → 48 < d → 10 ^ length ds ≤ digits_value 10 (d ∷ ds)
large_value d ds all some =
    let r = digit_from_value d all.0 in
    let one : digits_value 10 (d ∷ []) ≡ d - 48 = omega (arith, (is_digit d r.0 r.1).1) in
    let most : 1 * 10 ^ length ds ≤ digits_value 10 (d ∷ []) * 10 ^ length ds = mul-le-mul_right (10 ^ length ds) (omega arith) in
    omega (arith, digits_value-append (d ∷ []) ds, most)

infinite_clash : (s t : Bool) (m : ℕ) (g : ℤ) → cond s (inf true) (inf false) ≡ fin t m g → ⊥
infinite_clash true t m g e = cc
infinite_clash false t m g e = cc

not_huge : (s : Bool) (d : ℕ) (ds : List ℕ) (e : ℕ) → AllDigits 10 (d ∷ ds) → 48 < d → 309 ≤ e → (t : Bool) (m : ℕ) (g : ℤ) → nearest_double s (d ∷ ds) (pos e) ≡ fin t (suc m) g → ⊥
unfolding nearest_double neg
not_huge s d ds e all some far t m g is =
    let w = digits_value 10 (d ∷ ds) in
    let least : 1 * 10 ^ 309 * 10 ^ (1 + length ds) ≤ 1 * 10 ^ length ds * 10 ^ (e + 1) = tens_le 1 1 309 (1 + length ds) (length ds) (e + 1) (omega arith) (omega arith) in
    let more : 10 ^ length ds * 10 ^ (e + 1) ≤ w * 10 ^ (e + 1) = mul-le-mul_right (10 ^ (e + 1)) (large_value d ds all some) in
    let remaining : 10 ^ 309 * 10 ^ (1 + length ds) ≤ 10 ^ length ds * 10 ^ (e + 1) = rw (one-mul (10 ^ 309), one-mul (10 ^ length ds)) at least in
    let big : 10 ^ 309 * 10 ^ length (d ∷ ds) ≤ w * 10 ^ (e + 1) = le_trans {k = w * 10 ^ (e + 1)} (subst (λ (n : ℕ). 10 ^ 309 * 10 ^ n ≤ 10 ^ length ds * 10 ^ (e + 1)) (omega arith) remaining) more in
    let high = nearest_of_huge binary64 (w * 10 ^ (e + 1)) (10 ^ length (d ∷ ds)) (ten_to_pos (length (d ∷ ds))) big in
    let clash : cond s (inf true) (inf false) ≡ fin t (suc m) g = sym (by_sign s _ _ (inf false) (inf true) (sym high.0 ∙ infinite binary64) refl) ∙ is in
    infinite_clash s t (suc m) g clash

zero_clash : (s t : Bool) (m : ℕ) (g : ℤ) → cond s (fin true 0 (pos 0)) (fin false 0 (pos 0)) ≡ fin t (suc m) g → ⊥
zero_clash true t m g e = cc
zero_clash false t m g e = cc

not_tiny : (s : Bool) (digits : List ℕ) (k : ℕ) → AllDigits 10 digits → 343 ≤ k → (t : Bool) (m : ℕ) (g : ℤ) → nearest_double s digits (negsuc k) ≡ fin t (suc m) g → ⊥
unfolding nearest_double neg of_bits
not_tiny s digits k all far t m g is =
    let w = digits_value 10 digits in
    let n = length digits in
    let under : w * 10 ^ 343 ≤ 10 ^ n * 10 ^ 343 = mul-le-mul_right (10 ^ 343) (omega (arith, digits_value-lt 10 digits all)) in
    let tens : 1 * 10 ^ n * 10 ^ 343 ≤ 1 * 10 ^ 0 * 10 ^ (k + n) = tens_le 1 1 n 343 0 (k + n) (omega arith) (omega arith) in
    let small : w * 10 ^ 343 ≤ 2 ^ 64 * 10 ^ (k + n) = omega (arith, under, tens, mul-one (10 ^ n)) in
    let low = nearest_of_tiny binary64 w (10 ^ (k + n)) (ten_to_pos (k + n)) small in
    let clash : cond s (fin true 0 (pos 0)) (fin false 0 (pos 0)) ≡ fin t (suc m) g = sym (by_sign s _ _ (fin false 0 (pos 0)) (fin true 0 (pos 0)) (sym low.0) refl) ∙ is in
    zero_clash s t m g clash

-- ---- all powers of ten

reads_digits : (s : Bool) (d : ℕ) (ds : List ℕ) (power : ℤ) → AllDigits 10 (d ∷ ds) → 48 < d → (t : Bool) (m : ℕ) (g : ℤ) → nearest_double s (d ∷ ds) power ≡ fin t (suc m) g
    → parse_float binary64 (sign_text s ++ laid_out (d ∷ ds) power) ≡ Some (nearest_double s (d ∷ ds) power)
unfolding laid_out
reads_digits s d ds (pos e) all some t m g is = elim (cases_lt 5 e) [
  | inl far ↦
      let few : e < 10 ^ 64 = elim (cases_lt e 309) [ inl less ↦ omega arith | inr more ↦ absurd (not_huge s d ds e all some more t m g is) ] in
      let r = reads_scientific s false d ds e all few in
      rw (lt-ltb 5 e far) (r.1 ∙ ap (λ (x : Float). Some x) (up_worth s d ds (padded (decimal e)) r.0 e r.2))
  | inr near ↦ elim (cases_lt (e + 1) (length (d ∷ ds))) [
    | inl more ↦ rw (le-ltb 5 e near, lt-ltb (e + 1) (length (d ∷ ds)) more) (reads_broken s (d ∷ ds) e all more)
    | inr less ↦ rw (le-ltb 5 e near, le-ltb (e + 1) (length (d ∷ ds)) less) (reads_whole s (d ∷ ds) e all less (omega arith))
  ]
]
reads_digits s d ds (negsuc k) all some t m g is = elim (cases_lt 3 k) [
  | inl far ↦
      let few : k + 1 < 10 ^ 64 = elim (cases_lt k 343) [ inl less ↦ omega arith | inr more ↦ absurd (not_tiny s (d ∷ ds) k all more t m g is) ] in
      let r = reads_scientific s true d ds (k + 1) all few in
      rw (lt-ltb 3 k far) (r.1 ∙ ap (λ (x : Float). Some x) (down_worth s d ds (padded (decimal (k + 1))) r.0 k r.2))
  | inr near ↦ rw (le-ltb 3 k near) (reads_small s (d ∷ ds) k all)
]

reads_significant : (s : Bool) (digits : List ℕ) (power : ℤ) → AreSignificant digits → (t : Bool) (m : ℕ) (g : ℤ) → nearest_double s digits power ≡ fin t (suc m) g
    → parse_float binary64 (sign_text s ++ laid_out digits power) ≡ Some (nearest_double s digits power)
reads_significant s [] power sig t m g is = absurd (omega (arith, sig.first))
reads_significant s (d ∷ ds) power sig t m g is = reads_digits s d ds power sig.all sig.first t m g is

not_one : (k : ℕ) → 2 ^ suc k ≡ 1 → ⊥
not_one k e = omega (arith, pow-suc 2 k, pow_pos k)

zero_reads : (s : Bool) (e : ℤ) → T (fits binary64 (fin s zero e)) → parse_float binary64 (sign_text s ++ codes "0.0") ≡ Some (fin s zero e)
unfolding fits parse_float_on_literals
zero_reads true (pos zero) ok = refl
zero_reads false (pos zero) ok = refl
zero_reads s (pos (suc k)) ok = absurd (not_one k (omega (arith, eqb-true _ 1 (is_true _ ok))))
zero_reads s (negsuc k) ok = absurd (not_one k (omega (arith, eqb-true _ 1 (is_true _ ok))))

pub reads_text : (x : Float) (text : List ℕ) → T (fits binary64 x) → IsTextOf x text → parse_float binary64 text ≡ Some x
unfolding IsTextOf parse_float_on_literals
reads_text nan text ok is = ap (parse_float binary64) is ∙ refl
reads_text (inf true) text ok is = ap (parse_float binary64) is ∙ refl
reads_text (inf false) text ok is = ap (parse_float binary64) is ∙ refl
reads_text (fin s zero e) text ok is = ap (parse_float binary64) is ∙ zero_reads s e ok
reads_text (fin s (suc m) e) text ok is =
    ap (parse_float binary64) is.5 ∙ reads_significant is.0 is.1 is.2 is.3 s m e is.4 ∙ ap (λ (x : Float). Some x) is.4

-- the text of a double is parsed as this double
pub reads_back : (bits : ℕ) (text : List ℕ) → bits < 2 ^ 64 → IsDoubleText bits text → parse_float binary64 text ≡ Some (of_bits binary64 bits)
reads_back bits text inside is = reads_text (of_bits binary64 bits) text (of_bits-fits binary64 bits) is
