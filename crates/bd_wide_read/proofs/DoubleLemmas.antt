-- The text of a double is read as the double.
use Rattle.std.proofs.Common.{◌≡◌, ◌<◌, ◌≤◌, ℕ, zero, suc, ◌+◌, ◌-◌, ◌*◌, ◌/◌, ◌%◌, ◌^◌, ◌==◌, Bool, true, false, cond, List, [], ◌∷◌, ◌++◌, length, take, drop, refl, sym, ap, ◌∙◌, subst, inl, inr, arith, codes, pos, negsuc, ne_eqb, Option, Some, None, Ok, append-nil, append_assoc, length-append, length-drop, ℤ}
use Rattle.std.proofs.lemmas.Bool.{cases_lt}
use Rattle.std.proofs.lemmas.Str.Parse.{digit_from_value}
use borrow.Author.Tests.{lt-ltb, le-ltb}
use Rattle.std.specs.Fmt.{decimal, digits, digits_onto, digit_glyph, sign_text}
use Rattle.std.specs.Str.Parse.{AllDigits}
use Rattle.std.specs.Option.{option_and_then}
use Rattle.std.specs.Float.{binary64, float_is_finite, NotNan}
use Rattle.std.specs.Float.Parse.{parse_float}
use lib.Ieee.{Float, nan, inf, fin, of_bits, to_bits}
use lib.Ieee.Bits.{to_bits-of_bits}
use Rattle.fast_float.proofs.DigitsLemmas.{is_digit}
use Rattle.fast_float.proofs.Rows.{AllDigits-take, AllDigits-drop, AllDigits-append}
use Rattle.bd_wide_text.specs.Layout.{mantissa, zeros}
use Rattle.bd_wide_text.specs.Double.{AreSignificant, IsTextOf, IsDoubleText, laid_out, padded}
use Rattle.bd_wide_text.proofs.ReadBackLemmas.{reads_back}
use Rattle.bd_wide_read.specs.JsonNumber.{after_digits, after_exponent, after_fraction, after_int, is_end, is_number, skip_digits}
use Rattle.bd_wide_read.specs.DoubleText.{double_bits, finite_bits, number_bits}

-- ---- the parts of a number

skip_run : (ds rest : List ℕ) → AllDigits 10 ds → skip_digits (ds ++ rest) ≡ skip_digits rest
skip_run [] rest h = refl
skip_run (d ∷ ds) rest h = let r = digit_from_value d h.0 in rw ((is_digit d r.0 r.1).0) (skip_run ds rest h.1)

run_ends : (ds : List ℕ) → AllDigits 10 ds → skip_digits ds ≡ []
run_ends ds h = ap skip_digits (sym (append-nil ds)) ∙ skip_run ds [] h

digits_after : (ds rest : List ℕ) → AllDigits 10 ds → 0 < length ds → skip_digits rest ≡ rest → after_digits (ds ++ rest) ≡ Some rest
digits_after [] rest h some stop = absurd (omega arith)
digits_after (d ∷ ds) rest h some stop =
    let r = digit_from_value d h.0 in
    rw ((is_digit d r.0 r.1).0) (ap (λ (t : List ℕ). Some t) (skip_run ds rest h.1 ∙ stop))

digits_end : (ds : List ℕ) → AllDigits 10 ds → 0 < length ds → after_digits ds ≡ Some []
digits_end ds h some = ap after_digits (sym (append-nil ds)) ∙ digits_after ds [] h some refl

int_after : (d : ℕ) (ds rest : List ℕ) → AllDigits 10 (d ∷ ds) → 48 < d → skip_digits rest ≡ rest → after_int ((d ∷ ds) ++ rest) ≡ Some rest
int_after d ds rest h first stop =
    let r = digit_from_value d h.0 in
    rw (ne_eqb d 48 (λ e. omega arith), (is_digit d r.0 r.1).0) (ap (λ (t : List ℕ). Some t) (skip_run ds rest h.1 ∙ stop))

-- the byte of a sign
abbrev sign_byte : Bool → ℕ
sign_byte true = 45
sign_byte false = 43

exponent_after : (negative : Bool) (ds : List ℕ) → AllDigits 10 ds → 0 < length ds → after_exponent (69 ∷ sign_byte negative ∷ ds) ≡ Some []
exponent_after true ds h some = digits_end ds h some
exponent_after false ds h some = digits_end ds h some

number_is : (s : Bool) (d : ℕ) (t u v : List ℕ) → 48 ≤ d → after_int (d ∷ t) ≡ Some u → after_fraction u ≡ Some v → after_exponent v ≡ Some [] → is_number (sign_text s ++ (d ∷ t)) ≡ true
number_is true d t u v low a b e =
    ap (λ (o : Option (List ℕ)). is_end (option_and_then after_exponent (option_and_then after_fraction o))) a ∙ ap (λ (o : Option (List ℕ)). is_end (option_and_then after_exponent o)) b ∙ ap is_end e
number_is false d t u v low a b e =
    let first : (d == 45) ≡ false = ne_eqb d 45 (λ e. omega arith) in
    rw first (ap (λ (o : Option (List ℕ)). is_end (option_and_then after_exponent (option_and_then after_fraction o))) a ∙ ap (λ (o : Option (List ℕ)). is_end (option_and_then after_exponent o)) b ∙ ap is_end e)

-- a text that begins with a digit is no word
no_word : (s : Bool) (d : ℕ) (t : List ℕ) → 48 ≤ d → d ≤ 57 → double_bits (sign_text s ++ (d ∷ t)) ≡ number_bits (sign_text s ++ (d ∷ t))
no_word true d t low high = rw (ne_eqb d 73 (λ e. omega arith))
no_word false d t low high = rw (ne_eqb d 78 (λ e. omega arith), ne_eqb d 73 (λ e. omega arith), ne_eqb d 45 (λ e. omega arith))

-- ---- the digits of an exponent

glyph_is : (n : ℕ) → AllDigits 10 (digit_glyph false (n % 10) ∷ [])
glyph_is n =
    let low : n % 10 < 10 = omega arith in
    rw (lt-ltb (n % 10) 10 low) (omega (arith, (is_digit (48 + n % 10) (omega arith) (omega arith)).1), tt)

onto_all : (k n : ℕ) (acc : List ℕ) → AllDigits 10 acc → AllDigits 10 (digits_onto k 10 false n acc)
onto_all zero n acc h = h
onto_all (suc k) n acc h =
    let more = digit_glyph false (n % 10) ∷ acc in
    let all : AllDigits 10 more = ((glyph_is n).0, h) in
    let rest = onto_all k (n / 10) more all in
    elim (n / 10 == 0) as (λ t. AllDigits 10 (cond t more (digits_onto k 10 false (n / 10) more))) [ true ↦ all | false ↦ rest ]

onto_some : (k n : ℕ) (acc : List ℕ) → 0 < length acc → 0 < length (digits_onto k 10 false n acc)
onto_some zero n acc h = h
onto_some (suc k) n acc h =
    let more = digit_glyph false (n % 10) ∷ acc in
    let rest = onto_some k (n / 10) more (omega arith) in
    elim (n / 10 == 0) as (λ t. 0 < length (cond t more (digits_onto k 10 false (n / 10) more))) [ true ↦ omega arith | false ↦ rest ]

decimal_all : (n : ℕ) → AllDigits 10 (decimal n)
unfolding digits
decimal_all n = onto_all 64 n [] tt

decimal_some : (n : ℕ) → 0 < length (decimal n)
unfolding digits
decimal_some n =
    let more = digit_glyph false (n % 10) ∷ [] in
    elim (n / 10 == 0) as (λ t. 0 < length (cond t more (digits_onto 63 10 false (n / 10) more))) [ true ↦ omega arith | false ↦ onto_some 63 (n / 10) more (omega arith) ]

padded_is : (ds : List ℕ) → AllDigits 10 ds → 0 < length ds → AllDigits 10 (padded ds) × (0 < length (padded ds))
padded_is ds all some =
    elim (length ds == 1) as (λ t. AllDigits 10 (cond t (48 ∷ ds) ds) × (0 < length (cond t (48 ∷ ds) ds))) [ true ↦ ((omega arith, all), omega arith) | false ↦ (all, some) ]

pub AllDigits-zeros : (n : ℕ) → AllDigits 10 (zeros n)
AllDigits-zeros zero = tt
AllDigits-zeros (suc n) = (omega arith, AllDigits-zeros n)

-- ---- the layouts

scientific_is : (s negative : Bool) (d : ℕ) (ds : List ℕ) (e : ℕ) → AllDigits 10 (d ∷ ds) → 48 < d → is_number (sign_text s ++ (mantissa (d ∷ ds) ++ (69 ∷ sign_byte negative ∷ padded (decimal e)))) ≡ true
scientific_is s negative d [] e all first =
    let p = padded_is (decimal e) (decimal_all e) (decimal_some e) in
    let x = 69 ∷ sign_byte negative ∷ padded (decimal e) in
    number_is s d x x x (omega arith) (int_after d [] x all first refl) refl (exponent_after negative _ p.0 p.1)
scientific_is s negative d (f ∷ fs) e all first =
    let p = padded_is (decimal e) (decimal_all e) (decimal_some e) in
    let x = 69 ∷ sign_byte negative ∷ padded (decimal e) in
    let some : 1 < length (d ∷ f ∷ fs) = omega arith in
    let one : AllDigits 10 (d ∷ []) = (all.0, tt) in
    rw (lt-ltb 1 (length (d ∷ f ∷ fs)) some)
    (number_is s d (46 ∷ ((f ∷ fs) ++ x)) (46 ∷ ((f ∷ fs) ++ x)) x (omega arith) (int_after d [] (46 ∷ ((f ∷ fs) ++ x)) one first refl) (digits_after (f ∷ fs) x all.1 (omega arith) refl)
    (exponent_after negative _ p.0 p.1))

point_is : (s : Bool) (d : ℕ) (ds fraction : List ℕ) → AllDigits 10 (d ∷ ds) → 48 < d → AllDigits 10 fraction → 0 < length fraction → is_number (sign_text s ++ ((d ∷ ds) ++ (46 ∷ fraction))) ≡ true
point_is s d ds fraction all first f some =
    number_is s d (ds ++ (46 ∷ fraction)) (46 ∷ fraction) [] (omega arith) (int_after d ds (46 ∷ fraction) all first refl) (digits_end fraction f some) refl

laid_out_is : (s : Bool) (d : ℕ) (ds : List ℕ) (power : ℤ) → AllDigits 10 (d ∷ ds) → 48 < d → is_number (sign_text s ++ laid_out (d ∷ ds) power) ≡ true
unfolding laid_out
laid_out_is s d ds (pos e) all first = elim (cases_lt 5 e) [
  | inl far ↦ rw (lt-ltb 5 e far) (scientific_is s false d ds e all first)
  | inr near ↦ elim (cases_lt (e + 1) (length (d ∷ ds))) [
    | inl more ↦
        let rest : length (drop (e + 1) (d ∷ ds)) ≡ length (d ∷ ds) - (e + 1) = length-drop (e + 1) (d ∷ ds) in
        let one : e + 1 ≡ suc e = omega arith in
        rw (le-ltb 5 e near, lt-ltb (e + 1) (length (d ∷ ds)) more)
        (rw one (point_is s d (take e ds) (drop (suc e) (d ∷ ds)) (AllDigits-take (suc e) (d ∷ ds) all) first (AllDigits-drop (suc e) (d ∷ ds) all) (omega (arith, length-drop (suc e) (d ∷ ds)))))
    | inr less ↦
        let z = e + 1 - length (d ∷ ds) in
        let join : (d ∷ ds) ++ (zeros z ++ (46 ∷ 48 ∷ [])) ≡ (d ∷ (ds ++ zeros z)) ++ (46 ∷ 48 ∷ []) = sym (append_assoc (d ∷ ds) (zeros z) (46 ∷ 48 ∷ [])) in
        rw (le-ltb 5 e near, le-ltb (e + 1) (length (d ∷ ds)) less)
        (ap (λ (t : List ℕ). is_number (sign_text s ++ t)) join ∙ point_is s d (ds ++ zeros z) (48 ∷ []) (AllDigits-append (d ∷ ds) (zeros z) all (AllDigits-zeros z)) first (omega arith, tt) (omega arith))
  ]
]
laid_out_is s d ds (negsuc k) all first = elim (cases_lt 3 k) [
  | inl far ↦ rw (lt-ltb 3 k far) (scientific_is s true d ds (k + 1) all first)
  | inr near ↦
      let f = zeros k ++ (d ∷ ds) in
      let long : length f ≡ length (zeros k) + length (d ∷ ds) = length-append (zeros k) (d ∷ ds) in
      rw (le-ltb 3 k near)
      (number_is s 48 (46 ∷ f) (46 ∷ f) [] (omega arith) refl (digits_end f (AllDigits-append (zeros k) (d ∷ ds) (AllDigits-zeros k) all) (omega arith)) refl)
]

-- the first byte after the sign is a digit
laid_out_first : (s : Bool) (d : ℕ) (ds : List ℕ) (power : ℤ) → AllDigits 10 (d ∷ ds) → 48 < d → double_bits (sign_text s ++ laid_out (d ∷ ds) power) ≡ number_bits (sign_text s ++ laid_out (d ∷ ds) power)
unfolding laid_out
laid_out_first s d ds (pos e) all first =
    let r = digit_from_value d all.0 in
    elim (cases_lt 5 e) [
      | inl far ↦ rw (lt-ltb 5 e far) (no_word s d _ (omega arith) r.1)
      | inr near ↦ elim (cases_lt (e + 1) (length (d ∷ ds))) [
        | inl more ↦ let one : e + 1 ≡ suc e = omega arith in rw (le-ltb 5 e near, lt-ltb (e + 1) (length (d ∷ ds)) more) (rw one (no_word s d _ (omega arith) r.1))
        | inr less ↦ rw (le-ltb 5 e near, le-ltb (e + 1) (length (d ∷ ds)) less) (no_word s d _ (omega arith) r.1)
      ]
    ]
laid_out_first s d ds (negsuc k) all first =
    let r = digit_from_value d all.0 in
    elim (cases_lt 3 k) [
      | inl far ↦ rw (lt-ltb 3 k far) (no_word s d _ (omega arith) r.1)
      | inr near ↦ rw (le-ltb 3 k near) (no_word s 48 _ (omega arith) (omega arith))
    ]

-- ---- all doubles

number_read : (text : List ℕ) (s : Bool) (m : ℕ) (e : ℤ) → is_number text ≡ true → parse_float binary64 text ≡ Some (fin s m e) → number_bits text ≡ Ok (to_bits binary64 (fin s m e))
unfolding float_is_finite
number_read text s m e is reads = ap (λ b. cond b (finite_bits (parse_float binary64 text)) (finite_bits None)) is ∙ ap finite_bits reads

significant_read : (s : Bool) (digits : List ℕ) (power : ℤ) (t : Bool) (m : ℕ) (e : ℤ) → AreSignificant digits → parse_float binary64 (sign_text s ++ laid_out digits power) ≡ Some (fin t m e)
    → double_bits (sign_text s ++ laid_out digits power) ≡ Ok (to_bits binary64 (fin t m e))
significant_read s [] power t m e sig reads = absurd (omega (arith, sig.first))
significant_read s (d ∷ ds) power t m e sig reads = laid_out_first s d ds power sig.all sig.first ∙ number_read _ t m e (laid_out_is s d ds power sig.all sig.first) reads

zero_read : (s : Bool) (e : ℤ) → parse_float binary64 (sign_text s ++ codes "0.0") ≡ Some (fin s 0 e) → double_bits (sign_text s ++ codes "0.0") ≡ Ok (to_bits binary64 (fin s 0 e))
zero_read true e reads = number_read (codes "-0.0") true 0 e refl reads
zero_read false e reads = number_read (codes "0.0") false 0 e refl reads

text_read : (x : Float) (text : List ℕ) → IsTextOf x text → parse_float binary64 text ≡ Some x → double_bits text ≡ Ok (to_bits binary64 x)
unfolding IsTextOf to_bits
text_read nan text is reads = ap double_bits is
text_read (inf true) text is reads = ap double_bits is
text_read (inf false) text is reads = ap double_bits is
text_read (fin s zero e) text is reads = ap double_bits is ∙ zero_read s e (ap (parse_float binary64) (sym is) ∙ reads)
text_read (fin s (suc m) e) text is reads = ap double_bits is.5 ∙ significant_read is.0 is.1 is.2 s (suc m) e is.3 (ap (parse_float binary64) (sym is.5) ∙ reads)

double_read : (bits : ℕ) (text : List ℕ) → bits < 2 ^ 64 → IsDoubleText bits text → double_bits text ≡ Ok (to_bits binary64 (of_bits binary64 bits))
double_read bits text fits is = text_read (of_bits binary64 bits) text is (reads_back bits text fits is)

pub same_read : (bits : ℕ) (text : List ℕ) → bits < 2 ^ 64 → NotNan (of_bits binary64 bits) → IsDoubleText bits text → double_bits text ≡ Ok bits
same_read bits text fits number is =
    let inside : bits < 2 * 2 ^ 63 = omega arith in
    double_read bits text fits is ∙ ap (λ (n : ℕ). Ok n) (to_bits-of_bits binary64 bits inside number)

pub nan_read : (bits : ℕ) (text : List ℕ) → of_bits binary64 bits ≡ nan → IsDoubleText bits text → double_bits text ≡ Ok 0x7FF8_0000_0000_0000
unfolding IsTextOf
nan_read bits text none is = ap double_bits (subst (λ (x : Float). IsTextOf x text) none is)
