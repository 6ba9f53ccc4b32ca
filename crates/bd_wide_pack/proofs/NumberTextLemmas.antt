-- The texts of doubles and decimal128 are read as these, whatever comes after them.
use Rattle.std.proofs.Common.{◌≡◌, ℕ, zero, suc, ℤ, pos, negsuc, ◌+◌, ◌-◌, Bool, true, false, cond, ◌==◌, ◌||◌, nat_eq, decimal, List, [], ◌∷◌, ◌++◌, length, take, drop, refl, sym, ap, ◌∙◌, subst, inl, inr, arith, codes, append_assoc, append-nil, length-append, take_at, Option, Some, None, option_and_then, Ok, Err, Result}
use Rattle.std.specs.{List.list_any, Char.is_ascii_digit, Cmp.Lexicographic.pointwise, Cmp.Lexicographic.bytes_decides, Fmt.sign_text, Prelude.nat_lt}
use Rattle.std.specs.Float.{binary64, float_is_finite}
use lib.Ieee.{Float, nan, inf, fin, of_bits}
use Rattle.std.proofs.lemmas.Bool.{eqb-true, or_parts}
use Rattle.bd_wide_number.specs.declared.number.Number.TheVariants.{Double, Decimal128}
use Rattle.bd_wide_text.specs.Double.{IsDoubleText, IsTextOf, laid_out, padded, plain}
use Rattle.bd_wide_text.specs.Layout.{mantissa, zeros}
use Rattle.bd_wide_read.specs.DecimalText as decimals
use Rattle.bd_wide_read.specs.DecimalText.{numeric_of}
use Rattle.bd_wide_read.specs.DoubleText.{double_bits, number_bits}
use Rattle.bd_wide_read.specs.JsonNumber.{after_digits, after_exponent, after_fraction, after_int, is_end, is_number, skip_digits, without_minus, without_sign}
use Rattle.bd_wide_read.specs.declared.fault.TextFault.{TextFault}
use Rattle.bd_wide_read.specs.declared.fault.TextFault.TheVariants.{BadText}
use Rattle.bd_wide_substitute.specs.Substitutes.{after, before_brace, double_meaning, is_no_quote, is_of_number, quoted, quoted_before, wrapper_at}
use Rattle.bd_wide_pack.specs.inside.Printed.{IsTextOfNumber}
use Rattle.bd_wide_pack.proofs.ChunkLemmas.{of_decimal128, of_double}

-- ---- the contents of a wrapper

after_then : (test : ℕ → Bool) (xs rest : List ℕ) → after test xs ≡ [] → after test (xs ++ rest) ≡ after test rest
after_then test [] rest e = refl
after_then test (c ∷ cs) rest e =
    elim (test c) as (λ b. cond b (after test cs) (c ∷ cs) ≡ [] → cond b (after test (cs ++ rest)) (c ∷ (cs ++ rest)) ≡ after test rest) [
      | true ↦ λ h. after_then test cs rest h
      | false ↦ λ h. absurd cc
    ] e

-- No byte is a quote.
abbrev pub IsUnquoted : List ℕ → Type 0
IsUnquoted xs = list_any (λ c. c == 34) xs ≡ false

no_quotes : (xs : List ℕ) → IsUnquoted xs → after is_no_quote xs ≡ []
no_quotes [] h = refl
no_quotes (c ∷ cs) h =
    let p = or_parts (c == 34) (list_any (λ d. d == 34) cs) h in
    rw p.0 (no_quotes cs p.1)

pub contents_read : (contents rest : List ℕ) → IsUnquoted contents → quoted ((contents ++ 34 ∷ 125 ∷ []) ++ rest) ≡ Some (contents, 125 ∷ rest)
contents_read contents rest h =
    let end : List ℕ = 34 ∷ 125 ∷ rest in
    let shape : (contents ++ 34 ∷ 125 ∷ []) ++ rest ≡ contents ++ end = append_assoc contents (34 ∷ 125 ∷ []) rest in
    let stop : after is_no_quote (contents ++ end) ≡ end = after_then is_no_quote contents end (no_quotes contents h) in
    let size : length contents ≡ length (contents ++ end) - length end = omega (arith, length-append contents end) in
    ap quoted shape ∙ ap (quoted_before (contents ++ end)) stop ∙ ap (λ (x : List ℕ). Some (x, 125 ∷ rest)) (take_at contents end (length (contents ++ end) - length end) size)

double_wrapper : (contents rest : List ℕ) → IsUnquoted contents → wrapper_at ((codes "{\"$numberDouble\":\"" ++ (contents ++ codes "\"}")) ++ rest) ≡ Some (of_double.0, Some (contents, rest))
double_wrapper contents rest h = ap (λ o. Some (of_double.0, option_and_then before_brace o)) (contents_read contents rest h)

decimal_wrapper : (contents rest : List ℕ) → IsUnquoted contents → wrapper_at ((codes "{\"$numberDecimal\":\"" ++ (contents ++ codes "\"}")) ++ rest) ≡ Some (of_decimal128.0, Some (contents, rest))
decimal_wrapper contents rest h = ap (λ o. Some (of_decimal128.0, option_and_then before_brace o)) (contents_read contents rest h)

-- ---- bytes of numbers

-- Bytes of numbers come first, and then this.
abbrev IsRunTo : List ℕ → List ℕ → Type 0
IsRunTo xs ys = (p : List ℕ) × (xs ≡ p ++ ys) × (after is_of_number p ≡ [])

no_run : (xs : List ℕ) → IsRunTo xs xs
no_run xs = ([], refl, refl)

one_run : (c : ℕ) (cs : List ℕ) → is_of_number c ≡ true → IsRunTo (c ∷ cs) cs
one_run c cs h = (c ∷ [], refl, rw h refl)

run_on : (xs ys zs : List ℕ) → IsRunTo xs ys → IsRunTo ys zs → IsRunTo xs zs
run_on xs ys zs h k = (h.0 ++ k.0, h.1 ∙ ap (λ (t : List ℕ). h.0 ++ t) k.1 ∙ sym (append_assoc h.0 k.0 zs), after_then is_of_number h.0 k.0 h.2 ∙ k.2)

digit_is : (c : ℕ) → is_ascii_digit c ≡ true → is_of_number c ≡ true
digit_is c h = rw h refl

byte_is : (c d : ℕ) → is_of_number d ≡ true → (c == d) ≡ true → is_of_number c ≡ true
byte_is c d known e = ap is_of_number (eqb-true c d e) ∙ known

minus_run : (cs : List ℕ) → IsRunTo cs (without_minus cs)
minus_run [] = no_run []
minus_run (c ∷ cs) =
    elim (c == 45) as (λ b. (c == 45) ≡ b → IsRunTo (c ∷ cs) (cond b cs (c ∷ cs))) [
      | true ↦ λ e. one_run c cs (byte_is c 45 refl e)
      | false ↦ λ e. no_run (c ∷ cs)
    ] refl

sign_run : (cs : List ℕ) → IsRunTo cs (without_sign cs)
sign_run [] = no_run []
sign_run (c ∷ cs) =
    elim (c == 45) as (λ b. (c == 45) ≡ b → IsRunTo (c ∷ cs) (cond (b || c == 43) cs (c ∷ cs))) [
      | true ↦ λ e. one_run c cs (byte_is c 45 refl e)
      | false ↦ λ e. elim (c == 43) as (λ b. (c == 43) ≡ b → IsRunTo (c ∷ cs) (cond b cs (c ∷ cs))) [
        | true ↦ λ f. one_run c cs (byte_is c 43 refl f)
        | false ↦ λ f. no_run (c ∷ cs)
      ] refl
    ] refl

skip_run : (cs : List ℕ) → IsRunTo cs (skip_digits cs)
skip_run [] = no_run []
skip_run (c ∷ cs) =
    elim (is_ascii_digit c) as (λ b. is_ascii_digit c ≡ b → IsRunTo (c ∷ cs) (cond b (skip_digits cs) (c ∷ cs))) [
      | true ↦ λ e. run_on (c ∷ cs) cs (skip_digits cs) (one_run c cs (digit_is c e)) (skip_run cs)
      | false ↦ λ e. no_run (c ∷ cs)
    ] refl

is_some : (a b : List ℕ) → Some a ≡ Some b → a ≡ b
is_some a b e = cc

run_as : (xs ys zs : List ℕ) → IsRunTo xs ys → Some ys ≡ Some zs → IsRunTo xs zs
run_as xs ys zs h e = subst (λ (t : List ℕ). IsRunTo xs t) (is_some ys zs e) h

digits_run : (cs ys : List ℕ) → after_digits cs ≡ Some ys → IsRunTo cs ys
digits_run [] ys h = absurd cc
digits_run (c ∷ cs) ys h =
    elim (is_ascii_digit c) as (λ b. is_ascii_digit c ≡ b → cond b (Some (skip_digits cs)) None ≡ Some ys → IsRunTo (c ∷ cs) ys) [
      | true ↦ λ e k. run_as (c ∷ cs) (skip_digits cs) ys (run_on (c ∷ cs) cs (skip_digits cs) (one_run c cs (digit_is c e)) (skip_run cs)) k
      | false ↦ λ e k. absurd cc
    ] refl h

int_run : (cs ys : List ℕ) → after_int cs ≡ Some ys → IsRunTo cs ys
int_run [] ys h = absurd cc
int_run (c ∷ cs) ys h =
    elim (c == 48) as (λ b. (c == 48) ≡ b → cond b (Some cs) (after_digits (c ∷ cs)) ≡ Some ys → IsRunTo (c ∷ cs) ys) [
      | true ↦ λ e k. run_as (c ∷ cs) cs ys (one_run c cs (byte_is c 48 refl e)) k
      | false ↦ λ e k. digits_run (c ∷ cs) ys k
    ] refl h

fraction_run : (cs ys : List ℕ) → after_fraction cs ≡ Some ys → IsRunTo cs ys
fraction_run [] ys h = run_as [] [] ys (no_run []) h
fraction_run (c ∷ cs) ys h =
    elim (c == 46) as (λ b. (c == 46) ≡ b → cond b (after_digits cs) (Some (c ∷ cs)) ≡ Some ys → IsRunTo (c ∷ cs) ys) [
      | true ↦ λ e k. run_on (c ∷ cs) cs ys (one_run c cs (byte_is c 46 refl e)) (digits_run cs ys k)
      | false ↦ λ e k. run_as (c ∷ cs) (c ∷ cs) ys (no_run (c ∷ cs)) k
    ] refl h

power_run : (c : ℕ) (cs ys : List ℕ) → is_of_number c ≡ true → after_digits (without_sign cs) ≡ Some ys → IsRunTo (c ∷ cs) ys
power_run c cs ys h k = run_on (c ∷ cs) cs ys (one_run c cs h) (run_on cs (without_sign cs) ys (sign_run cs) (digits_run (without_sign cs) ys k))

exponent_run : (cs ys : List ℕ) → after_exponent cs ≡ Some ys → IsRunTo cs ys
exponent_run [] ys h = run_as [] [] ys (no_run []) h
exponent_run (c ∷ cs) ys h =
    elim (c == 101) as (λ b. (c == 101) ≡ b → cond (b || c == 69) (after_digits (without_sign cs)) (Some (c ∷ cs)) ≡ Some ys → IsRunTo (c ∷ cs) ys) [
      | true ↦ λ e k. power_run c cs ys (byte_is c 101 refl e) k
      | false ↦ λ e k. elim (c == 69) as (λ b. (c == 69) ≡ b → cond b (after_digits (without_sign cs)) (Some (c ∷ cs)) ≡ Some ys → IsRunTo (c ∷ cs) ys) [
        | true ↦ λ f g. power_run c cs ys (byte_is c 69 refl f) g
        | false ↦ λ f g. run_as (c ∷ cs) (c ∷ cs) ys (no_run (c ∷ cs)) g
      ] refl k
    ] refl h

-- a number of JSON is bytes of numbers
number_run : (cs : List ℕ) → is_number cs ≡ true → after is_of_number cs ≡ []
number_run cs h = ints (after_int (without_minus cs)) refl h
  where
    all : (v : List ℕ) → IsRunTo cs v → (o : Option (List ℕ)) → after_exponent v ≡ o → is_end o ≡ true → after is_of_number cs ≡ []
    all v r None e k = absurd cc
    all v r (Some (d ∷ ds)) e k = absurd cc
    all v r (Some []) e k = let whole = run_on cs v [] r (exponent_run v [] e) in ap (after is_of_number) (whole.1 ∙ append-nil whole.0) ∙ whole.2

    fractions : (u : List ℕ) → IsRunTo cs u → (o : Option (List ℕ)) → after_fraction u ≡ o → is_end (option_and_then after_exponent o) ≡ true → after is_of_number cs ≡ []
    fractions u r None e k = absurd cc
    fractions u r (Some v) e k = all v (run_on cs u v r (fraction_run u v e)) (after_exponent v) refl k

    ints : (o : Option (List ℕ)) → after_int (without_minus cs) ≡ o → is_end (option_and_then after_exponent (option_and_then after_fraction o)) ≡ true → after is_of_number cs ≡ []
    ints None e k = absurd cc
    ints (Some u) e k = fractions u (run_on cs (without_minus cs) u (minus_run cs) (int_run (without_minus cs) u e)) (after_fraction u) refl k

run_unquoted : (cs : List ℕ) → after is_of_number cs ≡ [] → IsUnquoted cs
run_unquoted [] h = refl
run_unquoted (c ∷ cs) h =
    elim (c == 34) as (λ b. (c == 34) ≡ b → (b || list_any (λ d. d == 34) cs) ≡ false) [
      | true ↦ λ e. let k : after is_of_number (34 ∷ cs) ≡ [] = subst (λ (n : ℕ). after is_of_number (n ∷ cs) ≡ []) (eqb-true c 34 e) h in absurd cc
      | false ↦ λ e. elim (is_of_number c) as (λ b. cond b (after is_of_number cs) (c ∷ cs) ≡ [] → list_any (λ d. d == 34) cs ≡ false) [
        | true ↦ λ k. run_unquoted cs k
        | false ↦ λ k. absurd cc
      ] h
    ] refl

pub is_number_of : (bytes : List ℕ) (bits : ℕ) → number_bits bytes ≡ Ok bits → is_number bytes ≡ true
is_number_of bytes bits h =
    elim (is_number bytes) as (λ b. is_number bytes ≡ b → b ≡ true) [
      | true ↦ λ e. refl
      | false ↦ λ e. absurd (let c : number_bits bytes ≡ Err BadText = rw e in let d : Err BadText ≡ Ok bits = sym c ∙ h in cc)
    ] refl

-- ---- the contents of the wrapper of a double

unquoted_or : (text word : List ℕ) (bits : ℕ) (other : Result ℕ TextFault) (here : Result ℕ TextFault) → IsUnquoted word → (other ≡ Ok bits → IsUnquoted text)
    → (cond (pointwise nat_eq text word) here other) ≡ Ok bits → IsUnquoted text
unquoted_or text word bits other here known next h =
    elim (pointwise nat_eq text word) as (λ b. pointwise nat_eq text word ≡ b → cond b here other ≡ Ok bits → IsUnquoted text) [
      | true ↦ λ e k. subst IsUnquoted (sym ((bytes_decides text word).0 e)) known
      | false ↦ λ e k. next k
    ] refl h

double_unquoted : (text : List ℕ) (bits : ℕ) → double_bits text ≡ Ok bits → IsUnquoted text
double_unquoted text bits =
    let third : Result ℕ TextFault = cond (pointwise nat_eq text (codes "-Infinity")) (Ok 0xFFF0_0000_0000_0000) (number_bits text) in
    let second : Result ℕ TextFault = cond (pointwise nat_eq text (codes "Infinity")) (Ok 0x7FF0_0000_0000_0000) third in
    unquoted_or text (codes "NaN") bits second (Ok 0x7FF8_0000_0000_0000) refl
    (unquoted_or text (codes "Infinity") bits third (Ok 0x7FF0_0000_0000_0000) refl
    (unquoted_or text (codes "-Infinity") bits (number_bits text) (Ok 0xFFF0_0000_0000_0000) refl
    (λ h. run_unquoted text (number_run text (is_number_of text bits h)))))

-- ---- a double without a wrapper

-- a byte that makes a number a double
abbrev is_point : ℕ → Bool
is_point c = c == 46 || c == 69 || c == 101

-- Such a byte is among them.
abbrev HasPoint : List ℕ → Type 0
HasPoint bytes = list_any is_point bytes ≡ true

point_after : (xs ys : List ℕ) → HasPoint ys → HasPoint (xs ++ ys)
point_after [] ys h = h
point_after (x ∷ xs) ys h = elim (is_point x) as (λ b. (b || list_any is_point (xs ++ ys)) ≡ true) [ true ↦ refl | false ↦ point_after xs ys h ]

plain_point : (ds : List ℕ) (n : ℕ) → HasPoint (plain ds n)
plain_point ds n = elim (nat_lt n (length ds)) as (λ b. HasPoint (cond b (take n ds ++ 46 ∷ drop n ds) (ds ++ (zeros (n - length ds) ++ 46 ∷ 48 ∷ [])))) [
  | true ↦ point_after (take n ds) (46 ∷ drop n ds) refl
  | false ↦ point_after ds (zeros (n - length ds) ++ 46 ∷ 48 ∷ []) (point_after (zeros (n - length ds)) (46 ∷ 48 ∷ []) refl)
]

laid_out_point : (ds : List ℕ) (power : ℤ) → HasPoint (laid_out ds power)
unfolding laid_out
laid_out_point ds (pos e) = elim (nat_lt 5 e) as (λ b. HasPoint (cond b (mantissa ds ++ 69 ∷ 43 ∷ padded (decimal e)) (plain ds (e + 1)))) [
  | true ↦ point_after (mantissa ds) (69 ∷ 43 ∷ padded (decimal e)) refl
  | false ↦ plain_point ds (e + 1)
]
laid_out_point ds (negsuc k) = elim (nat_lt 3 k) as (λ b. HasPoint (cond b (mantissa ds ++ 69 ∷ 45 ∷ padded (decimal (k + 1))) (48 ∷ 46 ∷ (zeros k ++ ds)))) [
  | true ↦ point_after (mantissa ds) (69 ∷ 45 ∷ padded (decimal (k + 1))) refl
  | false ↦ refl
]

text_point : (x : Float) (text : List ℕ) → float_is_finite x ≡ true → IsTextOf x text → HasPoint text
unfolding IsTextOf float_is_finite
text_point nan text finite is = absurd cc
text_point (inf s) text finite is = absurd cc
text_point (fin s zero e) text finite is = subst HasPoint (sym is) (point_after (sign_text s) (codes "0.0") refl)
text_point (fin s (suc m) e) text finite is = subst HasPoint (sym is.5) (point_after (sign_text is.0) (laid_out is.1 is.2) (laid_out_point is.1 is.2))

number_or : (text word : List ℕ) (bits : ℕ) (here other : Result ℕ TextFault) → HasPoint text → list_any is_point word ≡ false → cond (pointwise nat_eq text word) here other ≡ Ok bits → other ≡ Ok bits
number_or text word bits here other point none h =
    elim (pointwise nat_eq text word) as (λ b. pointwise nat_eq text word ≡ b → cond b here other ≡ Ok bits → other ≡ Ok bits) [
      | true ↦ λ e k. let f : true ≡ false = sym point ∙ ap (list_any is_point) ((bytes_decides text word).0 e) ∙ none in absurd cc
      | false ↦ λ e k. k
    ] refl h

-- a text with such a byte is no word
number_of_double : (text : List ℕ) (bits : ℕ) → HasPoint text → double_bits text ≡ Ok bits → number_bits text ≡ Ok bits
number_of_double text bits point h =
    let third : Result ℕ TextFault = cond (pointwise nat_eq text (codes "-Infinity")) (Ok 0xFFF0_0000_0000_0000) (number_bits text) in
    let second : Result ℕ TextFault = cond (pointwise nat_eq text (codes "Infinity")) (Ok 0x7FF0_0000_0000_0000) third in
    number_or text (codes "-Infinity") bits (Ok 0xFFF0_0000_0000_0000) (number_bits text) point refl
    (number_or text (codes "Infinity") bits (Ok 0x7FF0_0000_0000_0000) third point refl
    (number_or text (codes "NaN") bits (Ok 0x7FF8_0000_0000_0000) second point refl h))

-- ---- the texts

-- the text of a finite double, without a wrapper
pub bare_printed : (bits : ℕ) (text : List ℕ) → float_is_finite (of_bits binary64 bits) ≡ true → IsDoubleText bits text → double_bits text ≡ Ok bits → IsTextOfNumber text (Double bits)
bare_printed bits text finite is h rest end =
    let point = text_point (of_bits binary64 bits) text finite is in
    let read = number_of_double text bits point h in
    inr ((bits, refl, (point, read)), (number_run text (is_number_of text bits read), end))

-- whatever text is read as a double, in its wrapper
pub double_printed : (bits : ℕ) (contents : List ℕ) → double_bits contents ≡ Ok bits → IsTextOfNumber (codes "{\"$numberDouble\":\"" ++ (contents ++ codes "\"}")) (Double bits)
double_printed bits contents h rest end = inl (of_double.0, contents, double_wrapper contents rest (double_unquoted contents bits h), sym (ap double_meaning h))

-- whatever text is read as a decimal128, in its wrapper
pub decimal_printed : (low high : ℕ) (contents : List ℕ) → IsUnquoted contents → decimals.IsRead (numeric_of contents) (Ok (low, high))
    → IsTextOfNumber (codes "{\"$numberDecimal\":\"" ++ (contents ++ codes "\"}")) (Decimal128 low high)
decimal_printed low high contents plain h rest end = inl (of_decimal128.0, contents, decimal_wrapper contents rest plain, h)
