-- The text from `ryu` for a double is its text, laid out again; and the fixed texts of the doubles that have no digits.
use Rattle.std.proofs.Common.{◌≡◌, ◌≢◌, ◌<◌, ◌≤◌, ℕ, zero, suc, ◌+◌, ◌-◌, ◌*◌, ◌/◌, ◌%◌, ◌^◌, ◌==◌, ℤ, Bool, true, false, cond, not, T, IsTrue, List, [], ◌∷◌, ◌++◌, length, drop, get_or, refl, sym, ap, ◌∙◌, subst, inl, inr, arith, true≢false, codes, pos, ne_eqb, Some, Result, Ok, Err, OnOk, append_assoc, rules}
use Rattle.std.proofs.lemmas.List.{get_or_append_left}
use Rattle.std.proofs.lemmas.Str.Parse.{digit_at}
use Rattle.std.proofs.lemmas.Float.Parse.{parse_float-text_of, scan_numeral-text_of}
use Rattle.std.proofs.Math.Nat.{zero-div}
use borrow.Author.Tests.{lt-ltb, le-ltb}
use Rattle.std.specs.Fmt.{sign_text}
use Rattle.std.specs.Float.{binary64, float_is_finite}
use Rattle.std.specs.Float.Parse.{parse_float}
use lib.Ieee.{Float, nan, inf, fin, round, of_bits, to_bits, nan_bits, is_nan, size, prec, low, hid, top, up, down}
use lib.Ieee.Bits.{to_bits-of_bits, nan_bits_is, nan_bits_above}
use lib.Ieee.Scale.{round_same}
use Rattle.fast_float.specs.Text.{Parts, digits_of, tens_up, tens_down, nearest, text_of, exponent_text, scan}
use Rattle.fast_float.proofs.ExactLemmas.{ten_to_pos}
use Rattle.ryu.specs.Plain.{IsPlain, IsLaidOut, IsLaidOutNumber}
use Rattle.bd_wide_text.specs.Layout.{Adds}
use Rattle.bd_wide_text.specs.Double.{IsTextOf, IsDoubleText}
use Rattle.bd_wide_text.specs.inside.LaidOutAnew.{AreParts, IsLaidOutAnew, IsSized}

-- ---- fixed texts

pub zero_word : (bits : ℕ) → bits ≡ 0 → IsDoubleText bits (codes "0.0")
unfolding IsTextOf of_bits
zero_word bits is = subst (λ (b : ℕ). IsDoubleText b (codes "0.0")) (sym is) refl

pub minus_zero_word : (bits : ℕ) → bits ≡ 0x8000_0000_0000_0000 → IsDoubleText bits (codes "-0.0")
unfolding IsTextOf of_bits
minus_zero_word bits is = subst (λ (b : ℕ). IsDoubleText b (codes "-0.0")) (sym is) refl

pub infinity_word : (bits : ℕ) → bits ≡ 0x7FF0_0000_0000_0000 → IsDoubleText bits (codes "Infinity")
unfolding IsTextOf of_bits
infinity_word bits is = subst (λ (b : ℕ). IsDoubleText b (codes "Infinity")) (sym is) refl

pub minus_infinity_word : (bits : ℕ) → bits ≡ 0xFFF0_0000_0000_0000 → IsDoubleText bits (codes "-Infinity")
unfolding IsTextOf of_bits
minus_infinity_word bits is = subst (λ (b : ℕ). IsDoubleText b (codes "-Infinity")) (sym is) refl

is_nan_text : (x : Float) → is_nan x ≡ true → IsTextOf x (codes "NaN")
unfolding IsTextOf is_nan
is_nan_text nan e = refl
is_nan_text (inf s) e = absurd (true≢false (sym e))
is_nan_text (fin s m k) e = absurd (true≢false (sym e))

pub nan_word : (bits : ℕ) → 0x7FF0_0000_0000_0000 < bits % 0x8000_0000_0000_0000 → IsDoubleText bits (codes "NaN")
nan_word bits above = is_nan_text (of_bits binary64 bits) (sym (nan_bits_is binary64 bits) ∙ nan_bits_above binary64 bits ∙ lt-ltb _ _ above)

-- ---- all other doubles are numbers

by_sign : (s : Bool) → cond s 0x8000_0000_0000_0000 0 + 0 + 0 ≡ cond s 0x8000_0000_0000_0000 0
by_sign true = refl
by_sign false = refl

zero_bits : (s : Bool) (e : ℤ) → to_bits binary64 (fin s zero e) ≡ cond s 0x8000_0000_0000_0000 0
unfolding to_bits
zero_bits s e =
    let n : zero * up e * 2 ^ low binary64 / down e ≡ 0 = ap (λ k. k / down e) (omega arith) ∙ zero-div (down e) in
    ap (λ k. cond s (top binary64) 0 + (size k - prec binary64) * hid binary64 + k / 2 ^ (size k - prec binary64)) n ∙ by_sign s

sized_if : (x : Float) (bits : ℕ) → is_nan x ≡ false → to_bits binary64 x ≡ bits → bits ≢ 0 → bits ≢ 0x8000_0000_0000_0000 → bits ≢ 0x7FF0_0000_0000_0000
    → bits ≢ 0xFFF0_0000_0000_0000 → IsSized x
unfolding is_nan to_bits
sized_if nan bits number is a b c d = absurd (true≢false number)
sized_if (inf true) bits number is a b c d = absurd (d (sym is))
sized_if (inf false) bits number is a b c d = absurd (c (sym is))
sized_if (fin true zero e) bits number is a b c d = absurd (b (sym is ∙ zero_bits true e))
sized_if (fin false zero e) bits number is a b c d = absurd (a (sym is ∙ zero_bits false e))
sized_if (fin s (suc m) e) bits number is a b c d = omega arith

-- bits that are neither a zero, an infinity nor a NaN are those of a number other than zero
pub sized : (bits : ℕ) → bits < 2 ^ 64 → bits ≢ 0 → bits ≢ 0x8000_0000_0000_0000 → bits ≢ 0x7FF0_0000_0000_0000 → bits ≢ 0xFFF0_0000_0000_0000
    → bits % 0x8000_0000_0000_0000 ≤ 0x7FF0_0000_0000_0000 → IsSized (of_bits binary64 bits)
sized bits inside a b c d few =
    let number : is_nan (of_bits binary64 bits) ≡ false = sym (nan_bits_is binary64 bits) ∙ nan_bits_above binary64 bits ∙ le-ltb _ _ few in
    sized_if (of_bits binary64 bits) bits number (to_bits-of_bits binary64 bits inside (subst (λ (t : Bool). T (not t)) (sym number) tt)) a b c d

sized_number : (x : Float) → IsSized x → (is_nan x ≡ false) × IsTrue (float_is_finite x)
unfolding is_nan float_is_finite
sized_number nan h = absurd h
sized_number (inf s) h = absurd h
sized_number (fin s m e) h = (refl, search rules)

-- the bits of a number other than zero are no NaN
pub sized_bits : (bits : ℕ) → IsSized (of_bits binary64 bits) → T (not (nan_bits binary64 bits))
sized_bits bits h = subst (λ (t : Bool). T (not t)) (sym (nan_bits_is binary64 bits ∙ (sized_number (of_bits binary64 bits) h).0)) tt

-- a number other than zero is finite
pub sized_finite : (x : Float) → IsSized x → IsTrue (float_is_finite x)
sized_finite x h = (sized_number x h).1

-- ---- the number

round_zero : (s : Bool) (c : ℕ) → 0 < c → round binary64 s 0 c ≡ fin s 0 (pos 0)
unfolding round
round_zero s c some = round_same binary64 s 0 c 0 1 some (omega arith) (omega arith) ∙ refl

not_zero : (s t : Bool) (m : ℕ) (e : ℤ) (a c : ℕ) → 0 < c → a ≡ 0 → round binary64 s a c ≡ fin t (suc m) e → ⊥
not_zero s t m e a c some none is =
    let zero_is : fin s 0 (pos 0) ≡ fin t (suc m) e = sym (round_zero s c some) ∙ ap (λ n. round binary64 s n c) (sym none) ∙ is in cc

pub by_digits : (x : Float) (s : Bool) (p : Parts) (new : List ℕ) → nearest binary64 s p ≡ x → IsLaidOutAnew p new → IsSized x → IsTextOf x (sign_text s ++ new)
unfolding IsTextOf
by_digits nan s p new is laid h = absurd h
by_digits (inf t) s p new is laid h = absurd h
by_digits (fin t zero e) s p new is laid h = absurd (omega arith)
by_digits (fin t (suc m) e) s p new is (inl none) h = absurd (not_zero s t m e (digits_of p * 10 ^ tens_up p) (10 ^ tens_down p) (ten_to_pos (tens_down p)) (ap (λ n. n * 10 ^ tens_up p) none ∙ omega arith) is)
by_digits (fin t (suc m) e) s p new is (inr h) sized = (s, h.0, h.1, h.2, h.3 s ∙ is, ap (λ x. sign_text s ++ x) h.4)

pub first_digit : (p : Parts) → IsPlain p → (get_or (text_of p) 0 0 == 45) ≡ false
first_digit p plain =
    let back = cond p.point (46 ∷ p.fraction) [] ++ exponent_text p.exponent_negative p.exponent in
    let r = digit_at p.whole 0 plain.well_formed.whole_digits plain.whole in
    rw (get_or_append_left p.whole back 0 0 plain.whole) (ne_eqb (get_or p.whole 0 0) 45 (λ e. omega (arith, r.0)))

pub parts_of : (p : Parts) (size : List ℕ) → size ≡ text_of p → IsPlain p → IsLaidOut 16 4 p → length size ≤ 25 → AreParts size (scan size)
parts_of p size is plain layout short =
    let read : scan size ≡ p = ap scan is ∙ scan_numeral-text_of p plain.well_formed in
    subst (AreParts size) (sym read) (record { text = is; plain = plain; layout = layout; short = short })

pub nearest_of : (p : Parts) (s : Bool) (x : Float) (size : List ℕ) → size ≡ text_of p → IsPlain p → parse_float binary64 (sign_text s ++ size) ≡ Some x → nearest binary64 s (scan size) ≡ x
nearest_of p s x size is plain parses =
    let read : scan size ≡ p = ap scan is ∙ scan_numeral-text_of p plain.well_formed in
    let whole : Some (nearest binary64 s p) ≡ Some x = sym (parse_float-text_of binary64 s p plain.well_formed plain.whole) ∙ ap (λ t. parse_float binary64 (sign_text s ++ t)) (sym is) ∙ parses in
    let same : nearest binary64 s p ≡ x = cc in
    ap (nearest binary64 s) read ∙ same

-- a text without a sign
pub unsigned : (x : Float) (text : List ℕ) → IsLaidOutNumber 16 4 text → parse_float binary64 text ≡ Some x → length text ≤ 25 → (get_or text 0 0 == 45) ≡ false
    → AreParts text (scan text) × (nearest binary64 false (scan text) ≡ x)
unsigned x text laid parses short none = by_sign_of laid.0 laid.2 where
  by_sign_of : (s : Bool) → text ≡ sign_text s ++ laid.1 → AreParts text (scan text) × (nearest binary64 false (scan text) ≡ x)
  by_sign_of true is = absurd (true≢false (ap (λ t. get_or t 0 0 == 45) (sym is) ∙ none))
  by_sign_of false is =
      let p = laid.3.0 in
      let here : text ≡ text_of p = is ∙ laid.3.1 in
      (parts_of p text here laid.3.2 laid.3.3 short, nearest_of p false x text here laid.3.2 parses)

-- a text with a sign
pub signed : (x : Float) (text : List ℕ) → IsLaidOutNumber 16 4 text → parse_float binary64 text ≡ Some x → length text ≤ 25 → (get_or text 0 0 == 45) ≡ true
    → AreParts (drop 1 text) (scan (drop 1 text)) × (nearest binary64 true (scan (drop 1 text)) ≡ x)
signed x text laid parses short none = by_sign_of laid.0 laid.2 where
  by_sign_of : (s : Bool) → text ≡ sign_text s ++ laid.1 → AreParts (drop 1 text) (scan (drop 1 text)) × (nearest binary64 true (scan (drop 1 text)) ≡ x)
  by_sign_of false is =
      let p = laid.3.0 in
      absurd (true≢false (sym none ∙ ap (λ t. get_or t 0 0 == 45) (is ∙ laid.3.1) ∙ first_digit p laid.3.2))
  by_sign_of true is =
      let p = laid.3.0 in
      let size : drop 1 text ≡ laid.1 = ap (drop 1) is in
      let here : drop 1 text ≡ text_of p = size ∙ laid.3.1 in
      let reads : parse_float binary64 (sign_text true ++ drop 1 text) ≡ Some x = ap (λ t. parse_float binary64 (sign_text true ++ t)) size ∙ ap (parse_float binary64) (sym is) ∙ parses in
      (parts_of p (drop 1 text) here laid.3.2 laid.3.3 (omega (arith, ap (λ t. length t) is, ap (λ t. length t) size, short)), nearest_of p true x (drop 1 text) here laid.3.2 reads)

pub text_is : (x : Float) (s : Bool) (size : List ℕ) (old before new : List ℕ) → nearest binary64 s (scan size) ≡ x → IsSized x → before ≡ old ++ sign_text s
    → Adds (IsLaidOutAnew (scan size)) before new → Adds (IsTextOf x) old new
text_is x s size old before new is sized e laid =
    (sign_text s ++ laid.0, by_digits x s (scan size) laid.0 is laid.1 sized, laid.2 ∙ ap (λ t. t ++ laid.0) e ∙ append_assoc old (sign_text s) laid.0)

-- what follows from a property on success holds on success
pub ok_on : {A B : Type 0} (r : Result A B) (P Q : Type 0) → OnOk r P → (P → Q) → OnOk r Q
ok_on (Ok x) P Q p q = q p
ok_on (Err e) P Q p q = _

pub some_of : (xs : List ℕ) (none : Bool) → none ≡ (length xs == 0) → none ≡ false → 0 < length xs
some_of [] none is e = absurd (true≢false (sym is ∙ e))
some_of (x ∷ xs) none is e = omega arith

pub none_of : (xs : List ℕ) (none : Bool) → none ≡ (length xs == 0) → none ≡ true → xs ≡ []
none_of [] none is e = refl
none_of (x ∷ xs) none is e = absurd (true≢false (sym e ∙ is ∙ ne_eqb (suc (length xs)) 0 (λ h. omega arith)))
