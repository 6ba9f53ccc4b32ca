-- Whole numbers, as `parse` reads them.
use Rattle.std.proofs.Common.{◌≡◌, ℕ, zero, suc, ◌^◌, ◌<◌, ◌≤◌, ℤ, pos, neg_ℤ, Bool, true, false, cond, ◌==◌, nat_lt, List, [], ◌∷◌, length, drop, get_or}
use Rattle.std.proofs.Common.{Option, Some, None, Result, Ok, Err, refl, sym, ap, ◌∙◌, arith}
use Rattle.std.specs.Int.{w64}
use Rattle.std.specs.Result.{OkIff, result_ok}
use Rattle.std.specs.Char.{is_ascii_digit}
use Rattle.std.specs.Str.{all_ascii_digits}
use Rattle.std.proofs.lemmas.Bool.{and_parts, lt-ltb, ltb-true}
use Rattle.std.specs.Str.Parse.{ParsesSigned, digits_value}
use Rattle.std.proofs.lemmas.Str.Parse.{numerals_by_value, tells_all_ascii_digits, IsNumeralModel, parse_signed_minus, parse_signed_plain}
use Rattle.std.specs.Prelude.{option_map, option_and_then}
use Rattle.bd_extjson_wrapper.specs.WholeNumber.{are_digits, digits_number, fits_bits, if_fits, begins_digits, unsigned, whole, whole_64}

-- the decimal digits of a text, with their value, are numerals as `parse` reads them
pub digits_model : IsNumeralModel (λ ds. all_ascii_digits ds ≡ true) (digits_value 10)
digits_model = numerals_by_value (λ ds. all_ascii_digits ds ≡ true) tells_all_ascii_digits

pub all_of : (ds : List ℕ) → are_digits ds ≡ true → (all_ascii_digits ds ≡ true) × (0 < length ds)
all_of [] h = absurd cc
all_of (c ∷ cs) h = ((and_parts (begins_digits (c ∷ cs)) (all_ascii_digits (c ∷ cs)) h).1, omega arith)

digits_from : (ds : List ℕ) → begins_digits ds ≡ true → all_ascii_digits ds ≡ true → are_digits ds ≡ true
digits_from ds w h = rw (w, h) refl

decided : {E : Type 0} (r : Result ℤ E) (P : Type 0) (v : ℤ) (b : Bool) → (b ≡ true → P) → (P → b ≡ true) → OkIff r P v → result_ok r ≡ cond b (Some v) None
decided (Ok x) P v true f g h = ap Some h.1
decided (Ok x) P v false f g h = let e = g h.0 in absurd cc
decided (Err e) P v true f g h = absurd (h (f refl))
decided (Err e) P v false f g h = refl

negative_fits : (n : ℕ) → fits_bits 63 (neg_ℤ (pos n)) ≡ true → n ≤ 2 ^ 63
negative_fits zero h = omega arith
negative_fits (suc n) h = grind arith

fits_negative : (n : ℕ) → n ≤ 2 ^ 63 → fits_bits 63 (neg_ℤ (pos n)) ≡ true
fits_negative zero h = refl
fits_negative (suc n) h = grind arith

-- the same if the form is checked first
fact : {E : Type 0} (d : Bool) (r : Result ℤ E) (P : Type 0) (v : ℤ) (b : Bool) → (d ≡ true → b ≡ true → P) → (P → (d ≡ true) × (b ≡ true))
    → OkIff r P v → result_ok r ≡ cond d (cond b (Some v) None) None
fact true r P v b f g h = decided r P v b (f refl) (λ p. (g p).1) h
fact false (Ok x) P v b f g h = let e = (g h.0).0 in absurd cc
fact false (Err e) P v b f g h = refl

minus_first : {E : Type 0} (bs : List ℕ) (r : Result ℤ E) → get_or bs 0 0 ≡ 45 → begins_digits (drop 1 bs) ≡ true → ParsesSigned w64 10 bs r
    → result_ok r ≡ cond (are_digits (drop 1 bs)) (cond (fits_bits 63 (neg_ℤ (pos (digits_value 10 (drop 1 bs))))) (Some (neg_ℤ (pos (digits_value 10 (drop 1 bs))))) None) None
minus_first bs r e w h =
    fact (are_digits (drop 1 bs)) r _ _ _ (λ d t. let a = all_of (drop 1 bs) d in (a.0, a.1, negative_fits _ t))
    (λ p. (digits_from (drop 1 bs) w p.0, fits_negative _ p.2)) (parse_signed_minus digits_model w64 bs r h e)

plain_first : {E : Type 0} (bs : List ℕ) (r : Result ℤ E) → (get_or bs 0 0 ≡ 43 → ⊥) → (get_or bs 0 0 ≡ 45 → ⊥) → begins_digits bs ≡ true → ParsesSigned w64 10 bs r
    → result_ok r ≡ cond (are_digits bs) (cond (nat_lt (digits_value 10 bs) (2 ^ 63)) (Some (pos (digits_value 10 bs))) None) None
plain_first bs r m n w h =
    fact (are_digits bs) r _ _ _ (λ d t. let a = all_of bs d in (a.0, a.1, ltb-true _ _ t)) (λ p. (digits_from bs w p.0, lt-ltb _ _ p.2)) (parse_signed_plain digits_model w64 bs r h m n)

no_plus : (b : Bool) (c : ℕ) (cs : List ℕ) → (c == 48) ≡ b → cond b (length cs == 0) (is_ascii_digit c) ≡ true → c ≡ 43 → ⊥
no_plus true c cs e w p = grind arith
no_plus false c cs e w p = let f : is_ascii_digit 43 ≡ true = ap is_ascii_digit (sym p) ∙ w in absurd cc

in_range : (f : ℕ → ℤ) (d : Option ℕ) (b : Bool) (n : ℕ) → d ≡ cond b (Some n) None → option_and_then (if_fits 63) (option_map f d) ≡ cond b (if_fits 63 (f n)) None
in_range f d true n e = rw e refl
in_range f d false n e = rw e refl

whole_cases : {E : Type 0} (b : Bool) (c : ℕ) (cs : List ℕ) (r : Result ℤ E) → (c == 45) ≡ b → begins_digits (cond b cs (c ∷ cs)) ≡ true
    → ParsesSigned w64 10 (c ∷ cs) r → result_ok r ≡ whole_64 (c ∷ cs)
unfolding whole
whole_cases true c cs r e w h = rw e (minus_first (c ∷ cs) r (grind arith) w h ∙ sym (in_range (λ n. neg_ℤ (pos n)) (digits_number cs) (are_digits cs) (digits_value 10 cs) refl))
whole_cases false c cs r e w h =
    rw e (plain_first (c ∷ cs) r (λ p. no_plus (c == 48) c cs refl w p) (λ p. grind arith) w h
    ∙ sym (in_range (λ n. pos n) (digits_number (c ∷ cs)) (are_digits (c ∷ cs)) (digits_value 10 (c ∷ cs)) refl))

pub parsed : {E : Type 0} (bs : List ℕ) (r : Result ℤ E) → begins_digits (unsigned bs) ≡ true → ParsesSigned w64 10 bs r → result_ok r ≡ whole_64 bs
unfolding whole
parsed [] r w h = absurd cc
parsed (c ∷ cs) r w h = whole_cases (c == 45) c cs r refl w h

none_cases : (b : Bool) (c : ℕ) (cs : List ℕ) → (c == 45) ≡ b → begins_digits (cond b cs (c ∷ cs)) ≡ false → whole_64 (c ∷ cs) ≡ None
unfolding whole
none_cases true c cs e w = rw (e, w) refl
none_cases false c cs e w = rw (e, w) refl

pub not_whole : (bs : List ℕ) → begins_digits (unsigned bs) ≡ false → whole_64 bs ≡ None
unfolding whole
not_whole [] w = refl
not_whole (c ∷ cs) w = none_cases (c == 45) c cs refl w
