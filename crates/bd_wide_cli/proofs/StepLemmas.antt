-- The division of a text into pieces continues after an item of JSON, and finds no value in it.
use Rattle.std.proofs.Common.{◌≡◌, ◌==◌, ◌||◌, ℕ, zero, suc, Bool, true, false, List, [], ◌∷◌, ◌++◌, length, drop, Some, None, Ok, Err, refl, sym, ap, ◌∙◌, subst, inl, inr, append_assoc}
use Rattle.std.specs.Prelude.{if◌then◌else◌, codes, nat_lt, Result, ◌+◌, ◌*◌}
use Rattle.std.specs.Char.{digit_value, is_ascii_digit, is_digit}
use Rattle.std.specs.{List.list_any, Str.all_ascii_digits}
use Rattle.json.specs.Text.{is_high_surrogate, is_low_surrogate}
use Rattle.std.proofs.lemmas.Bool.{eqb-true, eqb-false, false≢true, and_parts}
use Rattle.bd_extjson_wrapper.specs.WholeNumber.{are_digits, begins_digits, unsigned}
use Rattle.bd_extjson_fault.specs.JsonSyntax.{Beyond, ◌>>=◌, begins, beyond_all, beyond_character, beyond_escape, beyond_hex, beyond_items, beyond_group, beyond_low, beyond_next, beyond_parts, beyond_string, beyond_unit, beyond_units, beyond_white, beyond_word, is_short_escape, is_white, syntax_at}
use Rattle.bd_extjson_fault.specs.TreeFault.{parts_after, parts_from, parts_in}
use Rattle.bd_extjson_fault.proofs.OffsetLemmas.{bind_ok, word_split}
use Rattle.bd_extjson.proofs.ByteLemmas.{unless}
use Rattle.bd_extjson.proofs.ScalarLemmas.{Pairs}
use Rattle.bd_extjson.proofs.StringLemmas.{MeetsString, string_meets}
use Rattle.bd_wide_read.specs.DoubleText.{number_bits}
use Rattle.bd_wide_substitute.specs.Substitutes.{ArePieces, BeginsValue, IsBefore, Piece, after, after_string, all_values, is_of_number, same, wrapper_at, wrapper_inside}
use Rattle.bd_wide_substitute.specs.declared.wrapped.WideValue.{WideValue}
use Rattle.bd_wide_substitute.proofs.OnceLemmas.{after_one, alike}

-- ---- results

ok_same : {A E : Type 0} (a b : A) → ◌≡◌ {A = Result A E} (Ok a) (Ok b) → a ≡ b
ok_same a b e = cc

no_ok : {A E : Type 0} (f : E) (b : A) → ◌≡◌ {A = Result A E} (Err f) (Ok b) → ⊥
no_ok f b e = cc

no_some : {A : Type 0} (a : A) → None ≡ Some a → ⊥
no_some a e = cc

-- From the one text the division comes to the other, and there is no value between.
abbrev pub Steps : List ℕ → List ℕ → Type 0
Steps text rest = (ps : List Piece) → ArePieces text ps → (qs : List Piece) × ArePieces rest qs × (all_values ps ≡ all_values qs)

pub steps_on : (a b c : List ℕ) → Steps a b → Steps b c → Steps a c
steps_on a b c first second ps are =
    let one = first ps are in
    let two = second one.0 one.1 in
    (two.0, two.1, one.2 ∙ two.2)

pub steps_none : (a b : List ℕ) → a ≡ b → Steps a b
steps_none a b e ps are = (ps, subst (λ (t : List ℕ). ArePieces t ps) e are, refl)

-- a piece that stays
pub one_step : (c : ℕ) (cs rest : List ℕ) → IsBefore (same (c ∷ cs)) rest → Steps (c ∷ (cs ++ rest)) rest
one_step c cs rest before ps are =
    let others = after_one (same (c ∷ cs)) rest (c ∷ (cs ++ rest)) (λ e. cc) refl before ps are in
    let both = alike ps (same (c ∷ cs) ∷ others.0) (c ∷ (cs ++ rest)) are (rest, refl, before, others.1) in
    (others.0, others.1, both.values)

-- ---- single bytes

no_brace : (c : ℕ) (rest : List ℕ) → (c == 123) ≡ false → (v : WideValue) (more : List ℕ) → BeginsValue (c ∷ rest) v more → ⊥
no_brace c rest other v more h =
    let none : wrapper_at (c ∷ rest) ≡ None = ap (λ (b : Bool). if b then wrapper_inside rest else None) other in
    no_some (h.0, Some (h.1, more)) (sym none ∙ h.2)

pub byte_step : (c : ℕ) (rest : List ℕ) → (c == 34) ≡ false → is_of_number c ≡ false → ((v : WideValue) (more : List ℕ) → BeginsValue (c ∷ rest) v more → ⊥) → Steps (c ∷ rest) rest
byte_step c rest quote number none = one_step c [] rest (inr (inr (c, refl, eqb-false c 34 quote, number, none)))

pub other_step : (c : ℕ) (rest : List ℕ) → (c == 34) ≡ false → is_of_number c ≡ false → (c == 123) ≡ false → Steps (c ∷ rest) rest
other_step c rest quote number brace = byte_step c rest quote number (no_brace c rest brace)

-- ---- white space

white_byte : (c : ℕ) (rest : List ℕ) → is_white c ≡ true → Steps (c ∷ rest) rest
white_byte c rest =
    let P : ℕ → Type 0 = λ y. is_white y ≡ true → Steps (y ∷ rest) rest in
    unless P 32 c (λ e. other_step 32 rest refl refl refl) (λ e1. unless P 9 c (λ e. other_step 9 rest refl refl refl)
    (λ e2. unless P 10 c (λ e. other_step 10 rest refl refl refl) (λ e3. unless P 13 c (λ e. other_step 13 rest refl refl refl)
    (λ e4 e. absurd (false≢true (rw (e1, e2, e3, e4) at e))))))

pub white_steps : (text : List ℕ) → Steps text (beyond_white text)
unfolding beyond_all
white_steps [] = steps_none [] [] refl
white_steps (c ∷ cs) = go (is_white c) refl (white_steps cs)
  where
    go : (b : Bool) → is_white c ≡ b → Steps cs (beyond_white cs) → Steps (c ∷ cs) (if b then beyond_all is_white cs else c ∷ cs)
    go true e more = steps_on (c ∷ cs) cs (beyond_white cs) (white_byte c cs e) more
    go false e more = steps_none (c ∷ cs) (c ∷ cs) refl

-- a text that does not begin with a byte of a number
abbrev pub Ends : List ℕ → Type 0
Ends text = after is_of_number text ≡ text

white_number : (c : ℕ) → is_white c ≡ true → is_of_number c ≡ false
white_number c =
    let P : ℕ → Type 0 = λ y. is_white y ≡ true → is_of_number y ≡ false in
    unless P 32 c (λ e. refl) (λ e1. unless P 9 c (λ e. refl) (λ e2. unless P 10 c (λ e. refl) (λ e3. unless P 13 c (λ e. refl)
    (λ e4 e. absurd (false≢true (rw (e1, e2, e3, e4) at e))))))

not_of_number : (c : ℕ) (cs : List ℕ) → is_of_number c ≡ false → Ends (c ∷ cs)
not_of_number c cs e = ap (λ (b : Bool). if b then after is_of_number cs else c ∷ cs) e

-- white space, and then the end or another byte than of a number
pub ends_white : (text : List ℕ) → Ends (beyond_white text) → Ends text
unfolding beyond_all
ends_white [] e = refl
ends_white (c ∷ cs) e = go (is_white c) refl e
  where
    go : (b : Bool) → is_white c ≡ b → Ends (if b then beyond_all is_white cs else c ∷ cs) → Ends (c ∷ cs)
    go true w e = not_of_number c cs (white_number c w)
    go false w e = e

pub ends_byte : (c : ℕ) (cs : List ℕ) → is_of_number c ≡ false → Ends (c ∷ cs)
ends_byte = not_of_number

-- ---- strings

-- a number, and the text after its digits
abbrev Numbered : Type 0
Numbered = ℕ × List ℕ

digit_byte : (b : ℕ) (t : List ℕ) → is_digit b 16 ≡ true → after_string (b ∷ t) ≡ after_string t
digit_byte b t =
    let P : ℕ → Type 0 = λ y. is_digit y 16 ≡ true → after_string (y ∷ t) ≡ after_string t in
    unless P 34 b (λ e. absurd (false≢true e)) (λ e1. unless P 92 b (λ e. absurd (false≢true e)) (λ e2 e. rw (e1, e2) refl))

hex_string : (t : List ℕ) (u : Numbered) → beyond_hex t ≡ Ok u → after_string t ≡ after_string u.1
unfolding beyond_hex
hex_string [] u e = absurd (no_ok _ u e)
hex_string (b ∷ t) u e = go (is_digit b 16) refl
  where
    go : (x : Bool) → is_digit b 16 ≡ x → after_string (b ∷ t) ≡ after_string u.1
    go true is = digit_byte b t is ∙ ap (λ (x : Numbered). after_string x.1) (ok_same (digit_value b, t) u (rw is at e))
    go false is = absurd (no_ok _ u (rw is at e))

rest_same : {E : Type 0} (n : ℕ) (rest : List ℕ) (u : Numbered) → ◌≡◌ {A = Result Numbered E} (Ok (n, rest)) (Ok u) → rest ≡ u.1
rest_same n rest u e = let one : Numbered = (n, rest) in ap (λ (x : Numbered). x.1) (ok_same one u e)

unit_string : (t : List ℕ) (u : Numbered) → beyond_unit t ≡ Ok u → after_string t ≡ after_string u.1
unfolding beyond_unit
unit_string t u e =
    let w = bind_ok (beyond_word (codes "\\u") t) (λ (x : List ℕ). beyond_hex x >>= λ (a : Numbered). beyond_hex a.1 >>= λ (b : Numbered). beyond_hex b.1 >>= λ (c : Numbered).
    beyond_hex c.1 >>= λ (d : Numbered). Ok (a.0 * 4096 + b.0 * 256 + c.0 * 16 + d.0, d.1)) u e in
    let a = bind_ok (beyond_hex w.0) (λ (a : Numbered). beyond_hex a.1 >>= λ (b : Numbered). beyond_hex b.1 >>= λ (c : Numbered).
    beyond_hex c.1 >>= λ (d : Numbered). Ok (a.0 * 4096 + b.0 * 256 + c.0 * 16 + d.0, d.1)) u w.2 in
    four (a.0).0 t w.0 a.0 (word_split (codes "\\u") t w.0 w.1) a.1 a.2
  where
    four : (n : ℕ) (t x : List ℕ) (a : Numbered) → t ≡ codes "\\u" ++ x → beyond_hex x ≡ Ok a
        → (beyond_hex a.1 >>= λ (b : Numbered). beyond_hex b.1 >>= λ (c : Numbered). beyond_hex c.1 >>= λ (d : Numbered). Ok (n * 4096 + b.0 * 256 + c.0 * 16 + d.0, d.1)) ≡ Ok u
        → after_string t ≡ after_string u.1
    four n t x a is hex e =
        let b = bind_ok (beyond_hex a.1) (λ (b : Numbered). beyond_hex b.1 >>= λ (c : Numbered). beyond_hex c.1 >>= λ (d : Numbered). Ok (n * 4096 + b.0 * 256 + c.0 * 16 + d.0, d.1)) u e in
        let c = bind_ok (beyond_hex (b.0).1) (λ (c : Numbered). beyond_hex c.1 >>= λ (d : Numbered). Ok (n * 4096 + (b.0).0 * 256 + c.0 * 16 + d.0, d.1)) u b.2 in
        let d = bind_ok (beyond_hex (c.0).1) (λ (d : Numbered). Ok (n * 4096 + (b.0).0 * 256 + (c.0).0 * 16 + d.0, d.1)) u c.2 in
        ap after_string is ∙ hex_string x a hex ∙ hex_string a.1 b.0 b.1 ∙ hex_string (b.0).1 c.0 c.1 ∙ hex_string (c.0).1 d.0 d.1
        ∙ ap after_string (rest_same (n * 4096 + (b.0).0 * 256 + (c.0).0 * 16 + (d.0).0) (d.0).1 u d.2)

low_string : (high mid t : List ℕ) → beyond_low high (beyond_unit t) ≡ Ok mid → after_string t ≡ after_string mid
unfolding beyond_low
low_string high mid t e =
    elim (beyond_unit t) as (λ r. beyond_unit t ≡ r → beyond_low high r ≡ Ok mid → after_string t ≡ after_string mid) [
      | Ok u ↦ λ is led. elim (is_low_surrogate u.0) as (λ x. ◌≡◌ {A = Beyond} (if x then Ok u.1 else syntax_at high) (Ok mid) → after_string t ≡ after_string mid) [
        | true ↦ λ f. unit_string t u is ∙ ap after_string (ok_same u.1 mid f)
        | false ↦ λ f. absurd (no_ok _ mid f)
      ] led
      | Err stop ↦ λ is led. elim (stop.remaining == 0) as (λ x. ◌≡◌ {A = Beyond} (if x then Err stop else syntax_at high) (Ok mid) → after_string t ≡ after_string mid) [
        | true ↦ λ f. absurd (no_ok _ mid f)
        | false ↦ λ f. absurd (no_ok _ mid f)
      ] led
    ] refl e

units_string : (t mid : List ℕ) → beyond_units t ≡ Ok mid → after_string t ≡ after_string mid
unfolding beyond_units
units_string t mid e =
    let u = bind_ok (beyond_unit t) (λ (u : Numbered). if is_high_surrogate u.0 then beyond_low t (beyond_unit u.1) else (if is_low_surrogate u.0 then syntax_at t else Ok u.1)) mid e in
    go u.0 u.1 (is_high_surrogate (u.0).0) (is_low_surrogate (u.0).0) u.2
  where
    go : (u : Numbered) → beyond_unit t ≡ Ok u → (x y : Bool) → ◌≡◌ {A = Beyond} (if x then beyond_low t (beyond_unit u.1) else (if y then syntax_at t else Ok u.1)) (Ok mid) → after_string t ≡ after_string mid
    go u is true y e = unit_string t u is ∙ low_string t mid u.1 e
    go u is false true e = absurd (no_ok _ mid e)
    go u is false false e = unit_string t u is ∙ ap after_string (ok_same u.1 mid e)

-- one character that is no quotation mark
character_string : (b : ℕ) (t mid : List ℕ) → (b == 34) ≡ false → beyond_character (b ∷ t) ≡ Ok mid → after_string (b ∷ t) ≡ after_string mid
unfolding beyond_character beyond_escape
character_string b t mid quote e = go (b == 92) refl e
  where
    plain : (x : Bool) → (b == 92) ≡ false → ◌≡◌ {A = Beyond} (if x then syntax_at (b ∷ t) else Ok t) (Ok mid) → after_string (b ∷ t) ≡ after_string mid
    plain true other e = absurd (no_ok _ mid e)
    plain false other e = rw (quote, other) (ap after_string (ok_same t mid e))

    escaped : (t : List ℕ) → (b == 92) ≡ true → beyond_escape (b ∷ t) t ≡ Ok mid → after_string (b ∷ t) ≡ after_string mid
    escaped [] is e = absurd (no_ok _ mid e)
    escaped (c ∷ t) is e = by_kind (c == 117) (is_short_escape c) refl e
      where
        by_kind : (x y : Bool) → (c == 117) ≡ x → ◌≡◌ {A = Beyond} (if x then beyond_units (b ∷ c ∷ t) else (if y then Ok t else syntax_at (c ∷ t))) (Ok mid) → after_string (b ∷ c ∷ t) ≡ after_string mid
        by_kind true y u e = units_string (b ∷ c ∷ t) mid e
        by_kind false true u e = rw (quote, is) (ap after_string (ok_same t mid e))
        by_kind false false u e = absurd (no_ok _ mid e)

    go : (x : Bool) → (b == 92) ≡ x → ◌≡◌ {A = Beyond} (if x then beyond_escape (b ∷ t) t else (if nat_lt b 32 then syntax_at (b ∷ t) else Ok t)) (Ok mid) → after_string (b ∷ t) ≡ after_string mid
    go true is e = escaped t is e
    go false is e = plain (nat_lt b 32) is e

no_character : (mid : List ℕ) → beyond_character [] ≡ Ok mid → ⊥
unfolding beyond_character
no_character mid e = cc

items_string : (n : ℕ) (t rest : List ℕ) → beyond_items (λ b. b == 34) beyond_character n t ≡ Ok rest → after_string t ≡ rest
unfolding beyond_items
items_string zero t rest e = absurd (no_ok _ rest e)
items_string (suc n) [] rest e =
    let m = bind_ok (beyond_character []) (beyond_items (λ b. b == 34) beyond_character n) rest e in
    absurd (no_character m.0 m.1)
items_string (suc n) (b ∷ t) rest e = go (b == 34) refl e (λ mid f. items_string n mid rest f)
  where
    go : (x : Bool) → (b == 34) ≡ x → ◌≡◌ {A = Beyond} (if x then Ok t else (beyond_character (b ∷ t) >>= beyond_items (λ b. b == 34) beyond_character n)) (Ok rest)
        → ((mid : List ℕ) → beyond_items (λ b. b == 34) beyond_character n mid ≡ Ok rest → after_string mid ≡ rest) → after_string (b ∷ t) ≡ rest
    go true is e more = rw is (ok_same t rest e)
    go false is e more =
        let m = bind_ok (beyond_character (b ∷ t)) (beyond_items (λ b. b == 34) beyond_character n) rest e in
        character_string b t m.0 is m.1 ∙ more m.0 m.2

-- the rest of a string is the same for the division
string_after : (t rest : List ℕ) → beyond_string t ≡ Ok rest → after_string t ≡ rest
unfolding beyond_string
string_after t rest e = items_string (length t) t rest e

string_at : (t rest : List ℕ) (r : Beyond) → beyond_string t ≡ r → r ≡ Ok rest → MeetsString t r → (prefix : List ℕ) × (t ≡ (prefix ++ 34 ∷ []) ++ rest)
string_at t rest (Ok mid) is e s = (s.prefix, s.whole ∙ sym (append_assoc s.prefix (34 ∷ []) mid) ∙ ap (λ (x : List ℕ). (s.prefix ++ 34 ∷ []) ++ x) (ok_same mid rest e))
string_at t rest (Err stop) is e s = absurd (no_ok _ rest e)

pub string_steps : (t rest : List ℕ) → beyond_string t ≡ Ok rest → Steps (34 ∷ t) rest
string_steps t rest e =
    let s = string_at t rest (beyond_string t) refl e (string_meets t) in
    let inside = s.0 ++ 34 ∷ [] in
    let step = one_step 34 inside rest (inl (inside, refl, ap after_string (sym s.1) ∙ string_after t rest e)) in
    subst (λ (x : List ℕ). Steps (34 ∷ x) rest) (sym s.1) step

-- ---- numbers

-- whether a byte is of a fraction or an exponent
abbrev is_of_double : ℕ → Bool
is_of_double c = c == 46 || c == 69 || c == 101

digit_whole : (d : ℕ) → is_ascii_digit d ≡ true → is_of_double d ≡ false
digit_whole d =
    let P : ℕ → Type 0 = λ y. is_ascii_digit y ≡ true → is_of_double y ≡ false in
    unless P 46 d (λ e. absurd (false≢true e)) (λ e1. unless P 69 d (λ e. absurd (false≢true e)) (λ e2. unless P 101 d (λ e. absurd (false≢true e)) (λ e3 e. rw (e1, e2, e3) refl)))

-- The bytes are of a whole number.
abbrev Whole : List ℕ → Type 0
Whole bytes = (after is_of_number bytes ≡ []) × (list_any is_of_double bytes ≡ false)

digits_run : (ds : List ℕ) → all_ascii_digits ds ≡ true → Whole ds
digits_run [] e = (refl, refl)
digits_run (d ∷ ds) e =
    let both = and_parts (is_ascii_digit d) (all_ascii_digits ds) e in
    let more = digits_run ds both.1 in
    (rw both.0 more.0, rw (digit_whole d both.0) more.1)

signed_run : (c : ℕ) (cs : List ℕ) → are_digits (unsigned (c ∷ cs)) ≡ true → Whole (c ∷ cs)
signed_run c cs e = go (c == 45) refl e
  where
    go : (x : Bool) → (c == 45) ≡ x → are_digits (if x then cs else c ∷ cs) ≡ true → Whole (c ∷ cs)
    go true is e =
        let more = digits_run cs (and_parts (begins_digits cs) (all_ascii_digits cs) e).1 in
        subst (λ (d : ℕ). Whole (d ∷ cs)) (sym (eqb-true c 45 is)) (more.0, more.1)
    go false is e = digits_run (c ∷ cs) (and_parts (begins_digits (c ∷ cs)) (all_ascii_digits (c ∷ cs)) e).1

-- a whole number begins with a byte of a number
pub number_first : (c : ℕ) (cs : List ℕ) → are_digits (unsigned (c ∷ cs)) ≡ true → is_of_number c ≡ true
number_first c cs e = go (c == 45) refl e
  where
    go : (x : Bool) → (c == 45) ≡ x → are_digits (if x then cs else c ∷ cs) ≡ true → is_of_number c ≡ true
    go true is e = ap is_of_number (eqb-true c 45 is)
    go false is e = let digit = (and_parts (is_ascii_digit c) (all_ascii_digits cs) (and_parts (begins_digits (c ∷ cs)) (all_ascii_digits (c ∷ cs)) e).1).0 in rw digit refl

-- a whole number
pub number_steps : (s rest : List ℕ) → are_digits (unsigned s) ≡ true → Ends rest → Steps (s ++ rest) rest
number_steps [] rest e ends = absurd (false≢true e)
number_steps (c ∷ cs) rest e ends =
    let run = signed_run c cs e in
    one_step c cs rest (inr (inl ((run.0, ends), λ bits h. false≢true (sym run.1 ∙ h.0))))

-- ---- words

e_step : (rest : List ℕ) → Ends rest → Steps (101 ∷ rest) rest
e_step rest ends = one_step 101 [] rest (inr (inl ((refl, ends), λ bits h. no_bits bits h.1)))
  where
    no_bits : (bits : ℕ) → number_bits (101 ∷ []) ≡ Ok bits → ⊥
    no_bits bits e = absurd cc

pub null_steps : (rest : List ℕ) → Steps (codes "null" ++ rest) rest
null_steps rest =
    steps_on (110 ∷ 117 ∷ 108 ∷ 108 ∷ rest) (117 ∷ 108 ∷ 108 ∷ rest) rest (other_step 110 (117 ∷ 108 ∷ 108 ∷ rest) refl refl refl)
    (steps_on (117 ∷ 108 ∷ 108 ∷ rest) (108 ∷ 108 ∷ rest) rest (other_step 117 (108 ∷ 108 ∷ rest) refl refl refl)
    (steps_on (108 ∷ 108 ∷ rest) (108 ∷ rest) rest (other_step 108 (108 ∷ rest) refl refl refl) (other_step 108 rest refl refl refl)))

pub true_steps : (rest : List ℕ) → Ends rest → Steps (codes "true" ++ rest) rest
true_steps rest ends =
    steps_on (116 ∷ 114 ∷ 117 ∷ 101 ∷ rest) (114 ∷ 117 ∷ 101 ∷ rest) rest (other_step 116 (114 ∷ 117 ∷ 101 ∷ rest) refl refl refl)
    (steps_on (114 ∷ 117 ∷ 101 ∷ rest) (117 ∷ 101 ∷ rest) rest (other_step 114 (117 ∷ 101 ∷ rest) refl refl refl)
    (steps_on (117 ∷ 101 ∷ rest) (101 ∷ rest) rest (other_step 117 (101 ∷ rest) refl refl refl) (e_step rest ends)))

pub false_steps : (rest : List ℕ) → Ends rest → Steps (codes "false" ++ rest) rest
false_steps rest ends =
    steps_on (102 ∷ 97 ∷ 108 ∷ 115 ∷ 101 ∷ rest) (97 ∷ 108 ∷ 115 ∷ 101 ∷ rest) rest (other_step 102 (97 ∷ 108 ∷ 115 ∷ 101 ∷ rest) refl refl refl)
    (steps_on (97 ∷ 108 ∷ 115 ∷ 101 ∷ rest) (108 ∷ 115 ∷ 101 ∷ rest) rest (other_step 97 (108 ∷ 115 ∷ 101 ∷ rest) refl refl refl)
    (steps_on (108 ∷ 115 ∷ 101 ∷ rest) (115 ∷ 101 ∷ rest) rest (other_step 108 (115 ∷ 101 ∷ rest) refl refl refl)
    (steps_on (115 ∷ 101 ∷ rest) (101 ∷ rest) rest (other_step 115 (101 ∷ rest) refl refl refl) (e_step rest ends))))

-- Each of a list has a property.
abbrev pub AllHave : {J : Type 0} → (J → Type 0) → List J → Type 0
AllHave Has [] = Unit {0}
AllHave Has (j ∷ js) = Has j × AllHave Has js

-- ---- what is between the parts in brackets

module _ (closes : ℕ → Bool) (c : ℕ) (only : (b : ℕ) → closes b ≡ true → b ≡ c) (quote : (c == 34) ≡ false) (number : is_of_number c ≡ false) (brace : (c == 123) ≡ false) where
  closed : (text here : List ℕ) → beyond_white text ≡ here → begins closes here ≡ true → Steps text (drop 1 here) × Ends text
  closed text [] is e = absurd (false≢true e)
  closed text (b ∷ t) is e =
      let same : b ≡ c = only b e in
      let white : beyond_white text ≡ c ∷ t = is ∙ ap (λ (x : ℕ). x ∷ t) same in (
        steps_on text (beyond_white text) t (white_steps text) (steps_on (beyond_white text) (c ∷ t) t (steps_none (beyond_white text) (c ∷ t) white) (other_step c t quote number brace)),
        ends_white text (subst Ends (sym white) (ends_byte c t number)),
      )

  -- the end, or a comma
  pub next_steps : (text : List ℕ) (next : Bool × List ℕ) → beyond_next closes text ≡ Ok next → Steps text next.1 × Ends text
  unfolding beyond_next
  next_steps text next e = go (begins closes (beyond_white text)) refl
    where
      comma : beyond_word (codes ",") (beyond_white text) >>= (λ rest. Ok (true, rest)) ≡ Ok next → Steps text next.1 × Ends text
      comma e =
          let w = bind_ok (beyond_word (codes ",") (beyond_white text)) (λ rest. Ok (true, rest)) next e in
          let same : (true, w.0) ≡ next = ok_same (true, w.0) next w.2 in
          let white : beyond_white text ≡ 44 ∷ w.0 = word_split (codes ",") (beyond_white text) w.0 w.1 in
          subst (λ (x : Bool × List ℕ). Steps text x.1 × Ends text) same (
            steps_on text (beyond_white text) w.0 (white_steps text) (steps_on (beyond_white text) (44 ∷ w.0) w.0 (steps_none (beyond_white text) (44 ∷ w.0) white) (other_step 44 w.0 refl refl refl)),
            ends_white text (subst Ends (sym white) (ends_byte 44 w.0 refl)),
          )

      go : (x : Bool) → begins closes (beyond_white text) ≡ x → Steps text next.1 × Ends text
      go true is =
          let same : (false, drop 1 (beyond_white text)) ≡ next = ok_same (false, drop 1 (beyond_white text)) next (rw is at e) in
          subst (λ (x : Bool × List ℕ). Steps text x.1 × Ends text) same (closed text (beyond_white text) refl is)
      go false is = comma (rw is at e)

  -- parts up to the closing byte, each of which means one of a list that has a property
  module _ {J : Type 0} (part : List ℕ → Beyond) (Means : List ℕ → J → Type 0) (Has : J → Type 0)
      (one : (text mid : List ℕ) (j : J) → Means text j → Has j → part text ≡ Ok mid → Ends mid → Steps text mid) where
    parts_steps : (n : ℕ) (text rest : List ℕ) (js : List J) → Pairs Means (parts_from closes part n text) js → AllHave Has js → beyond_parts closes part n text ≡ Ok rest → Steps text rest
    unfolding beyond_parts parts_from
    parts_steps zero text rest js are have e = absurd (no_ok _ rest e)
    parts_steps (suc n) text rest [] are have e = absurd are
    parts_steps (suc n) text rest (j ∷ js) (is, are) have e =
        let next = bind_ok (part text >>= beyond_next closes) (λ (next : Bool × List ℕ). if next.0 then beyond_parts closes part n next.1 else Ok next.1) rest e in
        let mid = bind_ok (part text) (beyond_next closes) next.0 next.1 in
        let after = next_steps mid.0 next.0 mid.2 in
        let first = one text mid.0 j is have.0 mid.1 after.1 in
        steps_on text mid.0 rest first (steps_on mid.0 (next.0).1 rest after.0
        (go next.0 (subst (λ r. Pairs Means (parts_after (parts_from closes part n) r) js) next.1 are) next.2 (λ others are e. parts_steps n others rest js are have.1 e)))
      where
        go : (next : Bool × List ℕ) → Pairs Means (if next.0 then parts_from closes part n next.1 else []) js
            → ◌≡◌ {A = Beyond} (if next.0 then beyond_parts closes part n next.1 else Ok next.1) (Ok rest)
            → ((others : List ℕ) → Pairs Means (parts_from closes part n others) js → beyond_parts closes part n others ≡ Ok rest → Steps others rest) → Steps next.1 rest
        go (true, others) are e more = more others are e
        go (false, others) are e more = steps_none others rest (ok_same others rest e)

    pub group_steps : (text rest : List ℕ) (js : List J) → Pairs Means (parts_in closes part text) js → AllHave Has js → beyond_group closes part text ≡ Ok rest → Steps text rest
    unfolding beyond_group parts_in
    group_steps text rest js are have e = go (begins closes (beyond_white text)) refl are e
      where
        go : (x : Bool) → begins closes (beyond_white text) ≡ x → Pairs Means (if x then [] else parts_from closes part (suc (length text)) text) js
            → ◌≡◌ {A = Beyond} (if x then Ok (drop 1 (beyond_white text)) else beyond_parts closes part (suc (length text)) text) (Ok rest) → Steps text rest
        go true is are e = subst (Steps text) (ok_same (drop 1 (beyond_white text)) rest e) (closed text (beyond_white text) refl is).0
        go false is are e = parts_steps (suc (length text)) text rest js are have e
