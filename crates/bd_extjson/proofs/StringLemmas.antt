-- A string that the second pass skips is one that the lexer of the kit reads.
use Rattle.std.proofs.Common.{◌≡◌, ◌<◌, ◌≤◌, ◌==◌, ◌&&◌, ◌+◌, ◌*◌, inl, inr, refl, sym, ap, ◌∙◌, cond, nat_lt, ℕ, zero, suc, Bool, true, false, List, [], ◌∷◌, ◌++◌}
use Rattle.std.proofs.Common.{length, Option, Some, None, Ok, Err, arith}
use Rattle.std.proofs.Common.{append_assoc, length-append}
use Rattle.std.specs.Prelude.{option_and_then, option_map, if◌then◌else◌}
use Rattle.std.specs.Char.{is_digit, encode_utf8}
use Rattle.std.specs.Result.{result_ok}
use Rattle.std.proofs.lemmas.Bool.{eqb-true, cases_Bool, false≢true, true≢false, and_parts}
use Rattle.json.proofs.Found.{not_found, Some_inj}
use Rattle.json.specs.Text.{content, plain, after_u, after_high, prepend, code_unit, short_escape, is_high_surrogate, is_low_surrogate, surrogate_pair}
use Rattle.json.specs.Word.{is_operator, is_space}
use Rattle.json.specs.Lex.{Lexeme, operator, space, other, Mode, between, in_string, lex_byte, lex}
use Rattle.bd_extjson_fault.specs.JsonSyntax.{Beyond, ◌>>=◌, syntax_at, beyond_word, beyond_hex, beyond_unit, beyond_low, beyond_units, is_short_escape}
use Rattle.bd_extjson_fault.specs.JsonSyntax.{beyond_escape, beyond_character, beyond_items, beyond_string}
use Rattle.bd_extjson.proofs.ByteLemmas.{unless}

-- ---- escapes

-- the number of four hexadecimal digits, and what is after them
abbrev four : List ℕ → Option (ℕ × List ℕ)
four [] = None
four (a ∷ []) = None
four (a ∷ b ∷ []) = None
four (a ∷ b ∷ c ∷ []) = None
four (a ∷ b ∷ c ∷ d ∷ t) = option_map (λ u. (u, t)) (code_unit a b c d)

-- of an escape of four digits
abbrev unit_of : List ℕ → Option (ℕ × List ℕ)
unit_of [] = None
unit_of (s ∷ []) = None
unit_of (s ∷ u ∷ t) = cond ((s == 92) && (u == 117)) (four t) None

four_agrees : (t : List ℕ) → result_ok (beyond_hex t >>= λ a. beyond_hex a.1 >>= λ b. beyond_hex b.1 >>= λ c. beyond_hex c.1 >>= λ d. Ok (a.0 * 4096 + b.0 * 256 + c.0 * 16 + d.0, d.1)) ≡ four t
unfolding beyond_hex code_unit
four_agrees [] = refl
four_agrees (a ∷ []) = elim (cases_Bool (is_digit a 16)) [ inl e ↦ rw e refl | inr e ↦ rw e refl ]
four_agrees (a ∷ b ∷ []) = elim (cases_Bool (is_digit a 16)) [
  | inl e ↦ elim (cases_Bool (is_digit b 16)) [ inl f ↦ rw (e, f) refl | inr f ↦ rw (e, f) refl ]
  | inr e ↦ rw e refl
]
four_agrees (a ∷ b ∷ c ∷ []) = elim (cases_Bool (is_digit a 16)) [
  | inl e ↦ elim (cases_Bool (is_digit b 16)) [
    | inl f ↦ elim (cases_Bool (is_digit c 16)) [ inl g ↦ rw (e, f, g) refl | inr g ↦ rw (e, f, g) refl ]
    | inr f ↦ rw (e, f) refl
  ]
  | inr e ↦ rw e refl
]
four_agrees (a ∷ b ∷ c ∷ d ∷ t) = elim (cases_Bool (is_digit a 16)) [
  | inl e ↦ elim (cases_Bool (is_digit b 16)) [
    | inl f ↦ elim (cases_Bool (is_digit c 16)) [
      | inl g ↦ elim (cases_Bool (is_digit d 16)) [ inl h ↦ rw (e, f, g, h) refl | inr h ↦ rw (e, f, g, h) refl ]
      | inr g ↦ rw (e, f, g) refl
    ]
    | inr f ↦ rw (e, f) refl
  ]
  | inr e ↦ rw e refl
]

unit_agrees : (t : List ℕ) → result_ok (beyond_unit t) ≡ unit_of t
unfolding beyond_unit beyond_word
unit_agrees [] = refl
unit_agrees (s ∷ []) = elim (cases_Bool (s == 92)) [ inl e ↦ rw e refl | inr e ↦ rw e refl ]
unit_agrees (s ∷ u ∷ t) = elim (cases_Bool (s == 92)) [
  | inl e ↦ elim (cases_Bool (u == 117)) [ inl f ↦ rw (e, f) (four_agrees t) | inr f ↦ rw (e, f) refl ]
  | inr e ↦ rw e refl
]

-- what such an escape means, with the text after it
abbrev after_unit : Option (ℕ × List ℕ) → Option (List ℕ)
after_unit o = option_and_then (λ p. cond (is_high_surrogate p.0) (content (after_high p.0) p.1)
    (cond (is_low_surrogate p.0) None (prepend (encode_utf8 p.0) (content plain p.1)))) o

-- what it means after a high surrogate
abbrev after_low : ℕ → Option (ℕ × List ℕ) → Option (List ℕ)
after_low h o = option_and_then (λ p. cond (is_low_surrogate p.0) (prepend (encode_utf8 (surrogate_pair h p.0)) (content plain p.1)) None) o

content_unit : (t : List ℕ) → content after_u t ≡ after_unit (four t)
unfolding content
content_unit [] = refl
content_unit (a ∷ []) = refl
content_unit (a ∷ b ∷ []) = refl
content_unit (a ∷ b ∷ c ∷ []) = refl
content_unit (a ∷ b ∷ c ∷ d ∷ t) = go (code_unit a b c d)
  where
    go : (o : Option ℕ) → option_and_then (λ u. cond (is_high_surrogate u) (content (after_high u) t) (cond (is_low_surrogate u) None (prepend (encode_utf8 u) (content plain t)))) o
        ≡ after_unit (option_map (λ u. (u, t)) o)
    go None = refl
    go (Some u) = refl

content_low : (h : ℕ) (t : List ℕ) → content (after_high h) t ≡ after_low h (unit_of t)
unfolding content
content_low h [] = refl
content_low h (s ∷ []) = refl
content_low h (s ∷ u ∷ []) = elim (cases_Bool ((s == 92) && (u == 117))) [ inl e ↦ rw e refl | inr e ↦ rw e refl ]
content_low h (s ∷ u ∷ a ∷ []) = elim (cases_Bool ((s == 92) && (u == 117))) [ inl e ↦ rw e refl | inr e ↦ rw e refl ]
content_low h (s ∷ u ∷ a ∷ b ∷ []) = elim (cases_Bool ((s == 92) && (u == 117))) [ inl e ↦ rw e refl | inr e ↦ rw e refl ]
content_low h (s ∷ u ∷ a ∷ b ∷ c ∷ []) = elim (cases_Bool ((s == 92) && (u == 117))) [ inl e ↦ rw e refl | inr e ↦ rw e refl ]
content_low h (s ∷ u ∷ a ∷ b ∷ c ∷ d ∷ t) = elim (cases_Bool ((s == 92) && (u == 117))) [ inl e ↦ rw e (go (code_unit a b c d)) | inr e ↦ rw e refl ]
  where
    go : (o : Option ℕ) → option_and_then (λ l. cond (is_low_surrogate l) (prepend (encode_utf8 (surrogate_pair h l)) (content plain t)) None) o ≡ after_low h (option_map (λ u. (u, t)) o)
    go None = refl
    go (Some u) = refl

-- the digits of such an escape, which mean the same in any text
record UnitAt (t : List ℕ) (u : ℕ) (rest : List ℕ) : Type 0 where
  digits : List ℕ
  whole : t ≡ digits ++ rest
  same : (any : List ℕ) → four (digits ++ any) ≡ Some (u, any)
  skips : (any : List ℕ) → lex in_string (digits ++ any) ≡ lex in_string any

passes_class : (o s : Bool) (x : ℕ) (xs : List ℕ) (k : Mode → List Lexeme) → lex_byte in_string (cond o operator (cond s space other)) x xs k ≡ k in_string
passes_class true s x xs k = refl
passes_class false true x xs k = refl
passes_class false false x xs k = refl

-- the lexer continues in a string after a byte that is no quotation mark and no backslash
skip_byte : (x : ℕ) (xs : List ℕ) → (x == 34) ≡ false → (x == 92) ≡ false → lex in_string (x ∷ xs) ≡ lex in_string xs
unfolding lex
skip_byte x xs q b = rw (q, b) (passes_class (is_operator x) (is_space x) x xs (λ m. lex m xs))

not_this : (c x : ℕ) → is_digit c 16 ≡ false → is_digit x 16 ≡ true → (x == c) ≡ false
not_this c x never h = go (x == c) refl
  where
    go : (b : Bool) → (x == c) ≡ b → (x == c) ≡ false
    go true e = absurd (false≢true (sym never ∙ ap (λ y. is_digit y 16) (sym (eqb-true x c e)) ∙ h))
    go false e = e

skip_hex : (x : ℕ) (xs : List ℕ) → is_digit x 16 ≡ true → lex in_string (x ∷ xs) ≡ lex in_string xs
skip_hex x xs h = skip_byte x xs (not_this 34 x refl h) (not_this 92 x refl h)

are_hex : (a b c d u : ℕ) → code_unit a b c d ≡ Some u → (is_digit a 16 ≡ true) × (is_digit b 16 ≡ true) × (is_digit c 16 ≡ true) × (is_digit d 16 ≡ true)
unfolding code_unit
are_hex a b c d u e = elim (cases_Bool (is_digit a 16 && is_digit b 16 && is_digit c 16 && is_digit d 16)) [
  | inl all ↦
      let p = and_parts (is_digit a 16 && is_digit b 16 && is_digit c 16) (is_digit d 16) all in
      let q = and_parts (is_digit a 16 && is_digit b 16) (is_digit c 16) p.0 in
      let r = and_parts (is_digit a 16) (is_digit b 16) q.0 in
      (r.0, r.1, q.1, p.1)
  | inr none ↦ not_found u (rw none at e)
]

digits_at : (a b c d : ℕ) (t : List ℕ) (u : ℕ) (rest : List ℕ) (o : Option ℕ) → code_unit a b c d ≡ o
    → option_map {U = ℕ × List ℕ} (λ n. (n, t)) o ≡ Some (u, rest) → UnitAt (a ∷ b ∷ c ∷ d ∷ t) u rest
digits_at a b c d t u rest None is e = absurd cc
digits_at a b c d t u rest (Some v) is e =
    let hex = are_hex a b c d v is in
    let both : (v, t) ≡ (u, rest) = Some_inj _ _ e in
    let value : v ≡ u = ap (λ p. p.0) both in
    let tail : t ≡ rest = ap (λ p. p.1) both in
    record {
      digits = a ∷ b ∷ c ∷ d ∷ [];
      whole = ap (λ l. a ∷ b ∷ c ∷ d ∷ l) tail;
      same = λ any. rw is (ap (λ n. Some (n, any)) value);
      skips = λ any. skip_hex a (b ∷ c ∷ d ∷ any) hex.0 ∙ skip_hex b (c ∷ d ∷ any) hex.1 ∙ skip_hex c (d ∷ any) hex.2 ∙ skip_hex d any hex.3;
    }

unit_at : (t : List ℕ) (u : ℕ) (rest : List ℕ) → four t ≡ Some (u, rest) → UnitAt t u rest
unit_at [] u rest e = absurd cc
unit_at (a ∷ []) u rest e = absurd cc
unit_at (a ∷ b ∷ []) u rest e = absurd cc
unit_at (a ∷ b ∷ c ∷ []) u rest e = absurd cc
unit_at (a ∷ b ∷ c ∷ d ∷ t) u rest e = digits_at a b c d t u rest (code_unit a b c d) refl e

-- ---- the characters of a string

-- one character or escape, read and passed the same before any text
record CharacterAt (text rest : List ℕ) : Type 0 where
  prefix : List ℕ
  bytes : List ℕ
  whole : text ≡ prefix ++ rest
  read : (any : List ℕ) → content plain (prefix ++ any) ≡ prepend bytes (content plain any)
  skips : (any : List ℕ) → lex in_string (prefix ++ any) ≡ lex in_string any
  some : 0 < length prefix

-- what was passed is a character; else the lexer reads no string here
abbrev MeetsCharacter : List ℕ → Beyond → Type 0
MeetsCharacter text (Ok rest) = CharacterAt text rest
MeetsCharacter text (Err stop) = content plain text ≡ None

short_is : (b : ℕ) → is_short_escape b ≡ true → (k : ℕ) × (short_escape b ≡ Some k)
unfolding short_escape
short_is b =
    let P : ℕ → Type 0 = λ y. is_short_escape y ≡ true → (k : ℕ) × (short_escape y ≡ Some k) in
    unless P 34 b (λ e. (34, refl)) (λ e1. unless P 92 b (λ e. (92, refl)) (λ e2. unless P 47 b (λ e. (47, refl)) (λ e3. unless P 98 b (λ e. (8, refl)) (λ e4.
    unless P 102 b (λ e. (12, refl)) (λ e5. unless P 110 b (λ e. (10, refl)) (λ e6. unless P 114 b (λ e. (13, refl)) (λ e7. unless P 116 b (λ e. (9, refl))
    (λ e8 e. absurd (false≢true (rw (e1, e2, e3, e4, e5, e6, e7, e8) at e))))))))))

no_short : (b : ℕ) → is_short_escape b ≡ false → short_escape b ≡ None
unfolding short_escape
no_short b =
    let P : ℕ → Type 0 = λ y. is_short_escape y ≡ false → short_escape y ≡ None in
    unless P 34 b (λ e. absurd (true≢false e)) (λ e1. unless P 92 b (λ e. absurd (true≢false e)) (λ e2. unless P 47 b (λ e. absurd (true≢false e)) (λ e3. unless P 98 b (λ e. absurd (true≢false e)) (λ e4.
    unless P 102 b (λ e. absurd (true≢false e)) (λ e5. unless P 110 b (λ e. absurd (true≢false e)) (λ e6. unless P 114 b (λ e. absurd (true≢false e)) (λ e7. unless P 116 b (λ e. absurd (true≢false e))
    (λ e8 e. rw (e1, e2, e3, e4, e5, e6, e7, e8) refl))))))))

-- an escape of four digits, or two for a pair of surrogates
content_escape : (t : List ℕ) → content plain (92 ∷ 117 ∷ t) ≡ after_unit (four t)
unfolding content
content_escape t = content_unit t

skip_escape : (b : ℕ) (t : List ℕ) → lex in_string (92 ∷ b ∷ t) ≡ lex in_string t
unfolding lex
skip_escape b t = refl

-- an escape of four digits, and what is after it
record EscapeAt (t : List ℕ) (u : ℕ) (rest : List ℕ) : Type 0 where
  digits : List ℕ
  whole : t ≡ 92 ∷ 117 ∷ digits
  unit : UnitAt digits u rest

escape_at : (t : List ℕ) (u : ℕ) (rest : List ℕ) → unit_of t ≡ Some (u, rest) → EscapeAt t u rest
escape_at [] u rest e = absurd cc
escape_at (a ∷ []) u rest e = absurd cc
escape_at (a ∷ b ∷ t) u rest e = go (a == 92) (b == 117) refl refl (four t) refl
  where
    go : (x y : Bool) → (a == 92) ≡ x → (b == 117) ≡ y → (o : Option (ℕ × List ℕ)) → four t ≡ o → EscapeAt (a ∷ b ∷ t) u rest
    go false y p q o is = not_found (u, rest) (rw p at e)
    go true false p q o is = not_found (u, rest) (rw (p, q) at e)
    go true true p q o is = record {
      digits = t;
      whole = λ i. eqb-true a 92 p i ∷ eqb-true b 117 q i ∷ t;
      unit = unit_at t u rest (rw (p, q) at e);
    }

module _ (text r : List ℕ) (u : ℕ) (d : UnitAt text u r) (high : is_high_surrogate u ≡ true) where
  four_first : four text ≡ Some (u, r)
  four_first = ap four d.whole ∙ d.same r

  content_high : content plain (92 ∷ 117 ∷ text) ≡ after_low u (unit_of r)
  content_high = content_escape text ∙ rw (four_first, high) (content_low u r)

  pair_at : (low : ℕ) (rest : List ℕ) → EscapeAt r low rest → is_low_surrogate low ≡ true → CharacterAt (92 ∷ 117 ∷ text) rest
  pair_at low rest e is =
      let prefix = d.digits ++ 92 ∷ 117 ∷ e.unit.digits in
      let regroup : (any : List ℕ) → prefix ++ any ≡ d.digits ++ 92 ∷ 117 ∷ (e.unit.digits ++ any) = λ any. append_assoc d.digits (92 ∷ 117 ∷ e.unit.digits) any in
      record {
        prefix = 92 ∷ 117 ∷ prefix;
        bytes = encode_utf8 (surrogate_pair u low);
        whole = ap (λ l. 92 ∷ 117 ∷ l) (d.whole ∙ ap (λ l. d.digits ++ l) (e.whole ∙ ap (λ l. 92 ∷ 117 ∷ l) e.unit.whole) ∙ sym (regroup rest));
        read = λ any. content_escape (prefix ++ any) ∙ rw (regroup any, d.same (92 ∷ 117 ∷ (e.unit.digits ++ any)), high)
            (content_low u (92 ∷ 117 ∷ (e.unit.digits ++ any)) ∙ rw (e.unit.same any, is) refl);
        skips = λ any. skip_escape 117 (prefix ++ any) ∙ ap (lex in_string) (regroup any) ∙ d.skips (92 ∷ 117 ∷ (e.unit.digits ++ any))
            ∙ skip_escape 117 (e.unit.digits ++ any) ∙ e.unit.skips any;
        some = omega arith;
      }

  low_at : MeetsCharacter (92 ∷ 117 ∷ text) (beyond_low (92 ∷ 117 ∷ text) (beyond_unit r))
  unfolding beyond_low
  low_at = (elim (beyond_unit r) as (λ m. result_ok m ≡ unit_of r → MeetsCharacter (92 ∷ 117 ∷ text) (beyond_low (92 ∷ 117 ∷ text) m)) [
    | Ok p ↦ λ is. low_or_not p.0 p.1 (sym is) (is_low_surrogate p.0) refl
    | Err stop ↦ λ is. neither (stop.remaining == 0) (Err stop) (syntax_at (92 ∷ 117 ∷ text)) (content_high ∙ ap (after_low u) (sym is)) (content_high ∙ ap (after_low u) (sym is))
  ]) (unit_agrees r)
    where
      low_or_not : (low : ℕ) (rest : List ℕ) → unit_of r ≡ Some (low, rest) → (b : Bool) → is_low_surrogate low ≡ b
          → MeetsCharacter (92 ∷ 117 ∷ text) (if b then Ok rest else syntax_at (92 ∷ 117 ∷ text))
      low_or_not low rest is true e = pair_at low rest (escape_at r low rest is) e
      low_or_not low rest is false e = content_high ∙ rw (is, e) refl

      neither : (b : Bool) (x y : Beyond) → MeetsCharacter (92 ∷ 117 ∷ text) x → MeetsCharacter (92 ∷ 117 ∷ text) y → MeetsCharacter (92 ∷ 117 ∷ text) (if b then x else y)
      neither true x y p q = p
      neither false x y p q = q

units_meet : (t : List ℕ) → MeetsCharacter (92 ∷ 117 ∷ t) (beyond_units (92 ∷ 117 ∷ t))
unfolding beyond_units
units_meet t = (elim (beyond_unit (92 ∷ 117 ∷ t)) as (λ m. result_ok m ≡ four t → MeetsCharacter (92 ∷ 117 ∷ t)
    (m >>= λ u. if is_high_surrogate u.0 then beyond_low (92 ∷ 117 ∷ t) (beyond_unit u.1) else (if is_low_surrogate u.0 then syntax_at (92 ∷ 117 ∷ t) else Ok u.1))) [
      | Ok p ↦ λ is. one p.0 p.1 (sym is) (is_high_surrogate p.0) (is_low_surrogate p.0) refl refl
      | Err stop ↦ λ is. content_escape t ∙ ap after_unit (sym is)
    ]) (unit_agrees (92 ∷ 117 ∷ t))
  where
    one : (u : ℕ) (r : List ℕ) → four t ≡ Some (u, r) → (h l : Bool) → is_high_surrogate u ≡ h → is_low_surrogate u ≡ l
        → MeetsCharacter (92 ∷ 117 ∷ t) (if h then beyond_low (92 ∷ 117 ∷ t) (beyond_unit r) else (if l then syntax_at (92 ∷ 117 ∷ t) else Ok r))
    one u r is true l e f = low_at t r u (unit_at t u r is) e
    one u r is false true e f = content_escape t ∙ rw (is, e, f) refl
    one u r is false false e f = let d = unit_at t u r is in record {
      prefix = 92 ∷ 117 ∷ d.digits;
      bytes = encode_utf8 u;
      whole = ap (λ l. 92 ∷ 117 ∷ l) d.whole;
      read = λ any. content_escape (d.digits ++ any) ∙ rw (d.same any, e, f) refl;
      skips = λ any. skip_escape 117 (d.digits ++ any) ∙ d.skips any;
      some = omega arith;
    }

escape_meets : (t : List ℕ) → MeetsCharacter (92 ∷ t) (beyond_escape (92 ∷ t) t)
unfolding beyond_escape content
escape_meets [] = refl
escape_meets (b ∷ t) = unless P 117 b (units_meet t) (λ e. short e (is_short_escape b) refl)
  where
    P : ℕ → Type 0
    P y = MeetsCharacter (92 ∷ y ∷ t) (beyond_escape (92 ∷ y ∷ t) (y ∷ t))

    short : (b == 117) ≡ false → (s : Bool) → is_short_escape b ≡ s → P b
    short e true f = let k = short_is b f in rw (e, f) (record {
      prefix = 92 ∷ b ∷ [];
      bytes = k.0 ∷ [];
      whole = refl;
      read = λ any. rw (e, k.1) refl;
      skips = λ any. skip_escape b any;
      some = omega arith;
    })
    short e false f = rw (e, f) (rw (e, no_short b f) refl)

character_meets : (x : ℕ) (t : List ℕ) → (x == 34) ≡ false → MeetsCharacter (x ∷ t) (beyond_character (x ∷ t))
unfolding beyond_character content
character_meets x t q = unless P 92 x (λ q. escape_meets t) (λ e q. plain_or_not e q (nat_lt x 32) refl) q
  where
    P : ℕ → Type 0
    P y = (y == 34) ≡ false → MeetsCharacter (y ∷ t) (beyond_character (y ∷ t))

    plain_or_not : (x == 92) ≡ false → (x == 34) ≡ false → (c : Bool) → nat_lt x 32 ≡ c → MeetsCharacter (x ∷ t) (beyond_character (x ∷ t))
    plain_or_not e q true f = rw (e, f) (rw (q, e, f) refl)
    plain_or_not e q false f = rw (e, f) (record {
      prefix = x ∷ [];
      bytes = x ∷ [];
      whole = refl;
      read = λ any. rw (q, e, f) refl;
      skips = λ any. skip_byte x any q e;
      some = omega arith;
    })

-- ---- the rest of a string after its first quotation mark

-- the rest of a string, which is the same before any text
pub record StringAt (text rest : List ℕ) : Type 0 where
  pub prefix : List ℕ
  pub value : List ℕ
  pub whole : text ≡ prefix ++ 34 ∷ rest
  pub read : (any : List ℕ) → content plain (prefix ++ 34 ∷ any) ≡ Some value
  pub skips : (any : List ℕ) → lex in_string (prefix ++ 34 ∷ any) ≡ lex between any

-- what was passed is the rest of a string; else the lexer reads no string here
abbrev pub MeetsString : List ℕ → Beyond → Type 0
MeetsString text (Ok rest) = StringAt text rest
MeetsString text (Err stop) = content plain text ≡ None

module _ (text mid : List ℕ) (c : CharacterAt text mid) where
  longer : (result : Beyond) → MeetsString mid result → MeetsString text result
  longer (Err stop) e = ap (content plain) c.whole ∙ c.read mid ∙ ap (prepend c.bytes) e
  longer (Ok rest) s = record {
    prefix = c.prefix ++ s.prefix;
    value = c.bytes ++ s.value;
    whole = c.whole ∙ ap (λ l. c.prefix ++ l) s.whole ∙ sym (append_assoc c.prefix s.prefix (34 ∷ rest));
    read = λ any. ap (content plain) (append_assoc c.prefix s.prefix (34 ∷ any)) ∙ c.read (s.prefix ++ 34 ∷ any) ∙ ap (prepend c.bytes) (s.read any);
    skips = λ any. ap (lex in_string) (append_assoc c.prefix s.prefix (34 ∷ any)) ∙ c.skips (s.prefix ++ 34 ∷ any) ∙ s.skips any;
  }

  shorter : length mid < length text
  shorter = omega (arith, c.some, ap length c.whole, length-append c.prefix mid)

string_from : (n : ℕ) (text : List ℕ) → length text ≤ n → MeetsString text (beyond_items (λ b. b == 34) beyond_character n text)
unfolding beyond_items content lex beyond_character
string_from zero [] le = refl
string_from zero (x ∷ t) le = absurd (omega (arith, le))
string_from (suc n) [] le = refl
string_from (suc n) (x ∷ t) le = unless P 34 x closed (going (string_from n))
  where
    P : ℕ → Type 0
    P y = MeetsString (y ∷ t) (beyond_items (λ b. b == 34) beyond_character (suc n) (y ∷ t))

    closed : P 34
    closed = record { prefix = []; value = []; whole = refl; read = λ any. refl; skips = λ any. refl }

    going : ((mid : List ℕ) → length mid ≤ n → MeetsString mid (beyond_items (λ b. b == 34) beyond_character n mid)) → (x == 34) ≡ false → P x
    going more q = rw q (go (beyond_character (x ∷ t)) (character_meets x t q))
      where
        go : (r : Beyond) → MeetsCharacter (x ∷ t) r → MeetsString (x ∷ t) (r >>= beyond_items (λ b. b == 34) beyond_character n)
        go (Err stop) e = e
        go (Ok mid) c = longer (x ∷ t) mid c _ (more mid (omega (arith, le, shorter (x ∷ t) mid c)))

-- the second pass skips the strings that the lexer reads
pub string_meets : (text : List ℕ) → MeetsString text (beyond_string text)
unfolding beyond_string
string_meets text = string_from (length text) text (omega arith)
