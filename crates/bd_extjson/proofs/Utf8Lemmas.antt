-- The contents of a string in a text that is UTF-8 are UTF-8 too, escapes included.
use Rattle.std.proofs.Common.{◌≡◌, ◌≤◌, ◌<◌, ℕ, zero, suc, ◌+◌, ◌*◌, Bool, true, false, cond, ◌&&◌, List, [], ◌∷◌, ◌++◌, length, get_or, Option, Some, None, inl, inr}
use Rattle.std.proofs.Common.{refl, sym, ap, ◌∙◌, subst, arith, length-append, append-nil, append_assoc, ltb-true, leb-true, drop, rules}
use Rattle.std.specs.Prelude.{IsUtf8, nat_lt, nat_le, ◌==◌, option_and_then}
use Rattle.std.specs.Char.{digit_value, is_digit, encode_utf8}
use Rattle.std.proofs.lemmas.Bool.{and_parts, cases_lt, cases_Bool, eqb-true}
use Rattle.std.proofs.lemmas.Bool.Decides.{nat_tests}
use Rattle.std.proofs.lemmas.Str.{IsUtf8-append, IsUtf8-nil, IsUtf8-encode, IsUtf8-past_char, encode_ascii, inside_one, length-encode, len_utf8_bounds}
use Rattle.std.proofs.lemmas.Str.{IsUtf8-drop, IsUtf8-from_is_utf8, IsCharBoundary-after_ascii}
use lib.Utf8.{scalar, scalars, encode, encodes, low_scalar}
use Rattle.json.specs.Text.{content, plain, after_backslash, after_u, after_high, prepend, code_unit, short_escape, is_high_surrogate, is_low_surrogate, surrogate_pair}
use Rattle.std.specs.List.{AllByRecursion}
use Rattle.std.specs.Str.{is_utf8}
use Rattle.std.proofs.lemmas.List.{drop_more, drop_all}
use Rattle.bd_value.specs.Limits.{most_brackets}
use Rattle.json.specs.Token as token
use Rattle.json.specs.Token.{Token}
use Rattle.json.specs.Lex.{Lexeme, comma, colon, Class, quote, backslash, operator, space, other, class, operator_lexeme, string_token, Mode, between, in_word}
use Rattle.json.specs.Lex.{in_string, in_escape, lex_byte, lex, Place, fresh, after_value, after_comma, after_key, may_begin, may_close, begins_colon}
use Rattle.json.specs.Lex.{if_allowed, place_token, punctuate, tokens}
use Rattle.json.specs.Lex as lexing
use Rattle.json.specs.Word.{head, number_before, after_number, word}
use Rattle.json.specs.Json as kit
use Rattle.json.specs.Json.{Json, Parse, parse_map, after_end_array, read_key, items_step, members_step, items, members, value_with, value, if_last}
use Rattle.bd_extjson.specs.Read.{json}

-- if there is a value, P holds of it
abbrev pub Holds : {A : Type 0} → (A → Type 0) → Option A → Type 0
Holds P None = Unit {0}
Holds P (Some x) = P x

-- and so of the result of f for it
pub then : {A B : Type 0} {P : A → Type 0} (Q : B → Type 0) (f : A → Option B) (o : Option A) → ((x : A) → P x → Holds Q (f x)) → Holds P o → Holds Q (option_and_then f o)
then Q f None h p = tt
then Q f (Some x) h p = h x p

-- P holds of a choice if it holds of the alternative that the test chooses
pub when : {A : Type 0} (P : A → Type 0) (b : Bool) (x y : A) → (b ≡ true → P x) → (b ≡ false → P y) → P (cond b x y)
when P true x y p q = p refl
when P false x y p q = q refl

abbrev IsTextIfAny : Option (List ℕ) → Type 0
IsTextIfAny = Holds IsUtf8

prepended : (bs : List ℕ) (o : Option (List ℕ)) → IsUtf8 bs → IsTextIfAny o → IsTextIfAny (prepend bs o)
prepended bs None p q = tt
prepended bs (Some s) p q = IsUtf8-append bs s p q

prepend-prepend : (a b : List ℕ) (o : Option (List ℕ)) → prepend a (prepend b o) ≡ prepend (a ++ b) o
prepend-prepend a b None = refl
prepend-prepend a b (Some s) = ap Some (sym (append_assoc a b s))

prepend-nil : (o : Option (List ℕ)) → prepend [] o ≡ o
prepend-nil None = refl
prepend-nil (Some s) = refl

-- ---- a byte below 128 is a character

one_ascii : (x : ℕ) → x < 128 → IsUtf8 (x ∷ [])
one_ascii x small = subst IsUtf8 (encode_ascii x small) (IsUtf8-encode x (low_scalar x (omega arith)))

after_ascii : (x : ℕ) (xs : List ℕ) → x < 128 → IsUtf8 (x ∷ xs) → IsUtf8 xs
after_ascii x xs small utf8 = IsUtf8-past_char (x ∷ xs) xs x utf8 (sym (ap (λ l. l ++ xs) (encode_ascii x small)))

-- ---- other characters have only bytes from 128 on

abbrev AreHigh : List ℕ → Type 0
AreHigh bs = (k : ℕ) → k < length bs → 128 ≤ get_or bs k 0

encoded_high : (c : ℕ) → 128 ≤ c → AreHigh (encode c)
encoded_high c big k below = elim (cases_lt (get_or (encode c) k 0) 128) [
  | inl low ↦ absurd (omega (arith, inside_one c [] (encode c) k (sym (append-nil (encode c))) below low))
  | inr h ↦ h
]

high_byte : (x : ℕ) (r : Option (List ℕ)) (escaped : Option (List ℕ)) → 128 ≤ x
    → cond (x == 34) (Some []) (cond (x == 92) escaped (cond (nat_lt x 32) None r)) ≡ r
high_byte x r escaped high = grind (arith, nat_tests)

high_run : (bs rest : List ℕ) → AreHigh bs → content plain (bs ++ rest) ≡ prepend bs (content plain rest)
unfolding content
high_run [] rest high = sym (prepend-nil (content plain rest))
high_run (x ∷ bs) rest high =
    high_byte x (prepend (x ∷ []) (content plain (bs ++ rest))) (content after_backslash (bs ++ rest)) (high 0 (omega arith))
    ∙ ap (prepend (x ∷ [])) (high_run bs rest (λ k below. high (suc k) (omega arith))) ∙ prepend-prepend (x ∷ []) bs (content plain rest)

-- ---- escapes

digit_small : (a : ℕ) → is_digit a 16 ≡ true → (a < 128) × (digit_value a < 16)
digit_small a is = let v = ltb-true (digit_value a) 16 is in elim (cases_lt a 128) [
  | inl small ↦ (small, v)
  | inr big ↦ absurd (grind (arith, nat_tests, v))
]

unit_small : (a b c d u : ℕ) → code_unit a b c d ≡ Some u → (a < 128) × (b < 128) × (c < 128) × (d < 128) × (u < 65536)
unfolding code_unit
unit_small a b c d u e = elim (cases_Bool (is_digit a 16 && is_digit b 16 && is_digit c 16 && is_digit d 16)) [
  | inl all ↦
      let abc = and_parts (is_digit a 16 && is_digit b 16 && is_digit c 16) (is_digit d 16) all in
      let ab = and_parts (is_digit a 16 && is_digit b 16) (is_digit c 16) abc.0 in
      let both = and_parts (is_digit a 16) (is_digit b 16) ab.0 in
      let p = digit_small a both.0 in
      let q = digit_small b both.1 in
      let r = digit_small c ab.1 in
      let s = digit_small d abc.1 in
      let is : digit_value a * 4096 + digit_value b * 256 + digit_value c * 16 + digit_value d ≡ u = cc (rw all at e) in
      (p.0, q.0, r.0, s.0, omega (arith, is, p.1, q.1, r.1, s.1))
  | inr none ↦ cc (rw none at e)
]

scalar_unit : (u : ℕ) → u < 65536 → is_high_surrogate u ≡ false → is_low_surrogate u ≡ false → scalar u ≡ true
scalar_unit u small high low = grind (arith, nat_tests, high, low)

scalar_above : (c : ℕ) → 57344 ≤ c → c < 1114112 → scalar c ≡ true
scalar_above c from to = grind (arith, nat_tests)

scalar_pair : (h l : ℕ) → is_high_surrogate h ≡ true → is_low_surrogate l ≡ true → scalar (surrogate_pair h l) ≡ true
scalar_pair h l high low =
    let a = and_parts (nat_le 55296 h) (nat_lt h 56320) high in
    let b = and_parts (nat_le 56320 l) (nat_lt l 57344) low in
    let h_from = leb-true 55296 h a.0 in
    let h_to = ltb-true h 56320 a.1 in
    let l_from = leb-true 56320 l b.0 in
    let l_to = ltb-true l 57344 b.1 in
    scalar_above (surrogate_pair h l) (omega arith) (omega arith)

short_small : (x : ℕ) → x < 128 → (k : ℕ) → short_escape x ≡ Some k → k < 128
unfolding short_escape
short_small x small k e = grind (arith, nat_tests, e)

short_high : (x : ℕ) → 128 ≤ x → short_escape x ≡ None
unfolding short_escape
short_high x high = grind (arith, nat_tests)

-- ---- from any character on

abbrev Below : ℕ → Type 0
Below n = (ys : List ℕ) → length ys < n → IsUtf8 ys → IsTextIfAny (content plain ys)

after_digits : (a b c d : ℕ) (xs : List ℕ) → a < 128 → b < 128 → c < 128 → d < 128 → IsUtf8 (a ∷ b ∷ c ∷ d ∷ xs) → IsUtf8 xs
after_digits a b c d xs p q r s utf8 =
    after_ascii d xs s (after_ascii c (d ∷ xs) r (after_ascii b (c ∷ d ∷ xs) q (after_ascii a (b ∷ c ∷ d ∷ xs) p utf8)))

-- the character of four hexadecimal digits, and the rest of the text after them
unit_text : (a b c d : ℕ) (xs : List ℕ) (f : ℕ → Option (List ℕ)) → IsUtf8 (a ∷ b ∷ c ∷ d ∷ xs) → ((u : ℕ) → u < 65536 → IsUtf8 xs → IsTextIfAny (f u))
    → IsTextIfAny (option_and_then f (code_unit a b c d))
unit_text a b c d xs f utf8 h = unit (code_unit a b c d) refl
  where
    unit : (o : Option ℕ) → code_unit a b c d ≡ o → IsTextIfAny (option_and_then f o)
    unit None is = tt
    unit (Some u) is =
        let small = unit_small a b c d u is in
        h u small.4 (after_digits a b c d xs small.0 small.1 small.2 small.3 utf8)

after_high_text : (n h : ℕ) (xs : List ℕ) → Below n → length xs ≤ n → is_high_surrogate h ≡ true → IsUtf8 xs → IsTextIfAny (content (after_high h) xs)
unfolding content
after_high_text n h (s ∷ u ∷ a ∷ b ∷ c ∷ d ∷ xs) below le high utf8 =
    when IsTextIfAny ((s == 92) && (u == 117)) _ None (λ is.
    let p = and_parts (s == 92) (u == 117) is in
    let one = after_ascii s (u ∷ a ∷ b ∷ c ∷ d ∷ xs) (omega (arith, eqb-true s 92 p.0)) utf8 in
    let two = after_ascii u (a ∷ b ∷ c ∷ d ∷ xs) (omega (arith, eqb-true u 117 p.1)) one in
    unit_text a b c d xs _ two (λ l small rest. when IsTextIfAny (is_low_surrogate l) _ None (λ low.
    prepended (encode_utf8 (surrogate_pair h l)) (content plain xs) (IsUtf8-encode (surrogate_pair h l) (scalar_pair h l high low)) (below xs (omega arith) rest)) (λ e. tt))) (λ e. tt)
after_high_text n h _ below le high utf8 = tt

after_u_text : (n : ℕ) (xs : List ℕ) → Below n → length xs ≤ n → IsUtf8 xs → IsTextIfAny (content after_u xs)
unfolding content
after_u_text n (a ∷ b ∷ c ∷ d ∷ xs) below le utf8 =
    unit_text a b c d xs _ utf8 (λ u small rest. when IsTextIfAny (is_high_surrogate u) _ _ (λ high. after_high_text n u xs below (omega arith) high rest) (λ not_high.
    when IsTextIfAny (is_low_surrogate u) None _ (λ e. tt) (λ not_low.
    prepended (encode_utf8 u) (content plain xs) (IsUtf8-encode u (scalar_unit u small not_high not_low)) (below xs (omega arith) rest))))
after_u_text n _ below le utf8 = tt

after_backslash_text : (n : ℕ) (xs : List ℕ) → Below n → length xs ≤ n → IsUtf8 xs → IsTextIfAny (content after_backslash xs)
unfolding content
after_backslash_text n [] below le utf8 = tt
after_backslash_text n (x ∷ xs) below le utf8 = elim (cases_lt x 128) [
  | inl small ↦
      let rest = after_ascii x xs small utf8 in
      when IsTextIfAny (x == 117) _ _ (λ e. after_u_text n xs below (omega arith) rest) (λ e. short (short_escape x) refl small rest)
  | inr high ↦ subst IsTextIfAny (sym (none high)) tt
]
  where
    short : (o : Option ℕ) → short_escape x ≡ o → x < 128 → IsUtf8 xs → IsTextIfAny (option_and_then (λ c. prepend (c ∷ []) (content plain xs)) o)
    short None is small rest = tt
    short (Some k) is small rest = prepended (k ∷ []) (content plain xs) (one_ascii k (short_small x small k is)) (below xs (omega arith) rest)

    none : 128 ≤ x → cond (x == 117) (content after_u xs) (option_and_then (λ c. prepend (c ∷ []) (content plain xs)) (short_escape x)) ≡ None
    none high = rw (short_high x high) (grind (arith, nat_tests))

plain_chars : (n : ℕ) (cs : List ℕ) → length (encodes cs) ≤ n → scalars cs ≡ true → IsTextIfAny (content plain (encodes cs))
unfolding content
plain_chars n [] le ok = tt
plain_chars zero (c ∷ cs) le ok = absurd (omega (arith, length-append (encode c) (encodes cs), length-encode c, (len_utf8_bounds c).0))
plain_chars (suc n) (c ∷ cs) le ok =
    let xs = encodes cs in
    let p = and_parts (scalar c) (scalars cs) ok in
    let shorter : length xs ≤ n = omega (arith, length-append (encode c) xs, length-encode c, (len_utf8_bounds c).0) in
    let more = plain_chars n cs shorter p.1 in
    elim (cases_lt c 128) [
      | inl small ↦
          let same = ap (λ (l : List ℕ). l ++ xs) (encode_ascii c small) in
          let below : Below n = λ ys lt u. subst (λ (l : List ℕ). IsTextIfAny (content plain l)) u.1.1 (plain_chars n u.0 (omega (arith, ap length u.1.1)) u.1.0) in
          subst (λ (l : List ℕ). IsTextIfAny (content plain l)) (sym same)
          (when IsTextIfAny (c == 34) (Some []) _ (λ e. IsUtf8-nil) (λ e.
          when IsTextIfAny (c == 92) _ _ (λ e. after_backslash_text n xs below shorter (cs, (p.1, refl))) (λ e.
          when IsTextIfAny (nat_lt c 32) None _ (λ e. tt) (λ e. prepended (c ∷ []) (content plain xs) (one_ascii c small) more))))
      | inr high ↦
          subst IsTextIfAny (sym (high_run (encode c) xs (encoded_high c high))) (prepended (encode c) (content plain xs) (IsUtf8-encode c p.0) more)
    ]

pub plain_text : (xs : List ℕ) → IsUtf8 xs → IsTextIfAny (content plain xs)
plain_text xs utf8 = subst (λ (l : List ℕ). IsTextIfAny (content plain l)) utf8.1.1 (plain_chars (length (encodes utf8.0)) utf8.0 (omega arith) utf8.1.0)

-- ---- tokens

abbrev IsTextToken : Token → Type 0
IsTextToken (token.key s) = IsUtf8 s
IsTextToken (token.string s) = IsUtf8 s
IsTextToken _ = Unit {0}

abbrev AreTextTokens : List Token → Type 0
AreTextTokens = AllByRecursion IsTextToken

abbrev IsTextLexeme : Lexeme → Type 0
IsTextLexeme (lexing.token t) = IsTextToken t
IsTextLexeme _ = Unit {0}

abbrev AreTextLexemes : List Lexeme → Type 0
AreTextLexemes = AllByRecursion IsTextLexeme

-- ---- literals and operators

number_text : (t : List ℕ) (o : Option (List ℕ)) → IsTextToken (number_before t o)
number_text t None = tt
number_text t (Some rest) = search rules

word_text : (t : List ℕ) → IsTextToken (word t)
unfolding word
word_text t =
    when IsTextToken (head t == 116) _ _ (λ e. search rules) (λ e. when IsTextToken (head t == 102) _ _ (λ e. search rules)
    (λ e. when IsTextToken (head t == 110) _ _ (λ e. search rules) (λ e. number_text t (after_number t))))

operator_text : (x : ℕ) → IsTextLexeme (operator_lexeme x)
operator_text x = search rules

string_text : (o : Option (List ℕ)) → Holds IsUtf8 o → IsTextToken (string_token o)
string_text None p = tt
string_text (Some s) p = p

-- ---- lexemes

is_quote : (x : ℕ) → class x ≡ quote → x ≡ 34
is_quote x e = grind (arith, nat_tests, e)

byte_texts : (m : Mode) (c : Class) (x : ℕ) (xs : List ℕ) (k : Mode → List Lexeme) → (c ≡ quote → Holds IsUtf8 (content plain xs))
    → ((next : Mode) → AreTextLexemes (k next)) → AreTextLexemes (lex_byte m c x xs k)
byte_texts between quote x xs k text all = (string_text (content plain xs) (text refl), all in_string)
byte_texts between backslash x xs k text all = (tt, all in_word)
byte_texts between operator x xs k text all = (operator_text x, all between)
byte_texts between other x xs k text all = (word_text (x ∷ xs), all in_word)
byte_texts in_word operator x xs k text all = (operator_text x, all between)
byte_texts in_string quote x xs k text all = all between
byte_texts _ _ x xs k text all = all _

module _ (text : List ℕ) (utf8 : IsUtf8 text) where
  text_after : (i : ℕ) → i < length text → get_or text i 0 ≡ 34 → Holds IsUtf8 (content plain (drop (i + 1) text))
  text_after i lt is =
      let bound = IsCharBoundary-after_ascii text i utf8 lt (omega (arith, is)) in
      plain_text (drop (i + 1) text) (IsUtf8-drop text (i + 1) utf8 bound)

  lex_texts : (n i : ℕ) (m : Mode) → length text ≤ i + n → AreTextLexemes (lex m (drop i text))
  unfolding lex
  lex_texts zero i m le = rw (drop_all i text (omega arith)) tt
  lex_texts (suc n) i m le = elim (cases_lt i (length text)) [
    | inl lt ↦
        let x = get_or text i 0 in
        let xs = drop (i + 1) text in
        rw (drop_more text i 0 lt)
        (byte_texts m (class x) x xs (λ next. lex next xs) (λ e. text_after i lt (is_quote x e)) (λ next. lex_texts n (i + 1) next (omega arith)))
    | inr beyond ↦ rw (drop_all i text beyond) tt
  ]

-- ---- commas and colons

allowed_texts : (b : Bool) (t : Token) (k : Place → List Token) (next : Place) → IsTextToken t → ((p : Place) → AreTextTokens (k p)) → AreTextTokens (if_allowed b t k next)
allowed_texts true t k next is all = (is, all next)
allowed_texts false t k next is all = (tt, tt)

place_texts : (p : Place) (t : Token) (b : Bool) (k : Place → List Token) → IsTextToken t → ((q : Place) → AreTextTokens (k q)) → AreTextTokens (place_token p t b k)
place_texts p (token.string s) true k is all = allowed_texts (may_begin p) (token.key s) k after_key is all
place_texts p (token.string s) false k is all = allowed_texts (may_begin p) (token.string s) k after_value is all
place_texts p (token.key s) b k is all = (tt, tt)
place_texts p token.bad b k is all = (tt, tt)
place_texts p _ b k is all = allowed_texts _ _ k _ tt all

punctuate_texts : (p : Place) (ls : List Lexeme) → AreTextLexemes ls → AreTextTokens (punctuate p ls)
unfolding punctuate
punctuate_texts fresh [] all = tt
punctuate_texts after_value [] all = tt
punctuate_texts p (lexing.token t ∷ ls) all = place_texts p t (begins_colon ls) (λ next. punctuate next ls) all.0 (λ q. punctuate_texts q ls all.1)
punctuate_texts after_value (comma ∷ ls) all = punctuate_texts after_comma ls all.1
punctuate_texts after_key (colon ∷ ls) all = punctuate_texts fresh ls all.1
punctuate_texts _ _ all = (tt, tt)

tokens_texts : (text : List ℕ) → IsUtf8 text → AreTextTokens (tokens text)
tokens_texts text utf8 = punctuate_texts fresh (lex between text) (lex_texts text utf8 (length text) 0 between (omega arith))

-- ---- values

abbrev mutual
  pub IsTextJson : Json → Type 0
  IsTextJson kit.null = Unit {0}
  IsTextJson (kit.boolean b) = Unit {0}
  IsTextJson (kit.number s) = Unit {0}
  IsTextJson (kit.string s) = IsUtf8 s
  IsTextJson (kit.array js) = AreTextItems js
  IsTextJson (kit.object ms) = AreTextMembers ms

  pub AreTextItems : kit.Items → Type 0
  AreTextItems kit.no_items = Unit {0}
  AreTextItems (kit.item j js) = IsTextJson j × AreTextItems js

  pub AreTextMembers : kit.Members → Type 0
  AreTextMembers kit.no_members = Unit {0}
  AreTextMembers (kit.member name j ms) = IsUtf8 name × (IsTextJson j × AreTextMembers ms)

abbrev IsRead : {A : Type 0} → (A → Type 0) → Option (A × List Token) → Type 0
IsRead P = Holds (λ p. P p.0 × AreTextTokens p.1)

abbrev IsReader : {A : Type 0} → (A → Type 0) → Parse A → Type 0
IsReader P read = (ts : List Token) → AreTextTokens ts → IsRead P (read ts)

mapped : {A B : Type 0} (P : A → Type 0) (Q : B → Type 0) (f : A → B) (r : Option (A × List Token)) → ((x : A) → P x → Q (f x)) → IsRead P r → IsRead Q (parse_map f r)
mapped P Q f None h p = tt
mapped P Q f (Some x) h p = (h x.0 p.0, p.1)

end_texts : (ts : List Token) → AreTextTokens ts → Holds AreTextTokens (after_end_array ts)
end_texts (token.end_array ∷ ts) all = all.1
end_texts _ all = tt

key_texts : IsReader (Holds IsUtf8) read_key
key_texts (token.end_object ∷ ts) all = (tt, all.1)
key_texts (token.key s ∷ ts) all = (all.0, all.1)
key_texts _ all = tt

module _ (read : Parse Json) (reads : IsReader IsTextJson read) where
  step_items : (more : Parse kit.Items) → IsReader AreTextItems more → (ts : List Token) → AreTextTokens ts → (o : Option (List Token))
      → Holds AreTextTokens o → IsRead AreTextItems (items_step read more ts o)
  step_items more rest ts all (Some after) p = (tt, p)
  step_items more rest ts all None p =
      then (λ p. AreTextItems p.0 × AreTextTokens p.1) (λ x. parse_map (kit.item x.0) (more x.1)) (read ts)
      (λ x q. mapped AreTextItems AreTextItems (kit.item x.0) (more x.1) (λ js h. (q.0, h)) (rest x.1 q.1)) (reads ts all)

  items_texts : (n : ℕ) → IsReader AreTextItems (items read n)
  unfolding items
  items_texts zero ts all = tt
  items_texts (suc n) ts all = step_items (items read n) (items_texts n) ts all (after_end_array ts) (end_texts ts all)

  step_members : (more : Parse kit.Members) → IsReader AreTextMembers more → (o : Option (List ℕ)) → Holds IsUtf8 o → (ts : List Token)
      → AreTextTokens ts → IsRead AreTextMembers (members_step read more o ts)
  step_members more rest None p ts all = (tt, all)
  step_members more rest (Some name) p ts all =
      then (λ p. AreTextMembers p.0 × AreTextTokens p.1) (λ x. parse_map (kit.member name x.0) (more x.1)) (read ts)
      (λ x q. mapped AreTextMembers AreTextMembers (kit.member name x.0) (more x.1) (λ ms h. (p, (q.0, h))) (rest x.1 q.1)) (reads ts all)

  members_texts : (n : ℕ) → IsReader AreTextMembers (members read n)
  unfolding members
  members_texts zero ts all = tt
  members_texts (suc n) ts all =
      then (λ p. AreTextMembers p.0 × AreTextTokens p.1) (λ x. members_step read (members read n) x.0 x.1) (read_key ts)
      (λ x q. step_members (members read n) (members_texts n) x.0 q.0 x.1 q.1) (key_texts ts all)

with_texts : (a : Parse kit.Items) (o : Parse kit.Members) → IsReader AreTextItems a → IsReader AreTextMembers o → IsReader IsTextJson (value_with a o)
with_texts a o p q (token.begin_object ∷ ts) all = mapped AreTextMembers IsTextJson kit.object (o ts) (λ ms h. h) (q ts all.1)
with_texts a o p q (token.begin_array ∷ ts) all = mapped AreTextItems IsTextJson kit.array (a ts) (λ js h. h) (p ts all.1)
with_texts a o p q (token.string s ∷ ts) all = (all.0, all.1)
with_texts a o p q (token.number s ∷ ts) all = (tt, all.1)
with_texts a o p q (token.boolean b ∷ ts) all = (tt, all.1)
with_texts a o p q (token.null ∷ ts) all = (tt, all.1)
with_texts a o p q _ all = tt

value_texts : (depth : ℕ) → IsReader IsTextJson (value depth)
unfolding value
value_texts zero = with_texts (λ ts. None) (λ ts. None) (λ ts all. tt) (λ ts all. tt)
value_texts (suc depth) =
    with_texts (λ ts. items (value depth) (length ts) ts) (λ ts. members (value depth) (length ts) ts)
    (λ ts all. items_texts (value depth) (value_texts depth) (length ts) ts all) (λ ts all. members_texts (value depth) (value_texts depth) (length ts) ts all)

-- ---- a whole text

last_text : (x : Json × List Token) → IsTextJson x.0 × AreTextTokens x.1 → Holds IsTextJson (if_last x.0 x.1)
last_text (j, []) p = p.0
last_text (j, t ∷ ts) p = tt

pub json_texts : (text : List ℕ) → Holds IsTextJson (json text)
json_texts text =
    when (Holds IsTextJson) (is_utf8 text) _ None
    (λ is. then IsTextJson (λ p. if_last p.0 p.1) (value most_brackets (tokens text)) last_text
    (value_texts most_brackets (tokens text) (tokens_texts text (IsUtf8-from_is_utf8 text is)))) (λ e. tt)
