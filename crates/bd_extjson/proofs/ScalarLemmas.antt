-- A value without brackets that the second pass skips is one that the grammar of the kit reads.
use Rattle.std.proofs.Common.{◌≡◌, ◌<◌, ◌≤◌, ◌==◌, ◌||◌, ◌+◌, ◌⊎◌, inl, inr, refl, sym, ap, ap₂, ◌∙◌, subst, cond, not, ℕ, zero, suc, Bool, true, false, List, []}
use Rattle.std.proofs.Common.{◌∷◌, ◌++◌, length, take, drop, Option, Some, None, Ok, Err, arith}
use Rattle.std.proofs.Common.{append_assoc}
use Rattle.std.specs.Prelude.{option_and_then, IsUtf8, if◌then◌else◌, codes, nat_eq}
use Rattle.std.specs.Result.{result_ok}
use Rattle.std.specs.List.{prefix_len}
use Rattle.std.specs.Char.{is_ascii_digit}
use Rattle.std.specs.Cmp.Lexicographic.{pointwise}
use Rattle.std.proofs.lemmas.Bool.{eqb-true, eqb-false, ne_eqb, false≢true, true≢false, and_left, and_right, and_parts, not-true}
use Rattle.std.proofs.lemmas.List.{take-append-drop, drop-drop}
use Rattle.json.specs.Word.{head, ends_word, word, after_number, number_before, after_digits, after_fraction, after_exponent, after_whole, after_minus, after_sign}
use Rattle.json.specs.Print.{IsNumber}
use Rattle.json.specs.Token.{Token}
use Rattle.json.specs.Token as tokens
use Rattle.json.specs.Lex.{Lexeme, token, between, in_word, lex, Place, fresh, after_value, after_comma, after_key, punctuate, may_begin, in_string, begins_colon}
use Rattle.json.specs.Lex.{string_token}
use Rattle.json.specs.Json as kit
use Rattle.json.specs.Json.{Json, value}
use Rattle.json.specs.Tree.{depth, json_tokens}
use Rattle.json.proofs.Found.{not_found, Some_inj}
use Rattle.json.proofs.Printed.Numbers.{in_word-ended, number_alone, lex-number}
use Rattle.bd_extjson_fault.specs.JsonSyntax.{Beyond, syntax_at, begins, beyond_word, is_white, beyond_number, beyond_natural, beyond_digits, beyond_scalar}
use Rattle.bd_extjson_fault.specs.JsonSyntax.{beyond_string, beyond_name, beyond_object, opens_object, opens_array}
use Rattle.bd_extjson_fault.specs.TreeFault.{unquoted, quoted_name, parts_in, members_in}
use Rattle.bd_extjson_fault.proofs.NumberLemmas.{number_agrees}
use Rattle.bd_extjson.proofs.ByteLemmas.{tokens_from, is_end, colon_next, unless, Other, cases_byte, Split, split_word, split_ascii}
use Rattle.bd_extjson.proofs.StringLemmas.{MeetsString, StringAt, string_meets}

-- no value is at the start of the text
abbrev pub Fails : ℕ → List ℕ → Type 0
Fails level text = (p : Place) → may_begin p ≡ true → value level (tokens_from p text) ≡ None

-- A value is at the start of the text, up to the rest. It is the same before any other text that may follow it, of which
-- `follows` is the test: after a word no letter, after a string no colon, after a bracket anything.
pub record Passed {J : Type 0} (spell : J → List Token) (height : J → ℕ) (P : List ℕ → J → Type 0) (level : ℕ) (text rest : List ℕ) : Type 0 where
  pub prefix : List ℕ
  pub value : J
  pub split : Split text prefix rest
  pub some : 0 < length prefix
  pub shallow : height value ≤ level
  pub follows : List ℕ → Bool
  pub here : follows rest ≡ true
  pub ends : (any : List ℕ) → is_end any ≡ true → follows any ≡ true
  pub read : (p : Place) → may_begin p ≡ true → (any : List ℕ) → follows any ≡ true
      → tokens_from p (prefix ++ any) ≡ spell value ++ tokens_from after_value any
  pub means : IsUtf8 text → P text value

-- what was passed is a value, or nothing that may follow a value comes next
abbrev pub Meets : (List ℕ → Json → Type 0) → ℕ → List ℕ → Beyond → Type 0
Meets P level text (Ok rest) = Passed json_tokens depth P level text rest ⊎ ((is_end rest ≡ false) × Fails level text)
Meets P level text (Err stop) = Fails level text

-- ---- a token alone

-- no value begins with a fault, at the end, or with a closing bracket
pub value_bad : (level : ℕ) (ts : List Token) → value level (tokens.bad ∷ ts) ≡ None
unfolding value
value_bad zero ts = refl
value_bad (suc level) ts = refl

pub value_nil : (level : ℕ) → value level [] ≡ None
unfolding value
value_nil zero = refl
value_nil (suc level) = refl

pub value_end : (level : ℕ) (t : Token) (ts : List Token) → (t ≡ tokens.end_object) ⊎ (t ≡ tokens.end_array) → value level (t ∷ ts) ≡ None
unfolding value
value_end zero t ts (inl e) = rw e refl
value_end (suc level) t ts (inl e) = rw e refl
value_end zero t ts (inr e) = rw e refl
value_end (suc level) t ts (inr e) = rw e refl

value_key : (level : ℕ) (s : List ℕ) (ts : List Token) → value level (tokens.key s ∷ ts) ≡ None
unfolding value
value_key zero s ts = refl
value_key (suc level) s ts = refl

bad_token : (p : Place) (ls : List Lexeme) → punctuate p (token tokens.bad ∷ ls) ≡ tokens.bad ∷ []
unfolding punctuate
bad_token fresh ls = refl
bad_token after_value ls = refl
bad_token after_comma ls = refl
bad_token after_key ls = refl

bad_fails : (level : ℕ) (text : List ℕ) (ls : List Lexeme) → lex between text ≡ token tokens.bad ∷ ls → Fails level text
bad_fails level text ls e p may = ap (λ l. value level (punctuate p l)) e ∙ ap (value level) (bad_token p ls) ∙ value_bad level []

-- no value is in an empty text
nil_fails : (level : ℕ) → Fails level []
unfolding punctuate lex
nil_fails level fresh may = value_nil level
nil_fails level after_value may = absurd (false≢true may)
nil_fails level after_comma may = value_bad level []
nil_fails level after_key may = absurd (false≢true may)

end_fails : (level : ℕ) (b : ℕ) (text : List ℕ) → (b ≡ 125) ⊎ (b ≡ 93) → Fails level (b ∷ text)
unfolding punctuate lex
end_fails level b text (inl e) fresh may = rw e (value_end level tokens.end_object _ (inl refl))
end_fails level b text (inr e) fresh may = rw e (value_end level tokens.end_array _ (inr refl))
end_fails level b text e after_value may = absurd (false≢true may)
end_fails level b text (inl e) after_comma may = rw e (value_bad level [])
end_fails level b text (inr e) after_comma may = rw e (value_bad level [])
end_fails level b text e after_key may = absurd (false≢true may)

delimiter_fails : (level : ℕ) (b : ℕ) (text : List ℕ) → (b ≡ 44) ⊎ (b ≡ 58) → Fails level (b ∷ text)
unfolding punctuate lex
delimiter_fails level b text (inl e) fresh may = rw e (value_bad level [])
delimiter_fails level b text (inr e) fresh may = rw e (value_bad level [])
delimiter_fails level b text e after_value may = absurd (false≢true may)
delimiter_fails level b text (inl e) after_comma may = rw e (value_bad level [])
delimiter_fails level b text (inr e) after_comma may = rw e (value_bad level [])
delimiter_fails level b text e after_key may = absurd (false≢true may)

-- a token that is a value by itself
abbrev word_json : Token → Option Json
word_json (tokens.number s) = Some (kit.number s)
word_json (tokens.boolean b) = Some (kit.boolean b)
word_json tokens.null = Some kit.null
word_json _ = None

-- the token of a word is its value
word_token : (p : Place) → may_begin p ≡ true → (t : Token) (j : Json) → word_json t ≡ Some j → (ls : List Lexeme)
    → punctuate p (token t ∷ ls) ≡ json_tokens j ++ punctuate after_value ls
unfolding punctuate
word_token fresh may tokens.null j e ls = ap (λ i. json_tokens i ++ punctuate after_value ls) (Some_inj _ _ e)
word_token fresh may (tokens.boolean b) j e ls = ap (λ i. json_tokens i ++ punctuate after_value ls) (Some_inj _ _ e)
word_token fresh may (tokens.number s) j e ls = ap (λ i. json_tokens i ++ punctuate after_value ls) (Some_inj _ _ e)
word_token fresh may _ j e ls = not_found j e
word_token after_comma may tokens.null j e ls = ap (λ i. json_tokens i ++ punctuate after_value ls) (Some_inj _ _ e)
word_token after_comma may (tokens.boolean b) j e ls = ap (λ i. json_tokens i ++ punctuate after_value ls) (Some_inj _ _ e)
word_token after_comma may (tokens.number s) j e ls = ap (λ i. json_tokens i ++ punctuate after_value ls) (Some_inj _ _ e)
word_token after_comma may _ j e ls = not_found j e
word_token after_value may t j e ls = absurd (false≢true may)
word_token after_key may t j e ls = absurd (false≢true may)

-- ---- numbers

-- what is passed to is after that number of bytes of the text
abbrev Tail : List ℕ → Option (List ℕ) → Type 0
Tail t None = Unit {0}
Tail t (Some rest) = (k : ℕ) × (rest ≡ drop k t)

tail_then : (f : List ℕ → Option (List ℕ)) → ((t : List ℕ) → Tail t (f t)) → (t : List ℕ) (k : ℕ) (o : List ℕ) → o ≡ drop k t → Tail t (f o)
tail_then f h t k o e = go (f o) (h o)
  where
    go : (r : Option (List ℕ)) → Tail o r → Tail t r
    go None x = tt
    go (Some rest) (n, x) = (k + n, x ∙ ap (drop n) e ∙ drop-drop n k t)

tail_bind : (f : List ℕ → Option (List ℕ)) → ((t : List ℕ) → Tail t (f t)) → (t : List ℕ) (o : Option (List ℕ)) → Tail t o → Tail t (option_and_then f o)
tail_bind f h t None x = tt
tail_bind f h t (Some o) (k, e) = tail_then f h t k o e

either_tail : (b : Bool) (t : List ℕ) (x y : Option (List ℕ)) → Tail t x → Tail t y → Tail t (cond b x y)
either_tail true t x y p q = p
either_tail false t x y p q = q

either_drop : (b : Bool) (t : List ℕ) → (k : ℕ) × (cond b (drop 1 t) t ≡ drop k t)
either_drop true t = (1, refl)
either_drop false t = (0, refl)

digits_tail : (t : List ℕ) → Tail t (after_digits t)
digits_tail t = either_tail (prefix_len is_ascii_digit t == 0) t None (Some (drop (prefix_len is_ascii_digit t) t)) tt (prefix_len is_ascii_digit t, refl)

whole_tail : (t : List ℕ) → Tail t (after_whole t)
whole_tail t = either_tail (head t == 48) t _ _ (1, refl) (digits_tail t)

fraction_tail : (t : List ℕ) → Tail t (after_fraction t)
fraction_tail t = either_tail (head t == 46) t _ _ (tail_then after_digits digits_tail t 1 (drop 1 t) refl) (0, refl)

sign_tail : (t : List ℕ) → Tail t (after_digits (after_sign t))
sign_tail t = let d = either_drop ((head t == 45) || (head t == 43)) t in tail_then after_digits digits_tail t d.0 (after_sign t) d.1

exponent_tail : (t : List ℕ) → Tail t (after_exponent t)
exponent_tail t = either_tail ((head t == 101) || (head t == 69)) t _ _ (tail_then (λ u. after_digits (after_sign u)) sign_tail t 1 (drop 1 t) refl) (0, refl)

number_tail : (t : List ℕ) → Tail t (after_number t)
unfolding after_number
number_tail t =
    let d = either_drop (head t == 45) t in
    tail_bind after_exponent exponent_tail t _ (tail_bind after_fraction fraction_tail t _ (tail_then after_whole whole_tail t d.0 (after_minus t) d.1))

-- ---- what a value is, after white space

-- a number with its bytes
abbrev pub NumberAt : List ℕ → List ℕ → Type 0
NumberAt here s = (rest : List ℕ) × (beyond_number here ≡ Ok rest) × (here ≡ s ++ rest) × (begins (λ b. b == 34) here ≡ false) × (opens_object here ≡ false)
    × (opens_array here ≡ false)

-- each part means one of the list
abbrev pub Pairs : {J : Type 0} → (List ℕ → J → Type 0) → List (List ℕ) → List J → Type 0
Pairs Q [] [] = Unit {0}
Pairs Q [] (j ∷ js) = ⊥
Pairs Q (t ∷ ts) [] = ⊥
Pairs Q (t ∷ ts) (j ∷ js) = Q t j × Pairs Q ts js

-- the items of an array, as the grammar has them
abbrev pub items_of : List Json → kit.Items
items_of [] = kit.no_items
items_of (j ∷ js) = kit.item j (items_of js)

-- the members of an object, as the grammar has them
abbrev pub members_of : List (List ℕ × Json) → kit.Members
members_of [] = kit.no_members
members_of (m ∷ ms) = kit.member m.0 m.1 (members_of ms)

-- a member has that name, and what is after its colon that value
abbrev pub Member : (List ℕ → Json → Type 0) → List ℕ → List ℕ × Json → Type 0
Member P text m = (unquoted (quoted_name text) ≡ m.0) × ((after : List ℕ) × (beyond_name text ≡ Ok after) × P after m.1)

-- an array with its items
pub record ArrayAt (P : List ℕ → Json → Type 0) (part : List ℕ → Beyond) (here : List ℕ) (js : kit.Items) : Type 0 where
  pub inside : List ℕ
  pub opens : here ≡ 91 ∷ inside
  pub list : List Json
  pub same : js ≡ items_of list
  pub are : Pairs P (parts_in (λ b. b == 93) part inside) list

-- an object with its members, which is read alone as what it is
pub record ObjectAt (P : List ℕ → Json → Type 0) (part : List ℕ → Beyond) (here : List ℕ) (ms : kit.Members) : Type 0 where
  pub inside : List ℕ
  pub opens : here ≡ 123 ∷ inside
  pub list : List (List ℕ × Json)
  pub same : ms ≡ members_of list
  pub are : Pairs (Member P) (members_in part inside) list
  pub rest : List ℕ
  pub passed : beyond_object part inside ≡ Ok rest
  pub bytes : List ℕ
  pub whole : here ≡ bytes ++ rest
  pub utf8 : IsUtf8 bytes
  pub alone : tokens_from fresh bytes ≡ json_tokens (kit.object ms)

-- what a text that begins with a value, and with no white space, says of it; P is what the texts of its parts say
abbrev pub Shape : (List ℕ → Json → Type 0) → (List ℕ → Beyond) → List ℕ → Json → Type 0
Shape P part here kit.null = (t : List ℕ) × (here ≡ 110 ∷ t)
Shape P part here (kit.boolean b) = (t : List ℕ) × ((here ≡ 116 ∷ t) ⊎ (here ≡ 102 ∷ t))
Shape P part here (kit.number s) = NumberAt here s
Shape P part here (kit.string s) = (t : List ℕ) × (here ≡ 34 ∷ t)
Shape P part here (kit.array js) = ArrayAt P part here js
Shape P part here (kit.object ms) = ObjectAt P part here ms

-- ---- values without brackets

-- the text begins with the word, up to the rest; else it does not
abbrev MeetsWord : List ℕ → List ℕ → Beyond → Type 0
MeetsWord w text (Ok rest) = text ≡ w ++ rest
MeetsWord w text (Err stop) = pointwise nat_eq w (take (length w) text) ≡ false

word_meets : (w text : List ℕ) → MeetsWord w text (beyond_word w text)
unfolding beyond_word
word_meets [] text = refl
word_meets (a ∷ w) [] = refl
word_meets (a ∷ w) (b ∷ t) = by_test (word_meets w t) (b == a) refl
  where
    go : (r : Beyond) → (b == a) ≡ true → MeetsWord w t r → MeetsWord (a ∷ w) (b ∷ t) r
    go (Ok rest) e h = λ i. eqb-true b a e i ∷ h i
    go (Err stop) e h = and_right (nat_eq a b) _ h

    by_test : MeetsWord w t (beyond_word w t) → (v : Bool) → (b == a) ≡ v → MeetsWord (a ∷ w) (b ∷ t) (if v then beyond_word w t else syntax_at (b ∷ t))
    by_test more true e = go (beyond_word w t) e more
    by_test more false e = and_left (nat_eq a b) _ (ne_eqb a b (λ same. eqb-false b a e (sym same)))

module _ (P : List ℕ → Json → Type 0) (part : List ℕ → Beyond) (level : ℕ) where
  word_passed : (t prefix rest : List ℕ) (tok : Token) (j : Json) → word_json tok ≡ Some j → depth j ≡ 0 → 0 < length prefix → t ≡ prefix ++ rest → ends_word rest ≡ true
      → Shape P part t j → ((any : List ℕ) → ends_word any ≡ true → lex between (prefix ++ any) ≡ token tok ∷ lex between any) → Passed json_tokens depth (Shape P part) level t rest
  word_passed t prefix rest tok j is flat some whole ended shape reads =
      let split = split_word prefix rest ended in
      record {
        prefix = prefix;
        value = j;
        split = (whole, λ u. split.1 (subst IsUtf8 whole u));
        some = some;
        shallow = omega (arith, flat);
        follows = ends_word;
        here = ended;
        ends = λ any e. (and_parts (ends_word any) _ e).0;
        read = λ p may any e. ap (punctuate p) (reads any e) ∙ word_token p may tok j is (lex between any);
        means = λ u. shape;
      }

  not_ended : (t rest : List ℕ) (ls : List Lexeme) → ends_word rest ≡ false → lex between t ≡ token tokens.bad ∷ ls
      → Meets (Shape P part) level t (Ok rest)
  not_ended t rest ls e bad = inr (and_left (ends_word rest) _ e, bad_fails level t ls bad)

  -- `true`, `false`, `null`
  literal_meets : (c : ℕ) (w xs : List ℕ) (tok : Token) (j : Json) → word_json tok ≡ Some j → depth j ≡ 0 → Shape P part (c ∷ xs) j
      → ((any : List ℕ) → lex between (c ∷ (w ++ any)) ≡ token (cond (ends_word any) tok tokens.bad) ∷ lex in_word any)
      → (pointwise nat_eq w (take (length w) xs) ≡ false → lex between (c ∷ xs) ≡ token tokens.bad ∷ lex in_word xs)
      → Meets (Shape P part) level (c ∷ xs) (beyond_word w xs)
  literal_meets c w xs tok j is flat shape reads fails = go (beyond_word w xs) (word_meets w xs)
    where
      ended : (rest : List ℕ) → xs ≡ w ++ rest → (b : Bool) → ends_word rest ≡ b → Meets (Shape P part) level (c ∷ xs) (Ok rest)
      ended rest e true end = inl (word_passed (c ∷ xs) (c ∷ w) rest tok j is flat (omega arith) (ap (λ l. c ∷ l) e) end shape
          (λ any f. reads any ∙ rw f (ap (λ l. token tok ∷ l) (in_word-ended any f))))
      ended rest e false end = not_ended (c ∷ xs) rest (lex in_word rest) end (ap (λ l. lex between (c ∷ l)) e ∙ reads rest ∙ rw end refl)

      go : (r : Beyond) → MeetsWord w xs r → Meets (Shape P part) level (c ∷ xs) r
      go (Ok rest) e = ended rest e (ends_word rest) refl
      go (Err stop) e = bad_fails level (c ∷ xs) (lex in_word xs) (fails e)

  true_meets : (xs : List ℕ) → Meets (Shape P part) level (116 ∷ xs) (beyond_word (codes "rue") xs)
  unfolding lex word
  true_meets xs = literal_meets 116 (codes "rue") xs (tokens.boolean true) (kit.boolean true) refl refl (xs, inl refl) (λ any. refl) (λ e. rw e refl)

  false_meets : (xs : List ℕ) → Meets (Shape P part) level (102 ∷ xs) (beyond_word (codes "alse") xs)
  unfolding lex word
  false_meets xs = literal_meets 102 (codes "alse") xs (tokens.boolean false) (kit.boolean false) refl refl (xs, inr refl) (λ any. refl) (λ e. rw e refl)

  null_meets : (xs : List ℕ) → Meets (Shape P part) level (110 ∷ xs) (beyond_word (codes "ull") xs)
  unfolding lex word
  null_meets xs = literal_meets 110 (codes "ull") xs tokens.null kit.null refl refl (xs, refl) (λ any. refl) (λ e. rw e refl)

  -- numbers
  number_some : (prefix rest : List ℕ) → IsNumber prefix → 0 < length prefix
  unfolding after_number
  number_some [] rest h = not_found [] h
  number_some (c ∷ prefix) rest h = omega arith

  lex_word : (x : ℕ) (xs : List ℕ) (w : Token) → Other x → (x == 116) ≡ false → (x == 102) ≡ false → (x == 110) ≡ false → number_before (x ∷ xs) (after_number (x ∷ xs)) ≡ w
      → lex between (x ∷ xs) ≡ token w ∷ lex in_word xs
  unfolding lex word
  lex_word x xs w o e1 e2 e3 is = rw (o.kind, e1, e2, e3) (ap (λ t. token t ∷ lex in_word xs) is)

  module _ (x : ℕ) (xs : List ℕ) (q : (x == 34) ≡ false) (b : opens_object (x ∷ xs) ≡ false) (a : opens_array (x ∷ xs) ≡ false) (o : Other x)
      (e1 : (x == 116) ≡ false) (e2 : (x == 102) ≡ false) (e3 : (x == 110) ≡ false) where
    number_passed : (rest : List ℕ) → beyond_number (x ∷ xs) ≡ Ok rest → after_number (x ∷ xs) ≡ Some rest → (k : ℕ) → rest ≡ drop k (x ∷ xs)
        → (b : Bool) → ends_word rest ≡ b → Meets (Shape P part) level (x ∷ xs) (Ok rest)
    number_passed rest went is k tail true ended =
        let prefix = take k (x ∷ xs) in
        let whole : x ∷ xs ≡ prefix ++ rest = sym (take-append-drop k (x ∷ xs)) ∙ ap (λ l. prefix ++ l) (sym tail) in
        let number = number_alone prefix rest ended (ap after_number (sym whole) ∙ is) in
        inl (word_passed (x ∷ xs) prefix rest (tokens.number prefix) (kit.number prefix) refl refl (number_some prefix rest number) whole ended
        (rest, went, whole, q, b, a) (λ any e. lex-number prefix any number e))
    number_passed rest went is k tail false ended =
        not_ended (x ∷ xs) rest (lex in_word xs) ended (lex_word x xs tokens.bad o e1 e2 e3 (rw (is, ended) refl))

    number_by : (r : Beyond) → beyond_number (x ∷ xs) ≡ r → after_number (x ∷ xs) ≡ result_ok r → Meets (Shape P part) level (x ∷ xs) r
    number_by (Err stop) went is = bad_fails level (x ∷ xs) (lex in_word xs) (lex_word x xs tokens.bad o e1 e2 e3 (rw is refl))
    number_by (Ok rest) went is = let t = subst (Tail (x ∷ xs)) is (number_tail (x ∷ xs)) in number_passed rest went is t.0 t.1 (ends_word rest) refl

  number_meets : (x : ℕ) (xs : List ℕ) → is_white x ≡ false → (x == 34) ≡ false → opens_object (x ∷ xs) ≡ false → opens_array (x ∷ xs) ≡ false → (x == 116) ≡ false
      → (x == 102) ≡ false → (x == 110) ≡ false → Meets (Shape P part) level (x ∷ xs) (beyond_number (x ∷ xs))
  unfolding beyond_number beyond_natural beyond_digits lex
  number_meets x xs =
      cases_byte Q x (λ w q b a e1 e2 e3. absurd (true≢false q)) (λ w q b a e1 e2 e3. bad_fails level (92 ∷ xs) (lex in_word xs) refl)
      (λ w q b a e1 e2 e3. absurd (true≢false b)) (λ w q b a e1 e2 e3. end_fails level 125 xs (inl refl)) (λ w q b a e1 e2 e3. absurd (true≢false a))
      (λ w q b a e1 e2 e3. end_fails level 93 xs (inr refl)) (λ w q b a e1 e2 e3. delimiter_fails level 58 xs (inr refl)) (λ w q b a e1 e2 e3. delimiter_fails level 44 xs (inl refl))
      (λ white w q b a e1 e2 e3. absurd (true≢false (sym white ∙ w)))
      (λ o w q b a e1 e2 e3. number_by x xs q b a o e1 e2 e3 (beyond_number (x ∷ xs)) refl (sym (number_agrees (x ∷ xs))))
    where
      Q : ℕ → Type 0
      Q y = is_white y ≡ false → (y == 34) ≡ false → opens_object (y ∷ xs) ≡ false → opens_array (y ∷ xs) ≡ false → (y == 116) ≡ false
          → (y == 102) ≡ false → (y == 110) ≡ false → Meets (Shape P part) level (y ∷ xs) (beyond_number (y ∷ xs))

  -- strings
  string_value : (p : Place) (s : List ℕ) (ls : List Lexeme) → may_begin p ≡ true → begins_colon ls ≡ false
      → punctuate p (token (tokens.string s) ∷ ls) ≡ tokens.string s ∷ punctuate after_value ls
  unfolding punctuate
  string_value fresh s ls may e = rw e refl
  string_value after_comma s ls may e = rw e refl
  string_value after_value s ls may e = absurd (false≢true may)
  string_value after_key s ls may e = absurd (false≢true may)

  key_fails : (p : Place) (s : List ℕ) (ls : List Lexeme) → may_begin p ≡ true → begins_colon ls ≡ true
      → value level (punctuate p (token (tokens.string s) ∷ ls)) ≡ None
  unfolding punctuate
  key_fails fresh s ls may e = rw e (value_key level s _)
  key_fails after_comma s ls may e = rw e (value_key level s _)
  key_fails after_value s ls may e = absurd (false≢true may)
  key_fails after_key s ls may e = absurd (false≢true may)

  string_meets_value : (xs : List ℕ) → Meets (Shape P part) level (34 ∷ xs) (beyond_string xs)
  unfolding lex
  string_meets_value xs = go (beyond_string xs) (string_meets xs)
    where
      lexed : (rest any : List ℕ) (s : StringAt xs rest) → lex between (34 ∷ ((s.prefix ++ 34 ∷ []) ++ any)) ≡ token (tokens.string s.value) ∷ lex between any
      lexed rest any s = ap (λ l. lex between (34 ∷ l)) (append_assoc s.prefix (34 ∷ []) any)
          ∙ ap₂ (λ o ls. token (string_token o) ∷ ls) (s.read any) (s.skips any)

      whole : (rest : List ℕ) (s : StringAt xs rest) → 34 ∷ xs ≡ 34 ∷ ((s.prefix ++ 34 ∷ []) ++ rest)
      whole rest s = ap (λ l. 34 ∷ l) (s.whole ∙ sym (append_assoc s.prefix (34 ∷ []) rest))

      by_colon : (rest : List ℕ) (s : StringAt xs rest) → (b : Bool) → begins_colon (lex between rest) ≡ b → Meets (Shape P part) level (34 ∷ xs) (Ok rest)
      by_colon rest s true e = inr (
        and_right (ends_word rest) _ (ap not (sym (colon_next rest) ∙ e)),
        λ p may. ap (λ l. value level (tokens_from p l)) (whole rest s) ∙ ap (λ ls. value level (punctuate p ls)) (lexed rest rest s) ∙ key_fails p s.value (lex between rest) may e,
      )
      by_colon rest s false e = inl (record {
        prefix = 34 ∷ (s.prefix ++ 34 ∷ []);
        value = kit.string s.value;
        split = split_ascii (34 ∷ xs) (34 ∷ s.prefix) rest 34 (omega arith) (ap (λ l. 34 ∷ l) s.whole);
        some = omega arith;
        shallow = omega arith;
        follows = λ any. not (begins_colon (lex between any));
        here = ap not e;
        ends = λ any f. ap not (colon_next any) ∙ (and_parts (ends_word any) _ f).1;
        read = λ p may any f. ap (punctuate p) (lexed rest any s) ∙ string_value p s.value (lex between any) may (not-true _ f);
        means = λ u. (xs, refl);
      })

      go : (r : Beyond) → MeetsString xs r → Meets (Shape P part) level (34 ∷ xs) r
      go (Err stop) e = bad_fails level (34 ∷ xs) (lex in_string xs) (ap (λ o. token (string_token o) ∷ lex in_string xs) e)
      go (Ok rest) s = by_colon rest s (begins_colon (lex between rest)) refl

  pub scalar_meets : (here : List ℕ) → begins is_white here ≡ false → opens_object here ≡ false → opens_array here ≡ false
      → Meets (Shape P part) level here (beyond_scalar here)
  unfolding beyond_scalar
  scalar_meets [] w b a = nil_fails level
  scalar_meets (x ∷ xs) w b a =
      unless Q 34 x (λ w b a. string_meets_value xs) (λ e0. unless Q 116 x (λ w b a. true_meets xs) (λ e1. unless Q 102 x (λ w b a. false_meets xs)
      (λ e2. unless Q 110 x (λ w b a. null_meets xs) (λ e3 w b a. rw (e0, e1, e2, e3) (number_meets x xs w e0 b a e1 e2 e3))))) w b a
    where
      Q : ℕ → Type 0
      Q y = is_white y ≡ false → opens_object (y ∷ xs) ≡ false → opens_array (y ∷ xs) ≡ false → Meets (Shape P part) level (y ∷ xs) (beyond_scalar (y ∷ xs))
