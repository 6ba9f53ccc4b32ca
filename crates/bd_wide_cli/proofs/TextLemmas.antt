-- A text that is read as a document of the nineteen types has no double, no decimal128, and no date or UUID that is a text.
use Rattle.std.proofs.Common.{◌≡◌, ◌≤◌, ◌+◌, ◌-◌, ◌==◌, ◌⊎◌, ℕ, zero, suc, Bool, true, false, List, [], ◌∷◌, ◌++◌, length, take, drop, Option, Some, None, Ok, Err, refl, sym, ap, ap₂, ◌∙◌, subst, inl, inr, is_some, arith, append_assoc, length-append, take_at}
use Rattle.std.specs.Prelude.{Result, codes, if◌then◌else◌, nat_eq, nat_lt, option_and_then, unwrap_or}
use Rattle.std.specs.{List.list_all, Option.option_map_or, Str.is_utf8, Str.Lossy.utf8_valid_len}
use Rattle.std.specs.Cmp.Lexicographic.{pointwise}
use Rattle.std.proofs.lemmas.Bool.{eqb-true, false≢true, true≢false, and_parts}
use Rattle.std.proofs.lemmas.List.{take-append-drop}
use Rattle.std.proofs.lemmas.Slice.Eq.{bytes_eq-Decides}
use Rattle.std.proofs.lemmas.Str.{IsUtf8-from_is_utf8}
use Rattle.json.specs.{Find.as_str, Json.Json, Json.if_last, Json.value, Lex.after_value, Lex.fresh, Lex.lex, Lex.punctuate, Lex.tokens, Text.content}
use Rattle.json.specs.Json as kit
use Rattle.json.specs.Token.{Token}
use Rattle.json.specs.Token as words
use Rattle.json.proofs.Printed.Utf8.{IsUtf8-are_ascii, are_ascii}
use Rattle.json.specs.Tree.{depth}
use Rattle.json.proofs.Printed.Trees.{value-json_tokens}
use Rattle.bd_value.specs.{Limits.most_brackets, Limits.most_levels, Tree.Doc, Tree.Tree, Tree.pairs_of}
use Rattle.bd_extjson.specs.Read.{ReadsAs, document, json, wrap}
use Rattle.bd_extjson.proofs.{ByteLemmas.tokens_from, ByteLemmas.unless, DocumentFaultLemmas.no_fault_where_read, ValueLemmas.json_alone, ValueLemmas.value_meets}
use Rattle.bd_extjson.proofs.ScalarLemmas.{ArrayAt, Meets, Member, NumberAt, ObjectAt, Pairs, Shape, items_of, members_of}
use Rattle.bd_extjson_fault.specs.JsonSyntax.{Beyond, ◌>>=◌, begins, beyond_all, beyond_array, beyond_character, beyond_items, beyond_member, beyond_name, beyond_object, beyond_scalar, beyond_string, beyond_text, beyond_value, beyond_white, beyond_word, is_white, opens_array, opens_object}
use Rattle.bd_extjson_fault.specs.TextFault.{fault_after, first_fault_in}
use Rattle.bd_extjson_fault.specs.TreeFault.{is_string, members_in, parts_from, parts_in, quoted_between, quoted_name, unquoted}
use Rattle.bd_extjson_fault.specs.declared.json_fault.JsonFaultKind.TheVariants.{Syntax}
use Rattle.bd_extjson_fault.proofs.{OffsetLemmas.bind_ok, OffsetLemmas.word_passes, OffsetLemmas.word_split, OffsetValueLemmas.is_letter, OffsetValueLemmas.last, OffsetValueLemmas.scalar_number}
use Rattle.bd_extjson_wrapper.specs.{WholeNumber.are_digits, WholeNumber.unsigned, Wrapper.wrapper_of, declared.wrapper.Wrapper.Wrapper}
use Rattle.bd_extjson_wrapper.specs.declared.wrapper.Wrapper.TheVariants as wrappers
use Rattle.bd_wide_substitute.specs.Substitutes.{ArePieces, BeginsValue, Piece, after, after_word, all_values, before_brace, is_blank, is_of_number, last_string, named, quoted, strip}
use Rattle.bd_wide_substitute.specs.declared.wrapped.WideValue.{WideValue}
use Rattle.bd_wide_substitute.proofs.OnceLemmas.{alike}
use Rattle.bd_wide_cli.proofs.FreeLemmas.{AreFree, FirstFree, Free, MembersFree, NoValue, there, then_there, wrap_free}
use Rattle.bd_wide_cli.proofs.StepLemmas.{AllHave, Ends, Steps, byte_step, ends_white, false_steps, group_steps, null_steps, number_first, number_steps, other_step, steps_none, steps_on, string_steps, true_steps, white_steps}

-- what the text of a value says of its division, if there is no value of another type in it
record Goes (level : ℕ) (text : List ℕ) (j : Json) : Type 0 where
  string : is_string text ≡ is_some (as_str j)
  steps : Free j → (rest : List ℕ) → beyond_value level text ≡ Ok rest → Ends rest → Steps text rest

after_white : (text here rest : List ℕ) → beyond_white text ≡ here → Steps here rest → Steps text rest
after_white text here rest e steps = steps_on text (beyond_white text) rest (white_steps text) (steps_on (beyond_white text) here rest (steps_none (beyond_white text) here e) steps)

ok_is : (a b : List ℕ) → ◌≡◌ {A = Beyond} (Ok a) (Ok b) → a ≡ b
ok_is a b e = cc

no_ok : {A E : Type 0} (f : E) (b : A) → ◌≡◌ {A = Result A E} (Err f) (Ok b) → ⊥
no_ok f b e = cc

-- ---- values without brackets

module _ (level : ℕ) (text : List ℕ) where
  scalar_at : opens_object (beyond_white text) ≡ false → opens_array (beyond_white text) ≡ false → beyond_value level text ≡ beyond_scalar (beyond_white text)
  unfolding beyond_value
  scalar_at o a = elim level as (λ (n : ℕ). beyond_value n text ≡ beyond_scalar (beyond_white text)) [ zero ↦ (rw (o, a) refl) | suc n ↦ (rw (o, a) refl) ]

  module _ (c : ℕ) (t : List ℕ) (e : beyond_white text ≡ c ∷ t) (o : (c == 123) ≡ false) (a : (c == 91) ≡ false) where
    scalar_is : (rest : List ℕ) → beyond_value level text ≡ Ok rest → beyond_scalar (c ∷ t) ≡ Ok rest
    scalar_is rest passed = ap beyond_scalar (sym e) ∙ sym (scalar_at (rw e o) (rw e a)) ∙ passed

  null_goes : (t : List ℕ) → beyond_white text ≡ 110 ∷ t → Goes level text kit.null
  unfolding beyond_scalar
  null_goes t e = record {
    string = (rw e refl);
    steps = λ free rest passed ends.
        let word = word_split (codes "ull") t rest (scalar_is 110 t e refl refl rest passed) in
        after_white text (codes "null" ++ rest) rest (e ∙ ap (λ (x : List ℕ). 110 ∷ x) word) (null_steps rest);
  }

  true_goes : (b : Bool) (t : List ℕ) → beyond_white text ≡ 116 ∷ t → Goes level text (kit.boolean b)
  unfolding beyond_scalar
  true_goes b t e = record {
    string = (rw e refl);
    steps = λ free rest passed ends.
        let word = word_split (codes "rue") t rest (scalar_is 116 t e refl refl rest passed) in
        after_white text (codes "true" ++ rest) rest (e ∙ ap (λ (x : List ℕ). 116 ∷ x) word) (true_steps rest ends);
  }

  false_goes : (b : Bool) (t : List ℕ) → beyond_white text ≡ 102 ∷ t → Goes level text (kit.boolean b)
  unfolding beyond_scalar
  false_goes b t e = record {
    string = (rw e refl);
    steps = λ free rest passed ends.
        let word = word_split (codes "alse") t rest (scalar_is 102 t e refl refl rest passed) in
        after_white text (codes "false" ++ rest) rest (e ∙ ap (λ (x : List ℕ). 102 ∷ x) word) (false_steps rest ends);
  }

  boolean_goes : (b : Bool) (t : List ℕ) → (beyond_white text ≡ 116 ∷ t) ⊎ (beyond_white text ≡ 102 ∷ t) → Goes level text (kit.boolean b)
  boolean_goes b t (inl e) = true_goes b t e
  boolean_goes b t (inr e) = false_goes b t e

  string_goes : (s t : List ℕ) → beyond_white text ≡ 34 ∷ t → Goes level text (kit.string s)
  unfolding beyond_scalar
  string_goes s t e = record {
    string = (rw e refl);
    steps = λ free rest passed ends. after_white text (34 ∷ t) rest e (string_steps t rest (scalar_is 34 t e refl refl rest passed));
  }

  no_letter : (c : ℕ) → is_of_number c ≡ true → is_letter c ≡ false
  no_letter c =
      let P : ℕ → Type 0 = λ y. is_of_number y ≡ true → is_letter y ≡ false in
      unless P 34 c (λ e. absurd (false≢true e)) (λ e1. unless P 116 c (λ e. absurd (false≢true e)) (λ e2. unless P 102 c (λ e. absurd (false≢true e))
      (λ e3. unless P 110 c (λ e. absurd (false≢true e)) (λ e4 e. rw (e1, e2, e3, e4) refl))))

  first_no_letter : (s rest here : List ℕ) → are_digits (unsigned s) ≡ true → here ≡ s ++ rest → begins is_letter here ≡ false
  first_no_letter [] rest here digits whole = absurd (false≢true digits)
  first_no_letter (c ∷ cs) rest here digits whole = ap (begins is_letter) whole ∙ no_letter c (number_first c cs digits)

  number_goes : (s : List ℕ) → NumberAt (beyond_white text) s → Goes level text (kit.number s)
  number_goes s (end, went, whole, q, o, a) = record {
    string = q;
    steps = λ free rest passed ends.
        let scalar = sym (scalar_number (beyond_white text) (first_no_letter s end (beyond_white text) free whole)) ∙ sym (scalar_at o a) ∙ passed in
        let same : end ≡ rest = ok_is end rest (sym went ∙ scalar) in
        after_white text (s ++ rest) rest (whole ∙ ap (λ (x : List ℕ). s ++ x) same) (number_steps s rest free ends);
  }

-- ---- arrays

items_have : (js : List Json) → AreFree (items_of js) → AllHave Free js
items_have [] free = tt
items_have (j ∷ js) free = (free.0, items_have js free.1)

array_goes : (level : ℕ) (text : List ℕ) (js : kit.Items) → ArrayAt (Goes level) (beyond_value level) (beyond_white text) js → Goes (suc level) text (kit.array js)
unfolding beyond_value
array_goes level text js at = record {
  string = (rw at.opens refl);
  steps = λ free rest passed ends.
      let group : beyond_array (beyond_value level) at.inside ≡ Ok rest = (rw at.opens at passed) in
      after_white text (91 ∷ at.inside) rest at.opens (steps_on (91 ∷ at.inside) at.inside rest (other_step 91 at.inside refl refl refl)
      (group_steps (λ b. b == 93) 93 (λ b e. eqb-true b 93 e) refl refl refl (beyond_value level) (Goes level) Free (λ t mid j is has went ends. is.steps has mid went ends)
      at.inside rest at.list at.are (items_have at.list (subst AreFree at.same free)) group));
}

-- ---- names

blank_white : (text : List ℕ) → after is_blank text ≡ beyond_white text
unfolding beyond_all
blank_white [] = refl
blank_white (c ∷ cs) = ap (λ (x : List ℕ). if is_white c then x else c ∷ cs) (blank_white cs)

strip_split : (word bytes end : List ℕ) → strip word bytes ≡ Some end → bytes ≡ word ++ end
strip_split word bytes end e = go (pointwise nat_eq (take (length word) bytes) word) refl e
  where
    go : (x : Bool) → pointwise nat_eq (take (length word) bytes) word ≡ x → (if x then Some (drop (length word) bytes) else None) ≡ Some end → bytes ≡ word ++ end
    go true is e =
        let same = (bytes_eq-Decides (take (length word) bytes) word).0 is in
        let rest : drop (length word) bytes ≡ end = cc in
        sym (take-append-drop (length word) bytes) ∙ ap₂ (λ (x y : List ℕ). x ++ y) same rest
    go false is e = absurd cc

-- after white space comes the word
after_word_split : (word text end : List ℕ) → after_word word text ≡ Some end → beyond_white text ≡ word ++ end
after_word_split word text end e = sym (blank_white text) ∙ strip_split word (after is_blank text) end e

-- bytes of a string that are no escapes
abbrev is_plain : ℕ → Bool
is_plain c = if c == 34 then false else (if c == 92 then false else (if nat_lt c 32 then false else true))

plain_parts : (c : ℕ) → is_plain c ≡ true → ((c == 34) ≡ false) × ((c == 92) ≡ false) × (nat_lt c 32 ≡ false)
plain_parts c = go (c == 34) (c == 92) (nat_lt c 32)
  where
    go : (x y z : Bool) → (if x then false else (if y then false else (if z then false else true))) ≡ true → (x ≡ false) × (y ≡ false) × (z ≡ false)
    go true y z e = absurd (false≢true e)
    go false true z e = absurd (false≢true e)
    go false false true e = absurd (false≢true e)
    go false false false e = (refl, refl, refl)

plain_items : (n : ℕ) (name end : List ℕ) → list_all is_plain name ≡ true → length name ≤ n → beyond_items (λ b. b == 34) beyond_character (suc n) (name ++ 34 ∷ end) ≡ Ok end
unfolding beyond_items beyond_character
plain_items n [] end plain le = refl
plain_items zero (c ∷ cs) end plain le = absurd (omega (arith, le))
plain_items (suc n) (c ∷ cs) end plain le =
    let both = and_parts (is_plain c) (list_all is_plain cs) plain in
    let p = plain_parts c both.0 in
    let more = plain_items n cs end both.1 (omega (arith, le)) in
    rw (p.0, p.1, p.2) more

plain_string : (name end : List ℕ) → list_all is_plain name ≡ true → beyond_string (name ++ 34 ∷ end) ≡ Ok end
unfolding beyond_string
plain_string name end plain =
    let size : length (name ++ 34 ∷ end) ≡ suc (length name + length end) = omega (arith, length-append name (34 ∷ end)) in
    ap (λ (n : ℕ). beyond_items (λ b. b == 34) beyond_character n (name ++ 34 ∷ end)) size ∙ plain_items (length name + length end) name end plain (omega arith)

module _ (name inside end : List ℕ) (plain : list_all is_plain name ≡ true) (first : after_word (34 ∷ (name ++ 34 ∷ [])) inside ≡ Some end) where
  white_is : beyond_white inside ≡ 34 ∷ (name ++ 34 ∷ end)
  white_is = after_word_split (34 ∷ (name ++ 34 ∷ [])) inside end first ∙ ap (λ (x : List ℕ). 34 ∷ x) (append_assoc name (34 ∷ []) end)

  passed_is : (beyond_word (codes "\"") (beyond_white inside) >>= beyond_string) ≡ Ok end
  passed_is = ap (λ (x : List ℕ). beyond_word (codes "\"") x >>= beyond_string) white_is ∙ ap (λ (r : Beyond). r >>= beyond_string) (word_passes (codes "\"") (name ++ 34 ∷ end)) ∙ plain_string name end plain

  quoted_is : quoted_name inside ≡ 34 ∷ (name ++ 34 ∷ [])
  unfolding quoted_name
  quoted_is =
      let here = beyond_white inside in
      let word = 34 ∷ (name ++ 34 ∷ []) in
      let split : here ≡ word ++ end = after_word_split word inside end first in
      let size : length here - length end ≡ length word = omega (arith, ap (λ (x : List ℕ). length x) split, length-append word end) in
      ap (quoted_between here) passed_is ∙ ap (λ (n : ℕ). take n here) size ∙ ap (take (length word)) split ∙ take_at word end (length word) refl

  name_after : (rest : List ℕ) → beyond_name inside ≡ Ok rest → beyond_white end ≡ 58 ∷ rest
  unfolding beyond_name
  name_after rest e = word_split (codes ":") (beyond_white end) rest (ap (λ (r : Beyond). r >>= λ x. beyond_word (codes ":") (beyond_white x)) (sym passed_is) ∙ e)

-- a name, up to what follows its colon
name_steps : (text rest : List ℕ) → beyond_name text ≡ Ok rest → Steps text rest
unfolding beyond_name
name_steps text rest e =
    let s = bind_ok (beyond_word (codes "\"") (beyond_white text) >>= beyond_string) (λ (x : List ℕ). beyond_word (codes ":") (beyond_white x)) rest e in
    let q = bind_ok (beyond_word (codes "\"") (beyond_white text)) beyond_string s.0 s.1 in
    let quote = word_split (codes "\"") (beyond_white text) q.0 q.1 in
    let colon = word_split (codes ":") (beyond_white s.0) rest s.2 in
    after_white text (34 ∷ q.0) rest quote (steps_on (34 ∷ q.0) s.0 rest (string_steps q.0 s.0 q.2) (after_white s.0 (58 ∷ rest) rest colon (other_step 58 rest refl refl refl)))

-- ---- objects

map_or_cases : {A B : Type 0} (f : A → B) (o : Option A) (b x : B) → option_map_or f o b ≡ x → ((a : A) × (o ≡ Some a) × (f a ≡ x)) ⊎ ((o ≡ None) × (b ≡ x))
map_or_cases f None b x e = inr (refl, e)
map_or_cases f (Some a) b x e = inl (a, refl, e)

some_same : {A : Type 0} (a b : A) → Some a ≡ Some b → a ≡ b
some_same a b e = cc

strings_are : {A B : Type 0} (a b : A) (x y : B) → ◌≡◌ {A = Option (A × B)} (Some (a, x)) (Some (b, y)) → x ≡ y
strings_are {A} {B} a b x y e =
    let one : A × B = (a, x) in
    let other : A × B = (b, y) in
    ap (λ (p : A × B). p.1) (some_same one other e)

no_some : {A : Type 0} (a : A) → None ≡ Some a → ⊥
no_some a e = cc

members_have : (ms : List (List ℕ × Json)) → MembersFree (members_of ms) → AllHave (λ m. Free m.1) ms
members_have [] free = tt
members_have (m ∷ ms) free = (free.0, members_have ms free.1)

first_member : {J : Type 0} (Q : List ℕ → J → Type 0) (part : List ℕ → Beyond) (inside t : List ℕ) (list : List J) → beyond_white inside ≡ 34 ∷ t → Pairs Q (parts_in (λ b. b == 125) part inside) list
    → (m : J) × (ms : List J) × (list ≡ m ∷ ms) × Q inside m
unfolding parts_in parts_from
first_member Q part inside t [] white are = absurd (rw white at are)
first_member Q part inside t (m ∷ ms) white are = (m, ms, refl, (rw white at are).0)

-- a string alone is its text without its quotation marks
unquoted_is : (name : List ℕ) → are_ascii (34 ∷ (name ++ 34 ∷ [])) ≡ true → tokens_from fresh (34 ∷ (name ++ 34 ∷ [])) ≡ words.string name ∷ [] → unquoted (34 ∷ (name ++ 34 ∷ [])) ≡ name
unfolding value
unquoted_is name ascii is =
    let bytes = 34 ∷ (name ++ 34 ∷ []) in
    ap (λ (o : Option Json). unwrap_or (option_and_then as_str o) []) (json_alone bytes (kit.string name) [] (words.string name ∷ []) (IsUtf8-are_ascii bytes ascii) is refl)

double_unquoted : unquoted (codes "\"$numberDouble\"") ≡ codes "$numberDouble"
unfolding lex punctuate content
double_unquoted = unquoted_is (codes "$numberDouble") refl refl

decimal_unquoted : unquoted (codes "\"$numberDecimal\"") ≡ codes "$numberDecimal"
unfolding lex punctuate content
decimal_unquoted = unquoted_is (codes "$numberDecimal") refl refl

date_unquoted : unquoted (codes "\"$date\"") ≡ codes "$date"
unfolding lex punctuate content
date_unquoted = unquoted_is (codes "$date") refl refl

uuid_unquoted : unquoted (codes "\"$uuid\"") ≡ codes "$uuid"
unfolding lex punctuate content
uuid_unquoted = unquoted_is (codes "$uuid") refl refl

double_wrapper : wrapper_of (codes "$numberDouble") ≡ Some wrappers.NumberDouble
unfolding wrapper_of
double_wrapper = refl

decimal_wrapper : wrapper_of (codes "$numberDecimal") ≡ Some wrappers.NumberDecimal
unfolding wrapper_of
decimal_wrapper = refl

date_wrapper : wrapper_of (codes "$date") ≡ Some wrappers.Date
unfolding wrapper_of
date_wrapper = refl

uuid_wrapper : wrapper_of (codes "$uuid") ≡ Some wrappers.Uuid
unfolding wrapper_of
uuid_wrapper = refl

module _ (level : ℕ) (inside : List ℕ) (list : List (List ℕ × Json)) (are : Pairs (Member (Goes level)) (members_in (beyond_value level) inside) list) (free : FirstFree (members_of list)) where
  -- the first member has this name
  named_first : (name end : List ℕ) (w : Wrapper) → list_all is_plain name ≡ true → unquoted (34 ∷ (name ++ 34 ∷ [])) ≡ name → wrapper_of name ≡ Some w
      → after_word (34 ∷ (name ++ 34 ∷ [])) inside ≡ Some end → (m : List ℕ × Json) × NoValue (Some w) m.1 × ((rest : List ℕ) × (beyond_name inside ≡ Ok rest) × Goes level rest m.1)
  named_first name end w plain decoded known first =
      let m = first_member (Member (Goes level)) (beyond_member (beyond_value level)) inside (name ++ 34 ∷ end) list (white_is name inside end plain first) are in
      let is : name ≡ m.0.0 = sym decoded ∙ ap unquoted (sym (quoted_is name inside end plain first)) ∙ m.3.0 in
      let none : NoValue (wrapper_of m.0.0) m.0.1 = subst (λ (ms : List (List ℕ × Json)). FirstFree (members_of ms)) m.2 free in
      (m.0, subst (λ (v : Option Wrapper). NoValue v m.0.1) (ap wrapper_of (sym is) ∙ known) none, m.3.1)

  -- a date is no text
  no_date : (end contents more : List ℕ) → after_word (codes "\"$date\"") inside ≡ Some end → last_string end ≡ Some (contents, more) → ⊥
  no_date end contents more first string =
      let d = named_first (codes "$date") end wrappers.Date refl date_unquoted date_wrapper first in
      let braced = then_there before_brace (option_and_then quoted (option_and_then (after_word (codes "\"")) (after_word (codes ":") end))) (contents, more) string in
      let inner = then_there quoted (option_and_then (after_word (codes "\"")) (after_word (codes ":") end)) braced.0 braced.1 in
      let opened = then_there (after_word (codes "\"")) (after_word (codes ":") end) inner.0 inner.1 in
      let colon : beyond_white end ≡ 58 ∷ opened.0 = after_word_split (codes ":") end opened.0 opened.1 in
      let same : 58 ∷ d.2.0 ≡ 58 ∷ opened.0 = sym (name_after (codes "$date") inside end refl first d.2.0 d.2.1) ∙ colon in
      let rest : d.2.0 ≡ opened.0 = ap (drop 1) same in
      let quote : beyond_white d.2.0 ≡ 34 ∷ inner.0 = ap beyond_white rest ∙ after_word_split (codes "\"") opened.0 inner.0 opened.2 in
      let yes : is_string d.2.0 ≡ true = ap (begins (λ b. b == 34)) quote in
      let no : is_string d.2.0 ≡ false = d.2.2.string ∙ ap is_some d.1 in
      true≢false (sym yes ∙ no)

  no_value : (v : WideValue) (more : List ℕ) → BeginsValue (123 ∷ inside) v more → ⊥
  no_value v more (type, contents, at, meant) =
      elim (map_or_cases _ (after_word (codes "\"$numberDouble\"") inside) _ _ at) [
        | inl (end, first, is) ↦ (named_first (codes "$numberDouble") end wrappers.NumberDouble refl double_unquoted double_wrapper first).1
        | inr (none, at) ↦ elim (map_or_cases _ (after_word (codes "\"$numberDecimal\"") inside) _ _ at) [
          | inl (end, first, is) ↦ (named_first (codes "$numberDecimal") end wrappers.NumberDecimal refl decimal_unquoted decimal_wrapper first).1
          | inr (none, at) ↦ elim (map_or_cases _ (after_word (codes "\"$date\"") inside) _ _ at) [
            | inl (end, first, is) ↦ no_date end contents more first (strings_are _ type (last_string end) (Some (contents, more)) is)
            | inr (none, at) ↦ elim (map_or_cases _ (after_word (codes "\"$uuid\"") inside) _ _ at) [
              | inl (end, first, is) ↦ (named_first (codes "$uuid") end wrappers.Uuid refl uuid_unquoted uuid_wrapper first).1
              | inr (none, at) ↦ no_some (type, Some (contents, more)) at
            ]
          ]
        ]
      ]

member_steps : (level : ℕ) (text mid : List ℕ) (m : List ℕ × Json) → Member (Goes level) text m → Free m.1 → beyond_member (beyond_value level) text ≡ Ok mid → Ends mid → Steps text mid
member_steps level text mid m (named, (rest, went, is)) free passed ends =
    let value : beyond_value level rest ≡ Ok mid = ap (λ (r : Beyond). r >>= beyond_value level) (sym went) ∙ passed in
    steps_on text rest mid (name_steps text rest went) (is.steps free mid value ends)

object_goes : (level : ℕ) (text : List ℕ) (ms : kit.Members) → ObjectAt (Goes level) (beyond_value level) (beyond_white text) ms → Goes (suc level) text (kit.object ms)
unfolding beyond_value
object_goes level text ms at = record {
  string = (rw at.opens refl);
  steps = λ free rest passed ends.
      let group : beyond_object (beyond_value level) at.inside ≡ Ok rest = (rw at.opens at passed) in
      let first = subst FirstFree at.same free.0 in
      after_white text (123 ∷ at.inside) rest at.opens (steps_on (123 ∷ at.inside) at.inside rest (byte_step 123 at.inside refl refl (no_value level at.inside at.list at.are first))
      (group_steps (λ b. b == 125) 125 (λ b e. eqb-true b 125 e) refl refl refl (beyond_member (beyond_value level)) (Member (Goes level)) (λ m. Free m.1) (member_steps level)
      at.inside rest at.list at.are (members_have at.list (subst MembersFree at.same free.1)) group));
}

-- ---- any value

flat_goes : (P : List ℕ → Json → Type 0) (part : List ℕ → Beyond) (text : List ℕ) (j : Json) → depth j ≤ 0 → Shape P part (beyond_white text) j → Goes 0 text j
flat_goes P part text kit.null low (t, e) = null_goes 0 text t e
flat_goes P part text (kit.boolean b) low (t, e) = boolean_goes 0 text b t e
flat_goes P part text (kit.number s) low n = number_goes 0 text s n
flat_goes P part text (kit.string s) low (t, e) = string_goes 0 text s t e
flat_goes P part text (kit.array js) low a = absurd (omega (arith, low))
flat_goes P part text (kit.object ms) low o = absurd (omega (arith, low))

deep_goes : (level : ℕ) (text : List ℕ) (j : Json) → suc level ≤ most_brackets → depth j ≤ suc level → Shape (Goes level) (beyond_value level) (beyond_white text) j → Goes (suc level) text j
deep_goes level text kit.null le low (t, e) = null_goes (suc level) text t e
deep_goes level text (kit.boolean b) le low (t, e) = boolean_goes (suc level) text b t e
deep_goes level text (kit.number s) le low n = number_goes (suc level) text s n
deep_goes level text (kit.string s) le low (t, e) = string_goes (suc level) text s t e
deep_goes level text (kit.array js) le low a = array_goes level text js a
deep_goes level text (kit.object ms) le low o = object_goes level text ms o

-- ---- a whole text

reads_json : (text : List ℕ) (d : Doc) → ReadsAs text d → (j : Json) × (json text ≡ Some j) × ((t : Tree) × (wrap most_levels j ≡ Some t))
reads_json text d reads =
    let f = there pairs_of (option_and_then document (option_and_then (wrap most_levels) (json text))) d reads in
    let t = then_there document (option_and_then (wrap most_levels) (json text)) f.0 f.1 in
    let j = then_there (wrap most_levels) (json text) t.0 t.1 in
    (j.0, j.1, (t.0, j.2))

no_err : (text : List ℕ) (r : Beyond) → fault_after text r ≡ None → (rest : List ℕ) × (r ≡ Ok rest)
no_err text (Ok rest) e = (rest, refl)
no_err text (Err stop) e = absurd cc

last_is : (i j : Json) (ts : List Token) → if_last i ts ≡ Some j → i ≡ j
last_is i j [] e = cc
last_is i j (t ∷ ts) e = absurd cc

no_bytes : (text : List ℕ) → (length text == 0) ≡ true → text ≡ []
no_bytes [] e = refl
no_bytes (c ∷ cs) e = absurd (let none : suc (length cs) ≡ 0 = eqb-true (length (c ∷ cs)) 0 e in omega (arith, none))

-- the text is a value, and white space
record Whole (text : List ℕ) : Type 0 where
  rest : List ℕ
  passed : beyond_value most_brackets text ≡ Ok rest
  white : beyond_white rest ≡ []

whole_text : (text rest : List ℕ) → beyond_text text ≡ Ok rest → Whole text
unfolding beyond_text
whole_text text rest e =
    let v = bind_ok (beyond_value most_brackets text) (λ (x : List ℕ). last (beyond_white x)) rest e in
    record { rest = v.0; passed = v.1; white = no_bytes (beyond_white v.0) (ended v.0 (length (beyond_white v.0) == 0) refl v.2) }
  where
    ended : (x : List ℕ) (b : Bool) → (length (beyond_white x) == 0) ≡ b → last (beyond_white x) ≡ Ok rest → b ≡ true
    ended x true is e = refl
    ended x false is e = absurd (no_ok _ rest (rw is at e))

module _ (text : List ℕ) (d : Doc) (reads : ReadsAs text d) where
  no_fault : first_fault_in text ≡ None
  no_fault = (no_fault_where_read text).1 (d, reads)

  sound : (is_utf8 text ≡ true) × (fault_after text (beyond_text text) ≡ None)
  unfolding first_fault_in
  sound = go (is_utf8 text) refl no_fault
    where
      go : (b : Bool) → is_utf8 text ≡ b → (if b then fault_after text (beyond_text text) else Some (record { kind = Syntax; at = utf8_valid_len text })) ≡ None
          → (is_utf8 text ≡ true) × (fault_after text (beyond_text text) ≡ None)
      go true is e = (is, e)
      go false is e = absurd cc

  -- the value that the text is
  value_goes : (w : Whole text) → (j : Json) × Goes most_brackets text j × Free j
  value_goes w = go (subst (Meets (Goes most_brackets) most_brackets text) w.passed (value_meets Goes most_brackets flat_goes deep_goes most_brackets (omega arith) text))
    where
      meant : (j : Json) × (json text ≡ Some j) × ((t : Tree) × (wrap most_levels j ≡ Some t))
      meant = reads_json text d reads

      json_is : json text ≡ option_and_then (λ (p : Json × List Token). if_last p.0 p.1) (value most_brackets (tokens text))
      json_is = ap (λ (b : Bool). if b then option_and_then (λ (p : Json × List Token). if_last p.0 p.1) (value most_brackets (tokens text)) else None) sound.0

      go : Meets (Goes most_brackets) most_brackets text (Ok w.rest) → (j : Json) × Goes most_brackets text j × Free j
      go (inl a) =
          let is : value most_brackets (tokens text) ≡ Some (a.value, tokens_from after_value w.rest) =
          ap (value most_brackets) (ap (tokens_from fresh) a.split.0 ∙ a.read fresh refl w.rest a.here)
          ∙ value-json_tokens a.value most_brackets (tokens_from after_value w.rest) a.shallow in
          let last : if_last a.value (tokens_from after_value w.rest) ≡ Some meant.0 =
          sym (ap (option_and_then (λ (p : Json × List Token). if_last p.0 p.1)) is) ∙ sym json_is ∙ meant.1 in
          let same = last_is a.value meant.0 (tokens_from after_value w.rest) last in
          (a.value, a.means (IsUtf8-from_is_utf8 text sound.0), subst Free (sym same) (wrap_free most_levels meant.0 meant.2.0 meant.2.1))
      go (inr (no_end, fails)) =
          let none : json text ≡ None = json_is ∙ ap (option_and_then (λ (p : Json × List Token). if_last p.0 p.1)) (fails fresh refl) in
          let both : None ≡ Some meant.0 = sym none ∙ meant.1 in
          absurd cc

  pub taken_has_none : (ps : List Piece) → ArePieces text ps → all_values ps ≡ []
  taken_has_none ps are =
      let r = no_err text (beyond_text text) sound.1 in
      let w = whole_text text r.0 r.1 in
      let v = value_goes w in
      let ends = ends_white w.rest (subst Ends (sym w.white) refl) in
      let first = v.1.steps v.2 w.rest w.passed ends ps are in
      let second = white_steps w.rest first.0 first.1 in
      let last = subst (λ (t : List ℕ). ArePieces t second.0) w.white second.1 in
      first.2 ∙ second.2 ∙ sym (alike [] second.0 [] refl last).values
