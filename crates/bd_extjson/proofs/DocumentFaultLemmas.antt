-- A text has no fault exactly if it is read as a document.
use Rattle.std.proofs.Common.{◌≡◌, ◌==◌, ◌&&◌, ◌↔◌, inl, inr, refl, sym, ap, ap₂, ◌∙◌, subst, not, ℕ, suc, Bool, true, false, List, [], ◌∷◌, ◌++◌, length, Option}
use Rattle.std.proofs.Common.{Some, None, Ok, Err, arith}
use Rattle.std.proofs.Common.{is_some}
use Rattle.std.specs.Prelude.{option_and_then, if◌then◌else◌}
use Rattle.std.specs.{Option.is_none, Str.is_utf8}
use Rattle.std.proofs.lemmas.Bool.{false≢true, true≢false, and_from, ne_eqb}
use Rattle.std.proofs.lemmas.Str.{IsUtf8-from_is_utf8}
use Rattle.json.specs.Json.{Json, value, if_last}
use Rattle.json.specs.Word.{ends_word}
use Rattle.json.specs.Token.{Token}
use Rattle.json.specs.Lex.{fresh, after_value, tokens}
use Rattle.json.specs.Tree.{depth, json_tokens}
use Rattle.json.proofs.Found.{not_found}
use Rattle.json.proofs.Printed.Trees.{value-json_tokens}
use Rattle.bd_value.specs.{Limits.most_brackets, Limits.most_levels}
use Rattle.bd_value.specs.Tree.{pairs_of, Doc}
use Rattle.bd_extjson_fault.specs.JsonSyntax.{Beyond, begins, is_white, beyond_white, beyond_value, beyond_text}
use Rattle.bd_extjson_fault.specs.TreeFault.{opens_document, value_fault}
use Rattle.bd_extjson_fault.specs.TextFault.{first_fault_in, fault_after, tree_or_none}
use Rattle.bd_extjson.specs.Read.{wrap, json, document, reading, ReadsAs}
use Rattle.bd_extjson.proofs.ByteLemmas.{tokens_from, is_end, white_passed, white_tokens, white_stops}
use Rattle.bd_extjson.proofs.ScalarLemmas.{Passed, Meets}
use Rattle.bd_extjson.proofs.ValueLemmas.{after_none, value_meets, some_behind}
use Rattle.bd_extjson.proofs.ValueFaultLemmas.{ValueIs, flat_value, deep_value, wrap_plain, some_map, none_if}

-- ---- a whole text

-- where only white space comes next, a value has ended
all_white : (text : List ℕ) → beyond_white text ≡ [] → is_end text ≡ true
all_white text e =
    let w = white_passed text in
    let same : text ≡ w.prefix ++ [] = w.split.0 ∙ ap (λ l. w.prefix ++ l) e in
    and_from (ends_word text) (not (begins (λ b. b == 58) (beyond_white text))) (ap ends_word same ∙ w.ends [] refl) (ap (λ l. not (begins (λ b. b == 58) l)) e)

-- the text is that value, or none
abbrev Reads : List ℕ → Beyond → Type 0
Reads text (Ok rest) = (j : Json) × (json text ≡ Some j) × ValueIs most_brackets text j
Reads text (Err stop) = json text ≡ None

-- the value, if no token is after it
abbrev last_of : Option (Json × List Token) → Option Json
last_of o = option_and_then (λ p. if_last p.0 p.1) o

module _ (text : List ℕ) (utf8 : is_utf8 text ≡ true) where
  json_is_last : json text ≡ last_of (value most_brackets (tokens text))
  json_is_last = ap (λ b. if b then last_of (value most_brackets (tokens text)) else None) utf8

  no_json : value most_brackets (tokens text) ≡ None → json text ≡ None
  no_json e = json_is_last ∙ ap last_of e

  json_of : (j : Json) (ts : List Token) → value most_brackets (tokens text) ≡ Some (j, ts) → json text ≡ if_last j ts
  json_of j ts e = json_is_last ∙ ap last_of e

  text_values : Meets (ValueIs most_brackets) most_brackets text (beyond_value most_brackets text)
  text_values = value_meets ValueIs most_brackets flat_value deep_value most_brackets (omega arith) text

  -- the value that was passed, and the tokens after it
  value_is : (rest : List ℕ) (a : Passed json_tokens depth (ValueIs most_brackets) most_brackets text rest)
      → value most_brackets (tokens text) ≡ Some (a.value, tokens_from after_value rest)
  value_is rest a = ap (value most_brackets) (ap (tokens_from fresh) a.split.0 ∙ a.read fresh refl rest a.here)
      ∙ value-json_tokens a.value most_brackets (tokens_from after_value rest) a.shallow

  text_reads : Reads text (beyond_text text)
  unfolding beyond_text
  text_reads = go (beyond_value most_brackets text) refl text_values
    where
      not_zero : (n : ℕ) → (suc n == 0) ≡ false
      not_zero n = ne_eqb (suc n) 0 (λ e. omega arith)

      behind : (rest : List ℕ) → beyond_value most_brackets text ≡ Ok rest → Passed json_tokens depth (ValueIs most_brackets) most_brackets text rest
          → (w : List ℕ) → beyond_white rest ≡ w → Reads text (beyond_text text)
      behind rest is a [] e = rw (is, e) (
        a.value,
        json_of a.value _ (value_is rest a) ∙ ap (if_last a.value) (white_tokens after_value rest ∙ ap (tokens_from after_value) e ∙ after_none),
        a.means (IsUtf8-from_is_utf8 text utf8),
      )
      behind rest is a (x ∷ xs) e = rw (is, e, not_zero (length xs)) (json_of a.value _ (value_is rest a)
          ∙ ap (if_last a.value) (white_tokens after_value rest ∙ ap (tokens_from after_value) e) ∙ some_behind a.value x xs (subst (λ w. begins is_white w ≡ false) e (white_stops rest)))

      wrong : (rest : List ℕ) → beyond_value most_brackets text ≡ Ok rest → is_end rest ≡ false → json text ≡ None → (w : List ℕ) → beyond_white rest ≡ w → Reads text (beyond_text text)
      wrong rest is no_end none [] e = absurd (true≢false (sym (all_white rest e) ∙ no_end))
      wrong rest is no_end none (x ∷ xs) e = rw (is, e, not_zero (length xs)) none

      go : (r : Beyond) → beyond_value most_brackets text ≡ r → Meets (ValueIs most_brackets) most_brackets text r → Reads text (beyond_text text)
      go (Err stop) is h = rw is (no_json (h fresh refl))
      go (Ok rest) is (inl a) = behind rest is a (beyond_white rest) refl
      go (Ok rest) is (inr (no_end, h)) = wrong rest is no_end (no_json (h fresh refl)) (beyond_white rest) refl

-- ---- the law

-- what the fields of a value and its document say of a text
some_reading : (text : List ℕ) (j : Json) → json text ≡ Some j → is_some (reading text) ≡ is_some (option_and_then document (wrap most_levels j))
some_reading text j is = some_map pairs_of (option_and_then document (option_and_then (wrap most_levels) (json text)))
    ∙ ap (λ o. is_some (option_and_then document (option_and_then (wrap most_levels) o))) is

no_reading : (text : List ℕ) → json text ≡ None → is_some (reading text) ≡ false
no_reading text is = some_map pairs_of (option_and_then document (option_and_then (wrap most_levels) (json text)))
    ∙ ap (λ o. is_some (option_and_then document (option_and_then (wrap most_levels) o))) is

of_utf8 : (text : List ℕ) → is_utf8 text ≡ true → first_fault_in text ≡ fault_after text (beyond_text text)
unfolding first_fault_in
of_utf8 text e = rw e refl

no_utf8 : (text : List ℕ) → is_utf8 text ≡ false → (is_none (first_fault_in text) ≡ false) × (json text ≡ None)
unfolding first_fault_in
no_utf8 text e = (rw e refl, rw e refl)

none_of_tree : (text : List ℕ) → is_none (tree_or_none text (value_fault most_brackets most_levels text)) ≡ (is_none (value_fault most_brackets most_levels text) && opens_document text)
none_of_tree text = (elim (value_fault most_brackets most_levels text) as (λ o. is_none (tree_or_none text o) ≡ (is_none o && opens_document text)) [
  | None ↦ none_if (opens_document text) _
  | Some x ↦ refl
])

fault_agrees : (text : List ℕ) → is_none (first_fault_in text) ≡ is_some (reading text)
fault_agrees text = by_utf8 (is_utf8 text) refl
  where
    after : (r : Beyond) → Reads text r → is_none (fault_after text r) ≡ is_some (reading text)
    after (Err stop) none = sym (no_reading text none)
    after (Ok rest) (j, is, meaning) = none_of_tree text ∙ ap₂ (λ x y. x && y) (meaning.fault most_levels) meaning.plain ∙ sym (wrap_plain most_levels j) ∙ sym (some_reading text j is)

    by_utf8 : (b : Bool) → is_utf8 text ≡ b → is_none (first_fault_in text) ≡ is_some (reading text)
    by_utf8 true e = ap is_none (of_utf8 text e) ∙ after (beyond_text text) (text_reads text e)
    by_utf8 false e = let n = no_utf8 text e in n.0 ∙ sym (no_reading text n.1)

-- one option is none exactly if the other is some
iff_from_tests : {A B : Type 0} (o : Option A) (r : Option B) → is_none o ≡ is_some r → (o ≡ None) ↔ ((b : B) × (r ≡ Some b))
iff_from_tests None None e = absurd (true≢false e)
iff_from_tests None (Some b) e = (λ n. (b, refl), λ s. refl)
iff_from_tests (Some a) None e = (λ n. not_found a (sym n), λ s. not_found s.0 s.1)
iff_from_tests (Some a) (Some b) e = absurd (false≢true e)

-- a text has no fault exactly if it is a document
pub no_fault_where_read : (text : List ℕ) → (first_fault_in text ≡ None) ↔ ((d : Doc) × ReadsAs text d)
no_fault_where_read text = iff_from_tests (first_fault_in text) (reading text) (fault_agrees text)
