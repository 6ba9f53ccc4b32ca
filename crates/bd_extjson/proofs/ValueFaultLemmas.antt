-- A value that is JSON has no fault exactly if it means a value.
use Rattle.std.proofs.Common.{◌≡◌, ◌≤◌, ◌==◌, ◌||◌, ◌&&◌, ◌-◌, ◌⊎◌, ◌↔◌, inl, inr, refl, sym, ap, ap₂, ◌∙◌, subst, not, ℕ, zero, suc, Bool, true, false, List, []}
use Rattle.std.proofs.Common.{◌∷◌, ◌++◌, map, length, take, drop, Option, Some, None, Ok, Err, arith}
use Rattle.std.proofs.Common.{append-nil, length-append, is_some}
use Rattle.std.specs.Prelude.{option_and_then, option_map, IsUtf8, if◌then◌else◌, nat_lt, ℤ}
use Rattle.std.specs.{Option.option_or, Option.is_none, Result.result_ok}
use Rattle.std.proofs.Math.Seq.{take-append_seam}
use Rattle.std.proofs.lemmas.Bool.{eqb-true, false≢true, true≢false, and_left, and_right, le-ltb}
use Rattle.json.specs.Find.{as_str}
use Rattle.json.specs.Json as kit
use Rattle.json.specs.Json.{Json, value, if_last}
use Rattle.json.specs.Lex.{fresh}
use Rattle.json.specs.Tree.{depth, json_tokens}
use Rattle.json.proofs.Found.{not_found}
use Rattle.json.proofs.Printed.Trees.{value-json_tokens}
use Rattle.bd_value.specs.{Limits.most_brackets, Fits.has_zero}
use Rattle.bd_value.specs.Tree as trees
use Rattle.bd_value.specs.Tree.{Tree, leaf, doc, array, code_scope, Items, no_items, item, Fields, no_fields, field, pairs_of}
use Rattle.bd_extjson_wrapper.specs.WholeNumber.{are_digits, unsigned, whole, whole_64}
use Rattle.bd_extjson_wrapper.specs.Wrapper.{wrapper_of, is_code_name, is_scope_name, single}
use Rattle.bd_extjson_wrapper.specs.declared.wrapper.Wrapper.{Wrapper}
use Rattle.bd_extjson_wrapper.specs.declared.wrapper.Wrapper.TheVariants as wrappers
use Rattle.bd_extjson_fault.specs.JsonSyntax.{Beyond, begins, beyond_white, beyond_word, beyond_name, beyond_object, beyond_value, beyond_number, beyond_natural}
use Rattle.bd_extjson_fault.specs.JsonSyntax.{beyond_digits, opens_object, opens_array}
use Rattle.bd_extjson_fault.specs.TreeFault.{Part, bytes_before, number_between, number_fault, scalar_fault, first_wrapper, if_named, unquoted, quoted_name}
use Rattle.bd_extjson_fault.specs.TreeFault.{name_fault, member_fault, members_in, parts_in, parts_from, first_in, rest_of, array_fault, document_fault, is_string}
use Rattle.bd_extjson_fault.specs.TreeFault.{opens_document, scope_fault, part_of, code_fault, object_fault, object_fault_by, object_fault_of, members_fault}
use Rattle.bd_extjson_fault.specs.TreeFault.{wrapper_fault, is_outside_profile, json_in, value_fault, fault_at}
use Rattle.bd_extjson_fault.proofs.FindingLemmas.{fault_scalar, fault_object, fault_array}
use Rattle.bd_extjson_fault.proofs.TreeFaultLemmas.{value_or_fault}
use Rattle.bd_extjson.specs.Read.{bare_number, nested, add_item, add_field, with_scope, two, wrap, wrap_items, wrapped, wrap_fields, document}
use Rattle.bd_extjson.proofs.ByteLemmas.{tokens_from}
use Rattle.bd_extjson.proofs.ScalarLemmas.{Pairs, Member, Shape, NumberAt, ArrayAt, ObjectAt, items_of, members_of}
use Rattle.bd_extjson.proofs.ValueLemmas.{json_alone}

-- the first name of an object is none of a wrapper
abbrev pub is_plain_object : Json → Bool
is_plain_object (kit.object kit.no_members) = true
is_plain_object (kit.object (kit.member n j ms)) = is_none (wrapper_of n)
is_plain_object _ = false

-- what the text of a value says of what it means
pub record ValueIs (level : ℕ) (text : List ℕ) (j : Json) : Type 0 where
  pub fault : (depth_left : ℕ) → is_none (value_fault level depth_left text) ≡ is_some (wrap depth_left j)
  pub string : is_string text ≡ is_some (as_str j)
  pub plain : opens_document text ≡ is_plain_object j

-- ---- tests of options

none_or : {A : Type 0} (a b : Option A) → is_none (option_or a b) ≡ (is_none a && is_none b)
none_or None b = refl
none_or (Some x) b = refl

-- a value that is mapped is there exactly if it was
pub some_map : {A B : Type 0} (f : A → B) (o : Option A) → is_some (option_map f o) ≡ is_some o
some_map f None = refl
some_map f (Some x) = refl

some_item : (a : Option Tree) (b : Option Items) → is_some (add_item a b) ≡ (is_some a && is_some b)
some_item None b = refl
some_item (Some t) None = refl
some_item (Some t) (Some ts) = refl

some_field : (name : List ℕ) (a : Option Tree) (b : Option Fields) → is_some (add_field name a b) ≡ ((not (has_zero name) && is_some a) && is_some b)
some_field name a b = go (has_zero name) refl a b
  where
    go : (z : Bool) → has_zero name ≡ z → (a : Option Tree) (b : Option Fields) → is_some (add_field name a b) ≡ ((not (has_zero name) && is_some a) && is_some b)
    go true e None b = rw e refl
    go true e (Some t) None = rw e refl
    go true e (Some t) (Some fs) = rw e refl
    go false e None b = rw e refl
    go false e (Some t) None = rw e refl
    go false e (Some t) (Some fs) = rw e refl

less_one : (n : ℕ) → suc n - 1 ≡ n
less_one n = omega arith

none_then : {A B : Type 0} (f : A → Option B) → ((x : A) → is_none (f x) ≡ false) → (o : Option A) → is_none (option_and_then f o) ≡ is_none o
none_then f some None = refl
none_then f some (Some x) = some x

-- ---- values without brackets

is_whole : (s : List ℕ) → is_some (whole_64 s) ≡ true → are_digits (unsigned s) ≡ true
unfolding whole
is_whole [] e = absurd (false≢true e)
is_whole (c ∷ cs) e = by_tests (c == 45) (are_digits cs) (are_digits (c ∷ cs)) refl refl refl
  where
    by_tests : (m a b : Bool) → (c == 45) ≡ m → are_digits cs ≡ a → are_digits (c ∷ cs) ≡ b → are_digits (unsigned (c ∷ cs)) ≡ true
    by_tests true true b p q r = rw (p, q) refl
    by_tests true false b p q r = absurd (false≢true (rw (p, q) at e))
    by_tests false a true p q r = rw (p, r) refl
    by_tests false a false p q r = absurd (false≢true (rw (p, r) at e))

number_is : (s : List ℕ) → is_none (number_fault s) ≡ is_some (whole_64 s)
unfolding number_fault
number_is s = by_tests (is_some (whole_64 s)) (are_digits (unsigned s)) refl refl
  where
    by_tests : (w d : Bool) → is_some (whole_64 s) ≡ w → are_digits (unsigned s) ≡ d → is_none (number_fault s) ≡ is_some (whole_64 s)
    by_tests true true p q = rw (q, p) refl
    by_tests true false p q = absurd (false≢true (sym q ∙ is_whole s p))
    by_tests false true p q = rw (q, p) refl
    by_tests false false p q = rw (q, p) refl

some_bare : (d : ℕ) (s : List ℕ) → is_some (wrap d (kit.number s)) ≡ is_some (whole_64 s)
some_bare d s = go (whole_64 s)
  where
    go : (o : Option ℤ) → is_some (bare_number o) ≡ is_some o
    go None = refl
    go (Some z) = refl

module _ (level : ℕ) (text : List ℕ) where
  scalar_is : (j : Json) → opens_object (beyond_white text) ≡ false → opens_array (beyond_white text) ≡ false
      → ((d : ℕ) → is_none (scalar_fault (beyond_white text)) ≡ is_some (wrap d j)) → begins (λ b. b == 34) (beyond_white text) ≡ is_some (as_str j)
      → is_plain_object j ≡ false → ValueIs level text j
  scalar_is j o a fault string plain = record {
    fault = λ d. ap is_none (fault_scalar level d text o a) ∙ fault d;
    string = string;
    plain = and_left (opens_object (beyond_white text)) _ o ∙ sym plain;
  }

  module _ (c : ℕ) (t : List ℕ) (e : beyond_white text ≡ c ∷ t) where
    letter_is : (j : Json) → (c == 123) ≡ false → (c == 91) ≡ false → scalar_fault (c ∷ t) ≡ None → ((d : ℕ) → is_some (wrap d j) ≡ true) → (c == 34) ≡ is_some (as_str j)
        → is_plain_object j ≡ false → ValueIs level text j
    letter_is j o a none some string plain = scalar_is j (rw e o) (rw e a) (λ d. ap is_none (ap scalar_fault e ∙ none) ∙ sym (some d)) (rw e string) plain

  string_is : (s t : List ℕ) → beyond_white text ≡ 34 ∷ t → ValueIs level text (kit.string s)
  unfolding beyond_number beyond_natural beyond_digits
  string_is s t e = letter_is 34 t e (kit.string s) refl refl refl (λ d. refl) refl refl

  null_is : (t : List ℕ) → beyond_white text ≡ 110 ∷ t → ValueIs level text kit.null
  unfolding beyond_number beyond_natural beyond_digits
  null_is t e = letter_is 110 t e kit.null refl refl refl (λ d. refl) refl refl

  boolean_is : (b : Bool) (t : List ℕ) → (beyond_white text ≡ 116 ∷ t) ⊎ (beyond_white text ≡ 102 ∷ t) → ValueIs level text (kit.boolean b)
  unfolding beyond_number beyond_natural beyond_digits
  boolean_is b t (inl e) = letter_is 116 t e (kit.boolean b) refl refl refl (λ d. refl) refl refl
  boolean_is b t (inr e) = letter_is 102 t e (kit.boolean b) refl refl refl (λ d. refl) refl refl

  number_at : (s : List ℕ) → NumberAt (beyond_white text) s → ValueIs level text (kit.number s)
  number_at s (rest, went, whole, q, o, a) =
      let here = beyond_white text in
      let bytes : bytes_before rest here ≡ s = ap (λ n. take n here) (omega (arith, ap length whole, length-append s rest)) ∙ ap (take (length s)) whole ∙ take-append_seam s rest in
      scalar_is (kit.number s) o a
      (λ d. ap is_none (ap (number_between here) went ∙ ap (λ b. option_and_then (fault_at here) (number_fault b)) bytes)
      ∙ none_then (fault_at here) (λ x. refl) (number_fault s) ∙ number_is s ∙ sym (some_bare d s)) q refl

-- ---- arrays

module _ (level d : ℕ) where
  items_agree : (texts : List (List ℕ)) (list : List Json) → Pairs (ValueIs level) texts list
      → is_none (first_in (value_fault level d) texts) ≡ is_some (wrap_items d (items_of list))
  unfolding first_in
  items_agree [] [] are = refl
  items_agree [] (j ∷ list) are = absurd are
  items_agree (t ∷ texts) [] are = absurd are
  items_agree (t ∷ texts) (j ∷ list) (is, are) = none_or (value_fault level d t) (first_in (value_fault level d) texts)
      ∙ ap₂ (λ x y. x && y) (is.fault d) (items_agree texts list are) ∙ sym (some_item (wrap d j) (wrap_items d (items_of list)))

  fields_agree : (texts : List (List ℕ)) (list : List (List ℕ × Json)) → Pairs (Member (ValueIs level)) texts list
      → is_none (first_in (member_fault (value_fault level d)) texts) ≡ is_some (wrap_fields d (members_of list))
  unfolding first_in name_fault
  fields_agree [] [] are = refl
  fields_agree [] (m ∷ list) are = absurd are
  fields_agree (t ∷ texts) [] are = absurd are
  fields_agree (t ∷ texts) (m ∷ list) ((named, (after, went, is)), are) =
      none_or (member_fault (value_fault level d) t) (first_in (member_fault (value_fault level d)) texts)
      ∙ ap₂ (λ x y. x && y) (none_or (name_fault t) (value_fault level d (rest_of (beyond_name t)))
      ∙ ap₂ (λ x y. x && y) zeros (ap (λ r. is_none (value_fault level d (rest_of r))) went ∙ is.fault d))
      (fields_agree texts list are)
      ∙ sym (some_field m.0 (wrap d m.1) (wrap_fields d (members_of list)))
    where
      by_zero : (b : Bool) → has_zero (unquoted (quoted_name t)) ≡ b → is_none (name_fault t) ≡ not b
      by_zero true e = rw e refl
      by_zero false e = rw e refl

      zeros : is_none (name_fault t) ≡ not (has_zero m.0)
      zeros = by_zero (has_zero (unquoted (quoted_name t))) refl ∙ ap (λ n. not (has_zero n)) named

array_is : (level : ℕ) (text : List ℕ) (js : kit.Items) → ArrayAt (ValueIs level) (beyond_value level) (beyond_white text) js → ValueIs (suc level) text (kit.array js)
unfolding array_fault
array_is level text js a =
    let opens : opens_object (beyond_white text) ≡ false = rw a.opens refl in
    record {
      fault = λ d. ap is_none (fault_array (suc level) level d text refl opens (rw a.opens refl))
          ∙ ap is_none (ap₂ (λ x y. array_fault (beyond_value level) (value_fault level) d x y) a.opens (ap (drop 1) a.opens))
          ∙ by_depth d ∙ ap (λ i. is_some (wrap d (kit.array i))) (sym a.same);
      string = rw a.opens refl;
      plain = and_left (opens_object (beyond_white text)) _ opens;
    }
  where
    by_depth : (d : ℕ) → is_none (array_fault (beyond_value level) (value_fault level) d (91 ∷ a.inside) a.inside) ≡ is_some (wrap d (kit.array (items_of a.list)))
    by_depth zero = refl
    by_depth (suc d) = items_agree level d _ a.list a.are ∙ rw (less_one d) (sym (some_map array (wrap_items d (items_of a.list))))

-- ---- what is a document

with_scope_no_document : (o : Option (List ℕ)) (u : Option Tree) → is_some (option_and_then document (with_scope o u)) ≡ false
with_scope_no_document None u = refl
with_scope_no_document (Some s) None = refl
with_scope_no_document (Some s) (Some (leaf x)) = refl
with_scope_no_document (Some s) (Some (doc fs)) = refl
with_scope_no_document (Some s) (Some (array ts)) = refl
with_scope_no_document (Some s) (Some (code_scope c fs)) = refl

two_no_document : (w : Wrapper) (j : Json) (t : Option Tree) (v : Option Wrapper) (i : Json) (u : Option Tree) (ms : kit.Members)
    → is_some (option_and_then document (two w j t v i u ms)) ≡ false
two_no_document wrappers.Code j t (Some wrappers.Scope) i u kit.no_members = with_scope_no_document (as_str j) u
two_no_document wrappers.Scope j t (Some wrappers.Code) i u kit.no_members = with_scope_no_document (as_str i) t
two_no_document _ j t _ i u _ = refl

-- a value is read as a document exactly if it is read, and is an object without a wrapper's name first
pub wrap_plain : (d : ℕ) (j : Json) → is_some (option_and_then document (wrap d j)) ≡ (is_some (wrap d j) && is_plain_object j)
wrap_plain d kit.null = refl
wrap_plain d (kit.boolean b) = refl
wrap_plain d (kit.number s) = go (whole_64 s)
  where
    go : (o : Option ℤ) → is_some (option_and_then document (bare_number o)) ≡ (is_some (bare_number o) && false)
    go None = refl
    go (Some z) = refl
wrap_plain d (kit.string s) = refl
wrap_plain zero (kit.array js) = refl
wrap_plain (suc d) (kit.array js) = go (wrap_items (suc d - 1) js)
  where
    go : (o : Option Items) → is_some (option_and_then document (option_map array o)) ≡ (is_some (option_map array o) && false)
    go None = refl
    go (Some ts) = refl
wrap_plain zero (kit.object kit.no_members) = refl
wrap_plain (suc d) (kit.object kit.no_members) = refl
wrap_plain d (kit.object (kit.member n j ms)) = by_name (wrapper_of n) refl
  where
    plain_or : (d : ℕ) (o : Option Fields) → is_some (option_and_then document (nested d (option_map doc o))) ≡ (is_some (nested d (option_map doc o)) && true)
    plain_or zero o = refl
    plain_or (suc d) None = refl
    plain_or (suc d) (Some fs) = refl

    deeper_no_document : (d : ℕ) (o : Option Tree) → is_some (option_and_then document o) ≡ false → is_some (option_and_then document (nested d o)) ≡ false
    deeper_no_document zero o e = refl
    deeper_no_document (suc d) o e = e

    single_no_document : (o : Option trees.Scalar) → is_some (option_and_then document (option_map leaf o)) ≡ false
    single_no_document None = refl
    single_no_document (Some s) = refl

    wrapped_no_document : (w : Wrapper) (ms : kit.Members) → is_some (option_and_then document (wrapped d w j (wrap (d - 1) j) ms)) ≡ false
    wrapped_no_document w kit.no_members = single_no_document (single w j)
    wrapped_no_document w (kit.member m i ms) = deeper_no_document d _ (two_no_document w j (wrap (d - 1) j) (wrapper_of m) i (wrap (d - 1) i) ms)

    by_name : (o : Option Wrapper) → wrapper_of n ≡ o
        → is_some (option_and_then document (wrap d (kit.object (kit.member n j ms)))) ≡ (is_some (wrap d (kit.object (kit.member n j ms))) && is_none (wrapper_of n))
    by_name None e = rw e (plain_or d (add_field n (wrap (d - 1) j) (wrap_fields (d - 1) ms)))
    by_name (Some w) e = rw e (wrapped_no_document w ms ∙ sym (and_right (is_some (wrapped d w j (wrap (d - 1) j) ms)) false refl))

-- there is no document if no level is left
shallow_plain : (j : Json) → is_some (option_and_then document (wrap 0 j)) ≡ false
shallow_plain kit.null = refl
shallow_plain (kit.boolean b) = refl
shallow_plain (kit.number s) = wrap_plain 0 (kit.number s) ∙ and_right (is_some (wrap 0 (kit.number s))) false refl
shallow_plain (kit.string s) = refl
shallow_plain (kit.array js) = refl
shallow_plain (kit.object kit.no_members) = refl
shallow_plain (kit.object (kit.member n j ms)) = by_name (wrapper_of n) refl
  where
    by_name : (o : Option Wrapper) → wrapper_of n ≡ o → is_some (option_and_then document (wrap 0 (kit.object (kit.member n j ms)))) ≡ false
    by_name None e = rw e refl
    by_name (Some w) e = wrap_plain 0 (kit.object (kit.member n j ms)) ∙ and_right (is_some (wrap 0 (kit.object (kit.member n j ms)))) (is_none (wrapper_of n)) (rw e refl)

some_scope : (o : Option (List ℕ)) (u : Option Tree) → is_some (with_scope o u) ≡ (is_some o && is_some (option_and_then document u))
some_scope None u = refl
some_scope (Some s) None = refl
some_scope (Some s) (Some (leaf x)) = refl
some_scope (Some s) (Some (doc fs)) = refl
some_scope (Some s) (Some (array ts)) = refl
some_scope (Some s) (Some (code_scope c fs)) = refl

-- ---- code with its scope

nested_none : (d : ℕ) (o : Option Tree) → o ≡ None → is_some (nested d o) ≡ false
nested_none zero o e = refl
nested_none (suc d) o e = ap is_some e

two_other : (w : Wrapper) (j : Json) (t : Option Tree) (v : Option Wrapper) (i : Json) (u : Option Tree) (ms : kit.Members) → (is_code_name (Some w) || is_scope_name (Some w)) ≡ false
    → two w j t v i u ms ≡ None
two_other wrappers.Code j t v i u ms e = absurd (true≢false e)
two_other wrappers.Scope j t v i u ms e = absurd (true≢false e)
two_other _ j t v i u ms e = refl

two_code : (j : Json) (t : Option Tree) (v : Option Wrapper) (i : Json) (u : Option Tree) (ms : kit.Members) → is_scope_name v ≡ false → two wrappers.Code j t v i u ms ≡ None
two_code j t (Some wrappers.Scope) i u ms e = absurd (true≢false e)
two_code j t None i u ms e = refl
two_code j t (Some _) i u ms e = refl

two_scope : (j : Json) (t : Option Tree) (v : Option Wrapper) (i : Json) (u : Option Tree) (ms : kit.Members) → is_code_name v ≡ false → two wrappers.Scope j t v i u ms ≡ None
two_scope j t (Some wrappers.Code) i u ms e = absurd (true≢false e)
two_scope j t None i u ms e = refl
two_scope j t (Some _) i u ms e = refl

two_many : (w : Wrapper) (j : Json) (t : Option Tree) (v : Option Wrapper) (i : Json) (u : Option Tree) (n : List ℕ) (k : Json) (ms : kit.Members)
    → two w j t v i u (kit.member n k ms) ≡ None
two_many wrappers.Code j t (Some wrappers.Scope) i u n k ms = refl
two_many wrappers.Code j t None i u n k ms = refl
two_many wrappers.Code j t (Some _) i u n k ms = refl
two_many wrappers.Scope j t (Some wrappers.Code) i u n k ms = refl
two_many wrappers.Scope j t None i u n k ms = refl
two_many wrappers.Scope j t (Some _) i u n k ms = refl
two_many _ j t v i u n k ms = refl

scope_of : (v : Option Wrapper) → is_scope_name v ≡ true → v ≡ Some wrappers.Scope
scope_of (Some wrappers.Scope) e = refl
scope_of None e = absurd (false≢true e)
scope_of (Some _) e = absurd (false≢true e)

code_of : (v : Option Wrapper) → is_code_name v ≡ true → v ≡ Some wrappers.Code
code_of (Some wrappers.Code) e = refl
code_of None e = absurd (false≢true e)
code_of (Some _) e = absurd (false≢true e)

-- a fault that is looked for is none exactly if the test is passed
pub none_if : {A : Type 0} (b : Bool) (x : A) → is_none (if b then None else Some x) ≡ b
none_if true x = refl
none_if false x = refl

module _ (level : ℕ) (here : List ℕ) where
  scope_agrees : (d : ℕ) (code scope : List ℕ) (i j : Json) → ValueIs level code i → ValueIs level scope j
      → is_none (scope_fault (value_fault level) d here code scope) ≡ is_some (nested d (with_scope (as_str i) (wrap (d - 1) j)))
  scope_agrees zero code scope i j a b = by_string (is_string code) refl
    where
      by_string : (s : Bool) → is_string code ≡ s → is_none (scope_fault (value_fault level) 0 here code scope) ≡ false
      by_string true e = rw e refl
      by_string false e = rw e refl
  scope_agrees (suc zero) code scope i j a b = by_string (is_string code) refl
      ∙ sym (some_scope (as_str i) (wrap 0 j) ∙ and_right (is_some (as_str i)) (is_some (option_and_then document (wrap 0 j))) (shallow_plain j))
    where
      by_string : (s : Bool) → is_string code ≡ s → is_none (scope_fault (value_fault level) 1 here code scope) ≡ false
      by_string true e = rw e refl
      by_string false e = rw e refl
  scope_agrees (suc (suc d)) code scope i j a b = by_string (is_string code) refl ∙ sym (some_scope (as_str i) (wrap (suc (suc d) - 1) j))
    where
      enough : nat_lt (suc (suc d)) 2 ≡ false
      enough = le-ltb (suc (suc d)) 2 (omega arith)

      by_string : (s : Bool) → is_string code ≡ s
          → is_none (scope_fault (value_fault level) (suc (suc d)) here code scope) ≡ (is_some (as_str i) && is_some (option_and_then document (wrap (suc (suc d) - 1) j)))
      by_string true e = rw (e, enough) (
          none_or (value_fault level (suc (suc d) - 1) scope) (if opens_document scope then None else fault_at here _)
          ∙ ap₂ (λ x y. x && y) (b.fault (suc (suc d) - 1)) (none_if (opens_document scope) _ ∙ b.plain) ∙ sym (wrap_plain (suc (suc d) - 1) j)
          ∙ ap (λ s. s && is_some (option_and_then document (wrap (suc (suc d) - 1) j))) (sym e ∙ a.string))
      by_string false e = rw e (ap (λ s. s && is_some (option_and_then document (wrap (suc (suc d) - 1) j))) (sym e ∙ a.string))

  -- an object of these members, whose first name is `$code` or `$scope`
  abbrev Agrees : ℕ → List (List ℕ) → Wrapper → List ℕ × Json → List (List ℕ × Json) → Type 0
  Agrees d texts w m ms = is_none (code_fault (value_fault level) d here (map part_of texts)) ≡ is_some (wrapped d w m.1 (wrap (d - 1) m.1) (members_of ms))

  -- a member of an object, whose name is that wrapper or none, and whose value is what its text says
  record PartIs (t : List ℕ) (v : Option Wrapper) (j : Json) : Type 0 where
    after : List ℕ
    same : part_of t ≡ (v, after)
    is : ValueIs level after j

  part_is : (t : List ℕ) (m : List ℕ × Json) (v : Option Wrapper) → wrapper_of m.0 ≡ v → Member (ValueIs level) t m → PartIs t v m.1
  part_is t m v e (named, (after, went, is)) = record {
    after = after;
    same = λ i. ((ap wrapper_of named ∙ e) i, ap rest_of went i);
    is = is;
  }

  one_code : (d : ℕ) (t : List ℕ) (m : List ℕ × Json) → PartIs t (Some wrappers.Code) m.1 → Agrees d (t ∷ []) wrappers.Code m []
  one_code d t m p = ap (λ a. is_none (code_fault (value_fault level) d here (a ∷ []))) p.same ∙ none_if (is_string p.after) _ ∙ p.is.string
      ∙ sym (some_map leaf (option_map (λ s. trees.code s) (as_str m.1)) ∙ some_map (λ s. trees.code s) (as_str m.1))

  one_scope : (d : ℕ) (t : List ℕ) (m : List ℕ × Json) → PartIs t (Some wrappers.Scope) m.1 → Agrees d (t ∷ []) wrappers.Scope m []
  one_scope d t m p = ap (λ a. is_none (code_fault (value_fault level) d here (a ∷ []))) p.same

  both : (d : ℕ) (t u : List ℕ) {a b : Part} → part_of t ≡ a → part_of u ≡ b
      → is_none (code_fault (value_fault level) d here (part_of t ∷ part_of u ∷ [])) ≡ is_none (code_fault (value_fault level) d here (a ∷ b ∷ []))
  both d t u p q = ap₂ (λ a b. is_none (code_fault (value_fault level) d here (a ∷ b ∷ []))) p q

  two_codes : (d : ℕ) (t u : List ℕ) (m n : List ℕ × Json) (v : Option Wrapper) → wrapper_of n.0 ≡ v → PartIs t (Some wrappers.Code) m.1 → PartIs u v n.1 → (b : Bool) → is_scope_name v ≡ b
      → Agrees d (t ∷ u ∷ []) wrappers.Code m (n ∷ [])
  two_codes d t u m n v named p q true e = both d t u p.same q.same ∙ rw e (rw (named, scope_of v e) (scope_agrees d p.after q.after m.1 n.1 p.is q.is))
  two_codes d t u m n v named p q false e = both d t u p.same q.same ∙ rw e (sym (nested_none d _ (rw named (two_code m.1 (wrap (d - 1) m.1) v n.1 (wrap (d - 1) n.1) kit.no_members e))))

  two_scopes : (d : ℕ) (t u : List ℕ) (m n : List ℕ × Json) (v : Option Wrapper) → wrapper_of n.0 ≡ v → PartIs t (Some wrappers.Scope) m.1 → PartIs u v n.1 → (b : Bool) → is_code_name v ≡ b
      → Agrees d (t ∷ u ∷ []) wrappers.Scope m (n ∷ [])
  two_scopes d t u m n v named p q true e = both d t u p.same q.same ∙ rw e (rw (named, code_of v e) (scope_agrees d q.after p.after n.1 m.1 q.is p.is))
  two_scopes d t u m n v named p q false e = both d t u p.same q.same ∙ rw e (sym (nested_none d _ (rw named (two_scope m.1 (wrap (d - 1) m.1) v n.1 (wrap (d - 1) n.1) kit.no_members e))))

  code_agrees : (d : ℕ) (texts : List (List ℕ)) (m : List ℕ × Json) (ms : List (List ℕ × Json)) → Pairs (Member (ValueIs level)) texts (m ∷ ms)
      → wrapper_of m.0 ≡ Some wrappers.Code → Agrees d texts wrappers.Code m ms
  code_agrees d [] m ms are e = absurd are
  code_agrees d (t ∷ []) m [] (is, are) e = one_code d t m (part_is t m _ e is)
  code_agrees d (t ∷ u ∷ texts) m [] (is, are) e = absurd are
  code_agrees d (t ∷ []) m (n ∷ ms) (is, are) e = absurd are
  code_agrees d (t ∷ u ∷ []) m (n ∷ []) (is, (other, are)) e =
      two_codes d t u m n (wrapper_of n.0) refl (part_is t m _ e is) (part_is u n _ refl other) (is_scope_name (wrapper_of n.0)) refl
  code_agrees d (t ∷ u ∷ v ∷ texts) m (n ∷ []) (is, (other, are)) e = absurd are
  code_agrees d (t ∷ u ∷ []) m (n ∷ o ∷ ms) (is, (other, are)) e = absurd are
  code_agrees d (t ∷ u ∷ v ∷ texts) m (n ∷ o ∷ ms) are e =
      sym (nested_none d _ (two_many wrappers.Code m.1 (wrap (d - 1) m.1) (wrapper_of n.0) n.1 (wrap (d - 1) n.1) o.0 o.1 (members_of ms)))

  scope_first_agrees : (d : ℕ) (texts : List (List ℕ)) (m : List ℕ × Json) (ms : List (List ℕ × Json)) → Pairs (Member (ValueIs level)) texts (m ∷ ms)
      → wrapper_of m.0 ≡ Some wrappers.Scope → Agrees d texts wrappers.Scope m ms
  scope_first_agrees d [] m ms are e = absurd are
  scope_first_agrees d (t ∷ []) m [] (is, are) e = one_scope d t m (part_is t m _ e is)
  scope_first_agrees d (t ∷ u ∷ texts) m [] (is, are) e = absurd are
  scope_first_agrees d (t ∷ []) m (n ∷ ms) (is, are) e = absurd are
  scope_first_agrees d (t ∷ u ∷ []) m (n ∷ []) (is, (other, are)) e =
      two_scopes d t u m n (wrapper_of n.0) refl (part_is t m _ e is) (part_is u n _ refl other) (is_code_name (wrapper_of n.0)) refl
  scope_first_agrees d (t ∷ u ∷ v ∷ texts) m (n ∷ []) (is, (other, are)) e = absurd are
  scope_first_agrees d (t ∷ u ∷ []) m (n ∷ o ∷ ms) (is, (other, are)) e = absurd are
  scope_first_agrees d (t ∷ u ∷ v ∷ texts) m (n ∷ o ∷ ms) are e =
      sym (nested_none d _ (two_many wrappers.Scope m.1 (wrap (d - 1) m.1) (wrapper_of n.0) n.1 (wrap (d - 1) n.1) o.0 o.1 (members_of ms)))

-- ---- objects

-- the wrapper that the first name is
abbrev first_of : List (List ℕ × Json) → Option Wrapper
first_of [] = None
first_of (m ∷ ms) = wrapper_of m.0

-- no name comes next where the object closes
no_name : (text w : List ℕ) → beyond_white text ≡ w → begins (λ b. b == 125) w ≡ true → result_ok (beyond_name text) ≡ None
unfolding beyond_name beyond_word
no_name text [] is at = absurd (false≢true at)
no_name text (x ∷ xs) is at = let closes : beyond_white text ≡ 125 ∷ xs = is ∙ ap (λ y. y ∷ xs) (eqb-true x 125 at) in rw closes refl

not_named : (r : Beyond) (name : List ℕ) → result_ok r ≡ None → if_named r name ≡ None
not_named (Ok rest) name is = not_found rest (sym is)
not_named (Err stop) name is = refl

first_by : (level : ℕ) (inside : List ℕ) (b : Bool) → begins (λ b. b == 125) (beyond_white inside) ≡ b → (list : List (List ℕ × Json))
    → Pairs (Member (ValueIs level)) (members_in (beyond_value level) inside) list → first_wrapper inside ≡ first_of list
unfolding first_wrapper parts_in parts_from
first_by level inside true e [] are = not_named (beyond_name inside) (unquoted (quoted_name inside)) (no_name inside (beyond_white inside) refl e)
first_by level inside true e (m ∷ list) are = absurd (rw e at are)
first_by level inside false e [] are = absurd (rw e at are)
first_by level inside false e (m ∷ list) are = let (named, (after, went, is)) = (rw e at are).0 in rw (went, named) refl

bool_from_iff : {A : Type 0} (o : Option A) (b : Bool) → (o ≡ None) ↔ (b ≡ true) → is_none o ≡ b
bool_from_iff None b (there, back) = sym (there refl)
bool_from_iff (Some x) true (there, back) = not_found x (sym (back refl))
bool_from_iff (Some x) false (there, back) = refl

which_code : (w : Wrapper) → (is_code_name (Some w) || is_scope_name (Some w)) ≡ true → (w ≡ wrappers.Code) ⊎ (w ≡ wrappers.Scope)
which_code wrappers.Code e = inl refl
which_code wrappers.Scope e = inr refl
which_code _ e = absurd (false≢true e)

document_agrees : (level : ℕ) (inside : List ℕ) (list : List (List ℕ × Json)) → Pairs (Member (ValueIs level)) (members_in (beyond_value level) inside) list → first_of list ≡ None
    → (d : ℕ) → is_none (document_fault (beyond_value level) (value_fault level) d (123 ∷ inside) inside) ≡ is_some (wrap d (kit.object (members_of list)))
unfolding document_fault
document_agrees level inside [] are none zero = refl
document_agrees level inside [] are none (suc d) = fields_agree level d _ [] are
document_agrees level inside (m ∷ ms) are none zero = rw none refl
document_agrees level inside (m ∷ ms) are none (suc d) = fields_agree level d _ (m ∷ ms) are
    ∙ rw (none, less_one d) (sym (some_map doc (add_field m.0 (wrap d m.1) (wrap_fields d (members_of ms)))))

-- more members than one are none of another wrapper
many_fault : (w : Wrapper) (m n : List ℕ × Json) (ms : List (List ℕ × Json)) → is_none (members_fault w (members_of (m ∷ n ∷ ms))) ≡ false
many_fault w m n ms = by_test (is_outside_profile w m.1) refl
  where
    by_test : (b : Bool) → is_outside_profile w m.1 ≡ b → is_none (members_fault w (members_of (m ∷ n ∷ ms))) ≡ false
    by_test true e = rw e refl
    by_test false e = rw e refl

members_agree : (w : Wrapper) (m : List ℕ × Json) (ms : List (List ℕ × Json)) → (is_code_name (Some w) || is_scope_name (Some w)) ≡ false → (d : ℕ)
    → is_none (members_fault w (members_of (m ∷ ms))) ≡ is_some (wrapped d w m.1 (wrap (d - 1) m.1) (members_of ms))
members_agree w m [] other d = bool_from_iff _ _ (value_or_fault w m.0 m.1) ∙ sym (some_map leaf (single w m.1))
members_agree w m (n ∷ ms) other d = many_fault w m n ms
    ∙ sym (nested_none d _ (two_other w m.1 (wrap (d - 1) m.1) (wrapper_of n.0) n.1 (wrap (d - 1) n.1) (members_of ms) other))

-- an object that is read alone as these members
module _ (level : ℕ) (inside rest bytes : List ℕ) (m : List ℕ × Json) (ms : List (List ℕ × Json)) (le : suc level ≤ most_brackets) (low : depth (kit.object (members_of (m ∷ ms))) ≤ suc level)
    (are : Pairs (Member (ValueIs level)) (members_in (beyond_value level) inside) (m ∷ ms)) (passed : beyond_object (beyond_value level) inside ≡ Ok rest)
    (whole : 123 ∷ inside ≡ bytes ++ rest) (utf8 : IsUtf8 bytes) (alone : tokens_from fresh bytes ≡ json_tokens (kit.object (members_of (m ∷ ms)))) where
  json_is : json_in (bytes_before rest (123 ∷ inside)) ≡ Some (kit.object (members_of (m ∷ ms)))
  json_is =
      let j = kit.object (members_of (m ∷ ms)) in
      ap json_in (ap (λ n. take n (123 ∷ inside)) (omega (arith, ap length whole, length-append bytes rest)) ∙ ap (take (length bytes)) whole ∙ take-append_seam bytes rest)
      ∙ json_alone bytes j [] (json_tokens j) utf8 alone
      (ap (value most_brackets) (sym (append-nil (json_tokens j))) ∙ value-json_tokens j most_brackets [] (omega (arith, low, le)))

  object_by : (w : Wrapper) → wrapper_of m.0 ≡ Some w → (d : ℕ) → (b : Bool) → (is_code_name (Some w) || is_scope_name (Some w)) ≡ b
      → is_none (object_fault_by (Some w) (beyond_value level) (value_fault level) d (123 ∷ inside) inside) ≡ is_some (wrapped d w m.1 (wrap (d - 1) m.1) (members_of ms))
  object_by w named d false other = rw other (ap (λ r. is_none (object_fault_of w (123 ∷ inside) r)) passed ∙ none_then (fault_at (123 ∷ inside)) (λ x. refl) _
      ∙ ap (λ j. is_none (wrapper_fault w j)) json_is ∙ members_agree w m ms other d)
  object_by w named d true code = elim (which_code w code) [
    | inl e ↦ rw e (code_agrees level (123 ∷ inside) d (members_in (beyond_value level) inside) m ms are (named ∙ ap Some e))
    | inr e ↦ rw e (scope_first_agrees level (123 ∷ inside) d (members_in (beyond_value level) inside) m ms are (named ∙ ap Some e))
  ]

object_agrees : (level : ℕ) (inside rest bytes : List ℕ) (list : List (List ℕ × Json)) → suc level ≤ most_brackets → depth (kit.object (members_of list)) ≤ suc level
    → Pairs (Member (ValueIs level)) (members_in (beyond_value level) inside) list → beyond_object (beyond_value level) inside ≡ Ok rest
    → 123 ∷ inside ≡ bytes ++ rest → IsUtf8 bytes → tokens_from fresh bytes ≡ json_tokens (kit.object (members_of list))
    → (d : ℕ) → is_none (object_fault_by (first_of list) (beyond_value level) (value_fault level) d (123 ∷ inside) inside) ≡ is_some (wrap d (kit.object (members_of list)))
object_agrees level inside rest bytes [] le low are passed whole utf8 alone d = document_agrees level inside [] are refl d
object_agrees level inside rest bytes (m ∷ ms) le low are passed whole utf8 alone d = by_name (wrapper_of m.0) refl
  where
    by_name : (o : Option Wrapper) → wrapper_of m.0 ≡ o
        → is_none (object_fault_by o (beyond_value level) (value_fault level) d (123 ∷ inside) inside) ≡ is_some (wrap d (kit.object (members_of (m ∷ ms))))
    by_name None e = document_agrees level inside (m ∷ ms) are e d
    by_name (Some w) e = object_by level inside rest bytes m ms le low are passed whole utf8 alone w e d (is_code_name (Some w) || is_scope_name (Some w)) refl ∙ rw e refl

plain_first : (list : List (List ℕ × Json)) → is_none (first_of list) ≡ is_plain_object (kit.object (members_of list))
plain_first [] = refl
plain_first (m ∷ ms) = refl

object_is : (level : ℕ) (text : List ℕ) (ms : kit.Members) → suc level ≤ most_brackets → depth (kit.object ms) ≤ suc level
    → ObjectAt (ValueIs level) (beyond_value level) (beyond_white text) ms → ValueIs (suc level) text (kit.object ms)
object_is level text ms le low o =
    let opens : opens_object (beyond_white text) ≡ true = rw o.opens refl in
    let first : first_wrapper o.inside ≡ first_of o.list = first_by level o.inside (begins (λ b. b == 125) (beyond_white o.inside)) refl o.list o.are in
    record {
      fault = λ d. ap is_none (fault_object (suc level) level d text refl opens)
          ∙ ap (λ here. is_none (object_fault (beyond_value level) (value_fault level) d here (drop 1 here))) o.opens
          ∙ ap (λ w. is_none (object_fault_by w (beyond_value level) (value_fault level) d (123 ∷ o.inside) o.inside)) first
          ∙ object_agrees level o.inside o.rest o.bytes o.list le (subst (λ i. depth (kit.object i) ≤ suc level) o.same low) o.are o.passed (sym o.opens ∙ o.whole) o.utf8
          (o.alone ∙ ap (λ i. json_tokens (kit.object i)) o.same) d
          ∙ ap (λ i. is_some (wrap d (kit.object i))) (sym o.same);
      string = rw o.opens refl;
      plain = ap (λ here. opens_object here && is_none (first_wrapper (drop 1 here))) o.opens ∙ ap is_none first ∙ plain_first o.list
          ∙ ap (λ i. is_plain_object (kit.object i)) (sym o.same);
    }

-- ---- any value

-- the text of a value without brackets
pub flat_value : (P : List ℕ → Json → Type 0) (part : List ℕ → Beyond) (text : List ℕ) (j : Json) → depth j ≤ 0 → Shape P part (beyond_white text) j → ValueIs 0 text j
flat_value P part text kit.null low (t, e) = null_is 0 text t e
flat_value P part text (kit.boolean b) low (t, e) = boolean_is 0 text b t e
flat_value P part text (kit.number s) low n = number_at 0 text s n
flat_value P part text (kit.string s) low (t, e) = string_is 0 text s t e
flat_value P part text (kit.array js) low a = absurd (omega (arith, low))
flat_value P part text (kit.object ms) low o = absurd (omega (arith, low))

-- the text of a value whose parts have such texts
pub deep_value : (level : ℕ) (text : List ℕ) (j : Json) → suc level ≤ most_brackets → depth j ≤ suc level → Shape (ValueIs level) (beyond_value level) (beyond_white text) j
    → ValueIs (suc level) text j
deep_value level text kit.null le low (t, e) = null_is (suc level) text t e
deep_value level text (kit.boolean b) le low (t, e) = boolean_is (suc level) text b t e
deep_value level text (kit.number s) le low n = number_at (suc level) text s n
deep_value level text (kit.string s) le low (t, e) = string_is (suc level) text s t e
deep_value level text (kit.array js) le low a = array_is level text js a
deep_value level text (kit.object ms) le low o = object_is level text ms le low o
