-- Wrappers whose values have no text and no data, a token at a time.
use Rattle.std.proofs.Common.{◌≡◌, ℕ, ◌∷◌, ◌-◌, ◌<◌, Bool, true, false, Bor, List, length, Option, Some, None, option_map, option_and_then, refl, ap, ◌∙◌, rules}
use Rattle.std.specs.Prelude.{Result, Ok, Err, OnOk, IfErr, if◌then◌else◌, ◌&&◌, codes}
use Rattle.std.specs.{Option.option_zip, Str.bytes_eq}
use Rattle.std.specs.Result.{result_ok}
use Rattle.std.specs.declared.alloc.Global.{Global}
use Rattle.json.specs.Token.{Token}
use Rattle.json.specs.Json as kit
use Rattle.json.specs.Json.{Json, parse_map, read_key, members, value}
use Rattle.json.specs.Find.{as_object, as_str, as_number, as_bool}
use Rattle.json.specs.Value.{value_view}
use Rattle.json.specs.declared.value.Value as parts
use Rattle.json.proofs.Grammar.{value_is, value-begin_object}
use Rattle.bd_value.specs.Tree as trees
use Rattle.bd_value.specs.Tree.{Tree, leaf}
use Rattle.bd_extjson.specs.Read.{wrap, wrap_object, wrapped}
use Rattle.bd_extjson.specs.inside.Fixed.{bare}
use Rattle.bd_extjson_wrapper.specs.Wrapper.{wrapper_of, is_code_name, is_scope_name, single, through, after_key, only, pair, both_in, long_in, word_in, TakesMemory}
use Rattle.bd_extjson_wrapper.specs.declared.wrapper.Wrapper.{Wrapper}
use Rattle.bd_extjson_wrapper.specs.declared.wrapper.Wrapper.TheVariants as kinds
use Rattle.bd_extjson_wrapper.specs.declared.wrapper.Trouble.{Trouble}
use Rattle.bd_extjson_wrapper.specs.declared.wrapper.Trouble.TheVariants as troubles
use Rattle.bd_extjson.proofs.ReadLemmas.{never, through_made}
use Rattle.bd_extjson.proofs.MemberLemmas as seconds

-- ---- one token

-- a function that gives nothing for values made so gives nothing for what was read of them
made_none : {A J : Type 0} (f : Json → Option A) (make : J → Json) (r : Option (J × List Token)) → ((j : J) → f (make j) ≡ None) → through f (parse_map make r) ≡ None
made_none f make r h = through_made f make r ∙ never (λ j. f (make j)) h r

array_is_none : {A : Type 0} (f : Json → Option A) (depth : ℕ) (ts : List Token) → ((js : kit.Items) → f (kit.array js) ≡ None) → through f (value depth (Token.begin_array ∷ ts)) ≡ None
array_is_none f depth ts h = ap (through f) (value_is depth (Token.begin_array ∷ ts)) ∙ made_none f kit.array _ h

pub no_bare_array : (depth : ℕ) (ts : List Token) → through bare (value depth (Token.begin_array ∷ ts)) ≡ None
no_bare_array depth ts = array_is_none bare depth ts (λ js. refl)

pub no_bare_object : (depth : ℕ) (ts : List Token) → through bare (value depth (Token.begin_object ∷ ts)) ≡ None
no_bare_object depth ts = ap (through bare) (value_is depth (Token.begin_object ∷ ts)) ∙ made_none bare kit.object _ (λ ms. refl)

pub no_object_array : (depth : ℕ) (ts : List Token) → through as_object (value depth (Token.begin_array ∷ ts)) ≡ None
no_object_array depth ts = array_is_none as_object depth ts (λ js. refl)

pub no_object_deep : (ts : List Token) → through as_object (value 0 (Token.begin_object ∷ ts)) ≡ None
unfolding value
no_object_deep ts = refl

pub read_string : (depth : ℕ) (s : Bor (List ℕ)) (ts : List Token) → value depth (Token.string s.now ∷ ts) ≡ Some (value_view {A = Global} (parts.String s), ts)
read_string depth s ts =
    let view : value_view {A = Global} (parts.String s) ≡ kit.string s.now = search (rules, parts.the_lemmas) in
    rw view (value_is depth (Token.string s.now ∷ ts))

pub read_number : (depth : ℕ) (s : Bor (List ℕ)) (ts : List Token) → value depth (Token.number s.now ∷ ts) ≡ Some (value_view {A = Global} (parts.Number s), ts)
read_number depth s ts =
    let view : value_view {A = Global} (parts.Number s) ≡ kit.number s.now = search (rules, parts.the_lemmas) in
    rw view (value_is depth (Token.number s.now ∷ ts))

pub read_boolean : (depth : ℕ) (b : Bool) (ts : List Token) → value depth (Token.boolean b ∷ ts) ≡ Some (value_view {A = Global} (parts.Bool b), ts)
read_boolean depth b ts =
    let view : value_view {A = Global} (parts.Bool b) ≡ kit.boolean b = search (rules, parts.the_lemmas) in
    rw view (value_is depth (Token.boolean b ∷ ts))

pub ruleset bare_steps = (value_is, no_bare_array, no_bare_object, read_string, read_number, read_boolean)

pub ruleset object_steps = (value_is, no_object_array, no_object_deep)

-- ---- what a value must be

-- what is refused by g is refused by f, if f gives nothing where g does not
pub through_none : {J A B : Type 0} (f : J → Option A) (g : J → Option B) (v : Option (J × List Token)) → ((j : J) → g j ≡ None → f j ≡ None) → through g v ≡ None → through f v ≡ None
through_none f g None h e = refl
through_none {A = A} {B = B} f g (Some p) h e = ap (option_map {U = A × List Token} (λ a. (a, p.1))) (h p.0 (go (g p.0) e))
  where
    go : (o : Option B) → option_map {U = B × List Token} (λ b. (b, p.1)) o ≡ None → o ≡ None
    go None e = refl
    go (Some b) e = absurd cc

not_bare : (j : Json) → bare j ≡ None → (as_str j ≡ None) × (as_number j ≡ None) × (as_bool j ≡ None)
not_bare (kit.string s) e = absurd cc
not_bare (kit.number s) e = absurd cc
not_bare (kit.boolean b) e = absurd cc
not_bare _ e = (refl, refl, refl)

-- the value of a wrapper of one name, by the JSON value inside it
abbrev pub inside : Wrapper → Json → Option Tree
inside w j = option_map leaf (single w j)

-- A value with no text and no data that is not inside an object is one token.
pub bare_inside : (w : Wrapper) (j : Json) → (TakesMemory w → ⊥) → (w ≡ kinds.Timestamp → ⊥) → (w ≡ kinds.Date → ⊥) → bare j ≡ None → inside w j ≡ None
bare_inside kinds.NumberInt j m t d e = rw ((not_bare j e).0) refl
bare_inside kinds.NumberLong j m t d e = rw ((not_bare j e).0) refl
bare_inside kinds.Oid j m t d e = rw ((not_bare j e).0) refl
bare_inside kinds.MinKey j m t d e = rw ((not_bare j e).1) refl
bare_inside kinds.MaxKey j m t d e = rw ((not_bare j e).1) refl
bare_inside kinds.Undefined j m t d e = rw ((not_bare j e).2) refl
bare_inside kinds.Timestamp j m t d e = absurd (t refl)
bare_inside kinds.Date j m t d e = absurd (d refl)
bare_inside kinds.Symbol j m t d e = absurd (m tt)
bare_inside kinds.Code j m t d e = absurd (m tt)
bare_inside kinds.Binary j m t d e = absurd (m tt)
bare_inside kinds.RegularExpression j m t d e = absurd (m tt)
bare_inside kinds.DbPointer j m t d e = absurd (m tt)
bare_inside _ j m t d e = refl

-- ---- an object inside a wrapper

-- the same, by the members of an object inside it
abbrev pub members_inside : Wrapper → kit.Members → Option Tree
members_inside w ms = inside w (kit.object ms)

-- An object inside a wrapper is read by its members.
pub of_object : (w : Wrapper) (depth : ℕ) (ts r : List Token) → (ts ≡ Token.begin_object ∷ r) × (0 < depth)
    → through (inside w) (value depth ts) ≡ through (members_inside w) (members (value (depth - 1)) (length r) r)
of_object w depth ts r e = rw (e.0) (ap (through (inside w)) (value-begin_object depth r e.1) ∙ through_made (inside w) kit.object (members (value (depth - 1)) (length r) r))

pub no_date : (j : Json) → as_object j ≡ None → inside kinds.Date j ≡ None
unfolding only
no_date j e = rw e refl

pub date_some : members_inside kinds.Date kit.no_members ≡ None
unfolding only
date_some = refl

pub date_alone : (k : List ℕ) (j : Json) (l : List ℕ) (i : Json) (ms : kit.Members) → members_inside kinds.Date (kit.member k j (kit.member l i ms)) ≡ None
unfolding only
date_alone k j l i ms = refl

pub date_needs : (k : List ℕ) (j : Json) (ms : kit.Members) → bare j ≡ None → members_inside kinds.Date (kit.member k j ms) ≡ None
unfolding only
date_needs k j kit.no_members e = go (bytes_eq k (codes "$numberLong"))
  where
    go : (b : Bool) → option_map leaf (option_map (λ z. trees.date z) (option_and_then long_in (if b then Some j else None))) ≡ None
    go true = rw ((not_bare j e).0) refl
    go false = refl
date_needs k j (kit.member l i ms) e = date_alone k j l i ms

pub no_timestamp : (j : Json) → as_object j ≡ None → inside kinds.Timestamp j ≡ None
unfolding pair
no_timestamp j e = rw e refl

pub timestamp_some : members_inside kinds.Timestamp kit.no_members ≡ None
unfolding pair
timestamp_some = refl

pub timestamp_two : (k : List ℕ) (j : Json) → members_inside kinds.Timestamp (kit.member k j kit.no_members) ≡ None
unfolding pair
timestamp_two k j = refl

pub timestamp_no_third : (k : List ℕ) (j : Json) (l : List ℕ) (i : Json) (o : List ℕ) (h : Json) (ms : kit.Members)
    → members_inside kinds.Timestamp (kit.member k j (kit.member l i (kit.member o h ms))) ≡ None
unfolding pair
timestamp_no_third k j l i o h ms = refl

zip_none : {A B : Type 0} (o : Option A) → option_zip {T = A} {U = B} o None ≡ None
zip_none None = refl
zip_none (Some a) = refl

-- words of which one cannot be read
abbrev Unread : Json → Json → Type 0
Unread j i = (both_in word_in word_in (j, i) ≡ None) × (both_in word_in word_in (i, j) ≡ None)

no_word : (j i : Json) → bare j ≡ None → Unread j i
no_word j i e = let none : word_in j ≡ None = rw ((not_bare j e).1) refl in (rw none refl, rw none (zip_none (word_in i)))

two_words : (k l : List ℕ) (j i : Json) → Unread j i → members_inside kinds.Timestamp (kit.member k j (kit.member l i kit.no_members)) ≡ None
unfolding pair
two_words k l j i e = go (bytes_eq k (codes "t") && bytes_eq l (codes "i")) (bytes_eq k (codes "i") && bytes_eq l (codes "t"))
  where
    go : (a b : Bool) → option_map leaf (option_map (λ p. trees.timestamp p.0 p.1) (option_and_then (both_in word_in word_in) (if a then Some (j, i) else if b then Some (i, j) else None))) ≡ None
    go true b = rw (e.0) refl
    go false true = rw (e.1) refl
    go false false = refl

pub timestamp_needs_first : (k : List ℕ) (j : Json) (ms : kit.Members) → bare j ≡ None → members_inside kinds.Timestamp (kit.member k j ms) ≡ None
timestamp_needs_first k j kit.no_members e = timestamp_two k j
timestamp_needs_first k j (kit.member l i kit.no_members) e = two_words k l j i (no_word j i e)
timestamp_needs_first k j (kit.member l i (kit.member o h ms)) e = timestamp_no_third k j l i o h ms

pub timestamp_needs_second : (k : List ℕ) (j : Json) (l : List ℕ) (i : Json) (ms : kit.Members) → bare i ≡ None → members_inside kinds.Timestamp (kit.member k j (kit.member l i ms)) ≡ None
timestamp_needs_second k j l i kit.no_members e = let other = no_word i j e in two_words k l j i (other.1, other.0)
timestamp_needs_second k j l i (kit.member o h ms) e = timestamp_no_third k j l i o h ms

-- ---- the whole object of such a wrapper

pub no_code : (w : Wrapper) → (TakesMemory w → ⊥) → is_code_name (Some w) ≡ false
no_code kinds.Code m = absurd (m tt)
no_code _ m = refl

wrapped_none : (w : Wrapper) (depth_left : ℕ) (j : Json) (t : Option Tree) (ms : kit.Members) → is_code_name (Some w) ≡ false → is_scope_name (Some w) ≡ false
    → inside w j ≡ None → wrapped depth_left w j t ms ≡ None
wrapped_none w depth_left j t kit.no_members c s e = e
wrapped_none w depth_left j t (kit.member k i ms) c s e = seconds.one_name_alone w depth_left j t k i ms c s

pub fixed_none : (w : Wrapper) (name : List ℕ) (depth_left depth n : ℕ) (ts : List Token) → is_code_name (Some w) ≡ false → is_scope_name (Some w) ≡ false
    → wrapper_of name ≡ Some w → through (inside w) (value depth ts) ≡ None → through (wrap_object depth_left) (after_key depth n (Some name) ts) ≡ None
fixed_none w name depth_left depth n ts c s is e =
    seconds.unread (wrap_object depth_left) (inside w) name depth n ts e (λ i ms none. rw is (wrapped_none w depth_left i (wrap (depth_left - 1) i) ms c s none))

pub fixed_some : (w : Wrapper) (name : List ℕ) (depth_left depth n : ℕ) (ts r : List Token) (t : Tree) → wrapper_of name ≡ Some w → through (inside w) (value depth ts) ≡ Some (t, r)
    → (j : Json) × (through (wrap_object depth_left) (after_key depth n (Some name) ts) ≡ through (wrapped depth_left w j (wrap (depth_left - 1) j)) (members (value depth) n r)) × (inside w j ≡ Some t)
fixed_some w name depth_left depth n ts r t is e =
    let p = seconds.was_read (inside w) (value depth ts) t r e in
    (p.0, seconds.first_part w name depth_left depth n ts r p.0 is p.1, p.2)

-- ---- results

-- the value of a result, and the tokens after it
pub paired : {X A B : Type 0} (f : X → A) (b : B) (o : Option X) → option_map {U = A × B} (λ x. (f x, b)) o ≡ option_map {U = A × B} (λ a. (a, b)) (option_map f o)
paired f b None = refl
paired f b (Some x) = refl

-- what holds if there is a result
pub when_ok : {X : Type 0} (r : Result X Trouble) (x : X) (P : Type 0) → Some x ≡ result_ok r → OnOk r P → P
when_ok (Ok y) x P e p = p
when_ok (Err f) x P e p = absurd cc

-- what holds if it was refused
pub when_err : {X : Type 0} (r : Result X Trouble) (P : Type 0) → None ≡ result_ok r → IfErr r (λ e. (e ≡ troubles.Refused) × P) → P
when_err (Ok y) P e p = absurd cc
when_err (Err f) P e p = p.1
