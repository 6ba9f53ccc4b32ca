-- What means a value is without doubles, decimal128, and dates and UUIDs as texts.
use Rattle.std.proofs.Common.{◌≡◌, ℕ, zero, suc, ◌-◌, ◌==◌, ◌&&◌, ℤ, Bool, true, false, List, [], ◌∷◌, Option, Some, None, refl, sym, ap, subst, is_some, inl, inr, ◌⊎◌}
use Rattle.std.specs.Prelude.{option_and_then, option_map, if◌then◌else◌, codes, unwrap_or}
use Rattle.std.specs.{Option.option_map_or, Option.option_zip, Str.bytes_eq}
use Rattle.std.proofs.lemmas.{Bool.false≢true, Bool.and_parts, Slice.Eq.bytes_eq-Decides}
use Rattle.json.specs.{Find.as_str, Find.as_number, Find.as_bool, Json.Json, Json.Items, Json.Members}
use Rattle.json.specs.Json as kit
use Rattle.bd_value.specs.Tree as trees
use Rattle.bd_value.specs.Tree.{Tree, Scalar, doc, array, leaf, Fields}
use Rattle.bd_extjson_wrapper.specs.WholeNumber.{are_digits, unsigned, whole, whole_32, whole_64}
use Rattle.bd_extjson_wrapper.specs.Wrapper.{both_in, data_in, digits_in, id_of, if_word, is_one, long_in, name_in, one, only, only_member, pair, pair_members, single, subtype_in, word_in, wrapper_of}
use Rattle.bd_extjson_wrapper.specs.declared.wrapper.Wrapper.{Wrapper}
use Rattle.bd_extjson_wrapper.specs.declared.wrapper.Wrapper.TheVariants as wrappers
use Rattle.bd_extjson.specs.Read.{add_field, add_item, bare_number, nested, two, with_scope, wrap, wrap_fields, wrap_items, wrapped}

-- JSON without doubles, decimal128, and dates and UUIDs as texts

-- The first name is not that of a wrapper of a double, a decimal128, a UUID, or a date with a text.
abbrev pub NoValue : Option Wrapper → Json → Type 0
NoValue (Some wrappers.NumberDouble) j = ⊥
NoValue (Some wrappers.NumberDecimal) j = ⊥
NoValue (Some wrappers.Uuid) j = ⊥
NoValue (Some wrappers.Date) j = as_str j ≡ None
NoValue w j = Unit {0}

abbrev pub FirstFree : Members → Type 0
FirstFree kit.no_members = Unit {0}
FirstFree (kit.member n j ms) = NoValue (wrapper_of n) j

abbrev mutual
  pub Free : Json → Type 0
  Free (kit.number s) = are_digits (unsigned s) ≡ true
  Free (kit.array js) = AreFree js
  Free (kit.object ms) = FirstFree ms × MembersFree ms
  Free j = Unit {0}

  pub AreFree : Items → Type 0
  AreFree kit.no_items = Unit {0}
  AreFree (kit.item j js) = Free j × AreFree js

  pub MembersFree : Members → Type 0
  MembersFree kit.no_members = Unit {0}
  MembersFree (kit.member n j ms) = Free j × MembersFree ms

-- ---- options

pub there : {A B : Type 0} (f : A → B) (o : Option A) (b : B) → option_map f o ≡ Some b → (a : A) × (o ≡ Some a)
there f None b e = absurd cc
there f (Some a) b e = (a, refl)

pub then_there : {A B : Type 0} (f : A → Option B) (o : Option A) (b : B) → option_and_then f o ≡ Some b → (a : A) × (o ≡ Some a) × (f a ≡ Some b)
then_there f None b e = absurd cc
then_there f (Some a) b e = (a, refl, e)

below : {A : Type 0} (d : ℕ) (o : Option A) (a : A) → nested d o ≡ Some a → o ≡ Some a
below zero o a e = absurd cc
below (suc d) o a e = e

-- ---- values without brackets

is_whole : (s : List ℕ) → is_some (whole_64 s) ≡ true → are_digits (unsigned s) ≡ true
unfolding whole
is_whole [] e = absurd (false≢true e)
is_whole (c ∷ cs) e = by_tests (c == 45) (are_digits cs) (are_digits (c ∷ cs)) refl refl refl
  where
    by_tests : (m a b : Bool) → (c == 45) ≡ m → are_digits cs ≡ a → are_digits (c ∷ cs) ≡ b → are_digits (unsigned (c ∷ cs)) ≡ true
    by_tests true true b p q r = rw (p, q) refl
    by_tests true false b p q r = absurd (false≢true (rw (p, q) at e))
    by_tests false a true p q r = rw (p, r) refl
    by_tests false a false p q r = absurd (false≢true (rw (p, r) at e))

number_free : (s : List ℕ) (t : Tree) (z : Option ℤ) → whole_64 s ≡ z → bare_number z ≡ Some t → Free (kit.number s)
number_free s t None e is = absurd cc
number_free s t (Some z) e is = is_whole s (ap is_some e)

string_free : (j : Json) (s : List ℕ) → as_str j ≡ Some s → Free j
string_free (kit.string s) t e = tt
string_free kit.null t e = tt
string_free (kit.boolean b) t e = tt
string_free (kit.number s) t e = absurd cc
string_free (kit.array js) t e = absurd cc
string_free (kit.object ms) t e = absurd cc

whole_free : (j : Json) (z : ℤ) → option_and_then whole_64 (as_number j) ≡ Some z → Free j
whole_free (kit.number s) z e = is_whole s (ap is_some e)
whole_free (kit.string s) z e = tt
whole_free kit.null z e = tt
whole_free (kit.boolean b) z e = tt
whole_free (kit.array js) z e = absurd cc
whole_free (kit.object ms) z e = absurd cc

-- ---- objects of known names

-- a name that is none of a value
abbrev Plain : List ℕ → Type 0
Plain name = (j : Json) → NoValue (wrapper_of name) j

some_is : {A : Type 0} (a b : A) → Some a ≡ Some b → a ≡ b
some_is a b e = cc

same_text : (a b : List ℕ) → bytes_eq a b ≡ true → a ≡ b
same_text a b e = (bytes_eq-Decides a b).0 e

-- the object of one known name
only_part : (name k : List ℕ) (part i : Json) → only_member name (kit.member k part kit.no_members) ≡ Some i → (k ≡ name) × (part ≡ i)
only_part name k part i = go (bytes_eq k name) refl
  where
    go : (b : Bool) → bytes_eq k name ≡ b → (if b then Some part else None) ≡ Some i → (k ≡ name) × (part ≡ i)
    go true same is = (same_text k name same, some_is part i is)
    go false same is = absurd cc

only_free : (name : List ℕ) (j i : Json) → Plain name → only name j ≡ Some i → (Free i → Free j) × (as_str j ≡ None)
unfolding only
only_free name (kit.object kit.no_members) i plain e = absurd cc
only_free name (kit.object (kit.member k part (kit.member l more ms))) i plain e = absurd cc
only_free name (kit.object (kit.member k part kit.no_members)) i plain e =
    let is = only_part name k part i e in
    (λ f. (subst (λ (n : List ℕ). NoValue (wrapper_of n) part) (sym is.0) (plain part), (subst Free (sym is.1) f, tt)), refl)
only_free name (kit.string s) i plain e = absurd cc
only_free name kit.null i plain e = absurd cc
only_free name (kit.boolean b) i plain e = absurd cc
only_free name (kit.number s) i plain e = absurd cc
only_free name (kit.array js) i plain e = absurd cc

-- the object of two known names
pair_parts : (a b k l : List ℕ) (j i : Json) (p : Json × Json) → pair_members a b (kit.member k j (kit.member l i kit.no_members)) ≡ Some p
    → ((k ≡ a) × (j ≡ p.0) × (i ≡ p.1)) ⊎ ((k ≡ b) × (i ≡ p.0) × (j ≡ p.1))
pair_parts a b k l j i p = go (bytes_eq k a && bytes_eq l b) refl (bytes_eq k b && bytes_eq l a) refl
  where
    go : (x : Bool) → (bytes_eq k a && bytes_eq l b) ≡ x → (y : Bool) → (bytes_eq k b && bytes_eq l a) ≡ y → (if x then Some (j, i) else if y then Some (i, j) else None) ≡ Some p
        → ((k ≡ a) × (j ≡ p.0) × (i ≡ p.1)) ⊎ ((k ≡ b) × (i ≡ p.0) × (j ≡ p.1))
    go true x y q is = let same = some_is (j, i) p is in inl (same_text k a ((and_parts (bytes_eq k a) (bytes_eq l b) x).0), ap (λ (r : Json × Json). r.0) same, ap (λ (r : Json × Json). r.1) same)
    go false x true q is = let same = some_is (i, j) p is in inr (same_text k b ((and_parts (bytes_eq k b) (bytes_eq l a) q).0), ap (λ (r : Json × Json). r.0) same, ap (λ (r : Json × Json). r.1) same)
    go false x false q is = absurd cc

pair_free : (a b : List ℕ) (j : Json) (p : Json × Json) → Plain a → Plain b → pair a b j ≡ Some p → Free p.0 → Free p.1 → Free j
unfolding pair
pair_free a b (kit.object (kit.member k j (kit.member l i kit.no_members))) p plain other e f g =
    elim (pair_parts a b k l j i p e) [
      | inl is ↦ (subst (λ (n : List ℕ). NoValue (wrapper_of n) j) (sym is.0) (plain j), (subst Free (sym is.1) f, (subst Free (sym is.2) g, tt)))
      | inr is ↦ (subst (λ (n : List ℕ). NoValue (wrapper_of n) j) (sym is.0) (other j), (subst Free (sym is.2) g, (subst Free (sym is.1) f, tt)))
    ]
pair_free a b (kit.object kit.no_members) p plain other e f g = absurd cc
pair_free a b (kit.object (kit.member k j kit.no_members)) p plain other e f g = absurd cc
pair_free a b (kit.object (kit.member k j (kit.member l i (kit.member m h ms)))) p plain other e f g = absurd cc
pair_free a b (kit.string s) p plain other e f g = tt
pair_free a b kit.null p plain other e f g = tt
pair_free a b (kit.boolean x) p plain other e f g = tt
pair_free a b (kit.number s) p plain other e f g = absurd cc
pair_free a b (kit.array js) p plain other e f g = absurd cc

zipped : {A B : Type 0} (o : Option A) (r : Option B) (p : A × B) → option_zip o r ≡ Some p → ((a : A) × (o ≡ Some a)) × ((b : B) × (r ≡ Some b))
zipped None r p e = absurd cc
zipped (Some a) None p e = absurd cc
zipped (Some a) (Some b) p e = ((a, refl), (b, refl))

text_free : {A : Type 0} (f : List ℕ → Option A) (j : Json) (a : A) → option_and_then f (as_str j) ≡ Some a → Free j
text_free f j a e = let s = then_there f (as_str j) a e in string_free j s.0 s.1

plain_name : (name : List ℕ) → wrapper_of name ≡ None → Plain name
plain_name name none j = subst (λ (w : Option Wrapper). NoValue w j) (sym none) tt

base64_name : Plain (codes "base64")
unfolding wrapper_of
base64_name j = tt

sub_type_name : Plain (codes "subType")
unfolding wrapper_of
sub_type_name j = tt

t_name : Plain (codes "t")
unfolding wrapper_of
t_name j = tt

i_name : Plain (codes "i")
unfolding wrapper_of
i_name j = tt

pattern_name : Plain (codes "pattern")
unfolding wrapper_of
pattern_name j = tt

options_name : Plain (codes "options")
unfolding wrapper_of
options_name j = tt

ref_name : Plain (codes "$ref")
unfolding wrapper_of
ref_name j = tt

id_name : Plain (codes "$id")
unfolding wrapper_of
id_name j = tt

oid_name : Plain (codes "$oid")
unfolding wrapper_of
oid_name j = tt

long_name : Plain (codes "$numberLong")
unfolding wrapper_of
long_name j = tt

word_free : (j : Json) (n : ℕ) → word_in j ≡ Some n → Free j
word_free (kit.number s) n e = let z = then_there if_word (whole_64 s) n e in is_whole s (ap is_some z.1)
word_free (kit.string s) n e = tt
word_free kit.null n e = tt
word_free (kit.boolean b) n e = tt
word_free (kit.array js) n e = absurd cc
word_free (kit.object ms) n e = absurd cc

one_free : (j : Json) → one j ≡ true → Free j
one_free (kit.number s) e = go (whole_64 s) refl e
  where
    go : (z : Option ℤ) → whole_64 s ≡ z → is_one z ≡ true → Free (kit.number s)
    go None is e = absurd (false≢true e)
    go (Some z) is e = is_whole s (ap is_some is)
one_free (kit.string s) e = tt
one_free kit.null e = tt
one_free (kit.boolean b) e = tt
one_free (kit.array js) e = absurd (false≢true e)
one_free (kit.object ms) e = absurd (false≢true e)

boolean_free : (j : Json) → unwrap_or (as_bool j) false ≡ true → Free j
boolean_free (kit.boolean b) e = tt
boolean_free (kit.string s) e = tt
boolean_free kit.null e = tt
boolean_free (kit.number s) e = absurd (false≢true e)
boolean_free (kit.array js) e = absurd (false≢true e)
boolean_free (kit.object ms) e = absurd (false≢true e)

if_there : {A : Type 0} (b : Bool) (a c : A) → (if b then Some a else None) ≡ Some c → b ≡ true
if_there true a c e = refl
if_there false a c e = absurd cc

-- what a wrapper of one name means
single_free : (w : Wrapper) (j : Json) (s : Scalar) → single w j ≡ Some s → NoValue (Some w) j × Free j
single_free wrappers.NumberInt j s e = let a = there (λ z. trees.int32 z) (option_and_then whole_32 (as_str j)) s e in (tt, text_free whole_32 j a.0 a.1)
single_free wrappers.NumberLong j s e = let a = there (λ z. trees.int64 z) (long_in j) s e in (tt, text_free whole_64 j a.0 a.1)
single_free wrappers.Oid j s e = let a = there (λ b. trees.object_id b) (id_of j) s e in (tt, text_free _ j a.0 a.1)
single_free wrappers.Symbol j s e = let a = there (λ b. trees.symbol b) (as_str j) s e in (tt, string_free j a.0 a.1)
single_free wrappers.Code j s e = let a = there (λ b. trees.code b) (as_str j) s e in (tt, string_free j a.0 a.1)
single_free wrappers.Binary j s e =
    let a = there (λ p. trees.binary p.1 p.0) (option_and_then (both_in data_in subtype_in) (pair (codes "base64") (codes "subType") j)) s e in
    let p = then_there (both_in data_in subtype_in) (pair (codes "base64") (codes "subType") j) a.0 a.1 in
    let z = zipped (data_in p.0.0) (subtype_in p.0.1) a.0 p.2 in
    (tt, pair_free (codes "base64") (codes "subType") j p.0 base64_name sub_type_name p.1 (text_free _ p.0.0 z.0.0 z.0.1) (text_free digits_in p.0.1 z.1.0 z.1.1))
single_free wrappers.Timestamp j s e =
    let a = there (λ p. trees.timestamp p.0 p.1) (option_and_then (both_in word_in word_in) (pair (codes "t") (codes "i") j)) s e in
    let p = then_there (both_in word_in word_in) (pair (codes "t") (codes "i") j) a.0 a.1 in
    let z = zipped (word_in p.0.0) (word_in p.0.1) a.0 p.2 in
    (tt, pair_free (codes "t") (codes "i") j p.0 t_name i_name p.1 (word_free p.0.0 z.0.0 z.0.1) (word_free p.0.1 z.1.0 z.1.1))
single_free wrappers.RegularExpression j s e =
    let a = there (λ p. trees.regex p.0 p.1) (option_and_then (both_in name_in name_in) (pair (codes "pattern") (codes "options") j)) s e in
    let p = then_there (both_in name_in name_in) (pair (codes "pattern") (codes "options") j) a.0 a.1 in
    let z = zipped (name_in p.0.0) (name_in p.0.1) a.0 p.2 in
    (tt, pair_free (codes "pattern") (codes "options") j p.0 pattern_name options_name p.1 (text_free _ p.0.0 z.0.0 z.0.1) (text_free _ p.0.1 z.1.0 z.1.1))
single_free wrappers.DbPointer j s e =
    let id : Json → Option (List ℕ) = λ i. option_and_then id_of (only (codes "$oid") i) in
    let a = there (λ p. trees.db_pointer p.0 p.1) (option_and_then (both_in as_str id) (pair (codes "$ref") (codes "$id") j)) s e in
    let p = then_there (both_in as_str id) (pair (codes "$ref") (codes "$id") j) a.0 a.1 in
    let z = zipped (as_str p.0.0) (id p.0.1) a.0 p.2 in
    let o = then_there id_of (only (codes "$oid") p.0.1) z.1.0 z.1.1 in
    (tt, pair_free (codes "$ref") (codes "$id") j p.0 ref_name id_name p.1 (string_free p.0.0 z.0.0 z.0.1) ((only_free (codes "$oid") p.0.1 o.0 oid_name o.1).0 (text_free _ o.0 z.1.0 o.2)))
single_free wrappers.Date j s e =
    let a = there (λ z. trees.date z) (option_and_then long_in (only (codes "$numberLong") j)) s e in
    let o = then_there long_in (only (codes "$numberLong") j) a.0 a.1 in
    let f = only_free (codes "$numberLong") j o.0 long_name o.1 in
    (f.1, f.0 (text_free whole_64 o.0 a.0 o.2))
single_free wrappers.MinKey j s e = (tt, one_free j (if_there (one j) trees.min_key s e))
single_free wrappers.MaxKey j s e = (tt, one_free j (if_there (one j) trees.max_key s e))
single_free wrappers.Undefined j s e = (tt, boolean_free j (if_there (unwrap_or (as_bool j) false) trees.undefined s e))
single_free wrappers.NumberDouble j s e = absurd cc
single_free wrappers.NumberDecimal j s e = absurd cc
single_free wrappers.Uuid j s e = absurd cc
single_free wrappers.Scope j s e = absurd cc

-- ---- code with its scope

scope_parts : (o : Option (List ℕ)) (u : Option Tree) (r : Tree) → with_scope o u ≡ Some r → ((s : List ℕ) × (o ≡ Some s)) × ((a : Tree) × (u ≡ Some a))
scope_parts None u r e = absurd cc
scope_parts (Some s) None r e = absurd cc
scope_parts (Some s) (Some a) r e = ((s, refl), (a, refl))

module _ (j : Json) (t : Option Tree) (i : Json) (u : Option Tree) (r : Tree) (first : (a : Tree) → t ≡ Some a → Free j) (second : (a : Tree) → u ≡ Some a → Free i) where
  abbrev Both : Wrapper → Members → Type 0
  Both w ms = NoValue (Some w) j × (Free j × (Free i × MembersFree ms))

  code_free : (v : Option Wrapper) (ms : Members) → two wrappers.Code j t v i u ms ≡ Some r → Both wrappers.Code ms
  code_free (Some wrappers.Scope) kit.no_members e = let p = scope_parts (as_str j) u r e in (tt, (string_free j p.0.0 p.0.1, (second p.1.0 p.1.1, tt)))
  code_free (Some wrappers.Scope) (kit.member n k ms) e = absurd cc
  code_free None ms e = absurd cc
  code_free (Some _) ms e = absurd cc

  scope_free : (v : Option Wrapper) (ms : Members) → two wrappers.Scope j t v i u ms ≡ Some r → Both wrappers.Scope ms
  scope_free (Some wrappers.Code) kit.no_members e = let p = scope_parts (as_str i) t r e in (tt, (first p.1.0 p.1.1, (string_free i p.0.0 p.0.1, tt)))
  scope_free (Some wrappers.Code) (kit.member n k ms) e = absurd cc
  scope_free None ms e = absurd cc
  scope_free (Some _) ms e = absurd cc

  two_free : (w : Wrapper) (v : Option Wrapper) (ms : Members) → two w j t v i u ms ≡ Some r → Both w ms
  two_free wrappers.Code v ms e = code_free v ms e
  two_free wrappers.Scope v ms e = scope_free v ms e
  two_free _ v ms e = absurd cc

-- ---- any value

item_parts : (a : Option Tree) (b : Option trees.Items) (c : trees.Items) → add_item a b ≡ Some c → ((t : Tree) × (a ≡ Some t)) × ((ts : trees.Items) × (b ≡ Some ts))
item_parts None b c e = absurd cc
item_parts (Some t) None c e = absurd cc
item_parts (Some t) (Some ts) c e = ((t, refl), (ts, refl))

field_parts : (name : List ℕ) (a : Option Tree) (b : Option Fields) (c : Fields) → add_field name a b ≡ Some c → ((t : Tree) × (a ≡ Some t)) × ((fs : Fields) × (b ≡ Some fs))
field_parts name None b c e = absurd cc
field_parts name (Some t) None c e = absurd cc
field_parts name (Some t) (Some fs) c e = ((t, refl), (fs, refl))

abbrev SecondFree : ℕ → Members → Type 0
SecondFree d kit.no_members = Unit {0}
SecondFree d (kit.member n i ms) = (u : Tree) → wrap d i ≡ Some u → Free i

wrapped_free : (d : ℕ) (w : Wrapper) (j : Json) (ms : Members) (t : Tree) → ((u : Tree) → wrap (d - 1) j ≡ Some u → Free j) → SecondFree (d - 1) ms
    → wrapped d w j (wrap (d - 1) j) ms ≡ Some t → NoValue (Some w) j × (Free j × MembersFree ms)
wrapped_free d w j kit.no_members t first second e = let a = there leaf (single w j) t e in let f = single_free w j a.0 a.1 in (f.0, (f.1, tt))
wrapped_free d w j (kit.member m i ms) t first second e =
    two_free j (wrap (d - 1) j) i (wrap (d - 1) i) t first second w (wrapper_of m) ms
    (below d (two w j (wrap (d - 1) j) (wrapper_of m) i (wrap (d - 1) i) ms) t e)

object_free : (d : ℕ) (n : List ℕ) (j : Json) (ms : Members) (t : Tree) → ((u : Tree) → wrap (d - 1) j ≡ Some u → Free j)
    → ((fs : Fields) → wrap_fields (d - 1) ms ≡ Some fs → MembersFree ms) → SecondFree (d - 1) ms → (v : Option Wrapper) → wrapper_of n ≡ v
    → option_map_or (λ w. wrapped d w j (wrap (d - 1) j) ms) v (nested d (option_map doc (add_field n (wrap (d - 1) j) (wrap_fields (d - 1) ms)))) ≡ Some t
    → Free (kit.object (kit.member n j ms))
object_free d n j ms t first others second None named e =
    let a = there doc (add_field n (wrap (d - 1) j) (wrap_fields (d - 1) ms)) t (below d (option_map doc (add_field n (wrap (d - 1) j) (wrap_fields (d - 1) ms))) t e) in
    let p = field_parts n (wrap (d - 1) j) (wrap_fields (d - 1) ms) a.0 a.1 in
    (subst (λ (v : Option Wrapper). NoValue v j) (sym named) tt, (first p.0.0 p.0.1, others p.1.0 p.1.1))
object_free d n j ms t first others second (Some w) named e =
    let f = wrapped_free d w j ms t first second e in
    (subst (λ (v : Option Wrapper). NoValue v j) (sym named) f.0, f.1)

mutual
  pub wrap_free : (d : ℕ) (j : Json) (t : Tree) → wrap d j ≡ Some t → Free j
  wrap_free d kit.null t e = tt
  wrap_free d (kit.boolean b) t e = tt
  wrap_free d (kit.string s) t e = tt
  wrap_free d (kit.number s) t e = number_free s t (whole_64 s) refl e
  wrap_free d (kit.array js) t e = let a = there array (wrap_items (d - 1) js) t (below d (option_map array (wrap_items (d - 1) js)) t e) in items_free (d - 1) js a.0 a.1
  wrap_free d (kit.object kit.no_members) t e = (tt, tt)
  wrap_free d (kit.object (kit.member n j ms)) t e = object_free d n j ms t (λ u is. wrap_free (d - 1) j u is) (λ fs is. fields_free (d - 1) ms fs is) (second_free (d - 1) ms) (wrapper_of n) refl e

  items_free : (d : ℕ) (js : Items) (ts : trees.Items) → wrap_items d js ≡ Some ts → AreFree js
  items_free d kit.no_items ts e = tt
  items_free d (kit.item j js) ts e = let p = item_parts (wrap d j) (wrap_items d js) ts e in (wrap_free d j p.0.0 p.0.1, items_free d js p.1.0 p.1.1)

  -- the second member of an object
  second_free : (d : ℕ) (ms : Members) → SecondFree d ms
  second_free d kit.no_members = tt
  second_free d (kit.member n i ms) = λ u is. wrap_free d i u is

  fields_free : (d : ℕ) (ms : Members) (fs : Fields) → wrap_fields d ms ≡ Some fs → MembersFree ms
  fields_free d kit.no_members fs e = tt
  fields_free d (kit.member n j ms) fs e = let p = field_parts n (wrap d j) (wrap_fields d ms) fs e in (wrap_free d j p.0.0 p.0.1, fields_free d ms p.1.0 p.1.1)
