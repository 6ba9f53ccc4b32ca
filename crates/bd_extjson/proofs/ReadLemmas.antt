-- Reading and wrapping, one step at a time, and a whole text.
use Rattle.std.proofs.Common.{◌≡◌, ℕ, zero, suc, ◌-◌, ◌<◌, ◌≤◌, Bool, true, false, List, [], ◌∷◌, ◌++◌, length, Option, Some, None, option_map, option_and_then}
use Rattle.std.proofs.Common.{refl, sym, ap, ◌∙◌, arith, rules, inl, inr}
use Rattle.std.specs.Prelude.{Result, Ok, Err, IfErr, MatchOption, String, string_bytes}
use Rattle.std.specs.Borrow.{Bor}
use Rattle.std.specs.Str.{is_utf8, IsUtf8}
use Rattle.std.specs.declared.alloc.Global.{Global}
use Rattle.std.proofs.lemmas.Bool.{cases_Bool}
use Rattle.std.proofs.lemmas.Str.{is_utf8-from_IsUtf8, IsUtf8-from_is_utf8}
use Rattle.json.specs.Json as kit
use Rattle.json.specs.Json.{Json, Parse, parse_map, after_end_array, read_key, items_step, members_step, items, members, value, if_last}
use Rattle.json.specs.Lex.{tokens}
use Rattle.json.specs.Token.{Token}
use Rattle.json.proofs.Grammar.{value-begin_array, value-begin_object, read_key-shorter, read_key_is, key_token, value_is, items_end, members_no_key}
use Rattle.bd_value.specs.Limits.{most_brackets, most_levels}
use Rattle.bd_value.specs.Tree as trees
use Rattle.bd_value.specs.Tree.{Tree, leaf, doc, array, Items, no_items, item, Fields, no_fields, field, Doc, fields_of, items_of, pairs_of, pairs_of-fields_of}
use Rattle.bd_value.specs.View.{tree_of}
use Rattle.bd_value.specs.Fits.{has_zero}
use Rattle.bd_value.proofs.ViewLemmas.{tree_of-Doc, tree_of-Array}
use Rattle.bd_value.specs.declared.document.Value.TheFolds as folds
use Rattle.bd_value.specs.declared.document.Value.TheVariants as values
use Rattle.bd_extjson_fault.specs.JsonFault.{ReportsBadUtf8}
use Rattle.bd_extjson_fault.specs.declared.json_fault.JsonFault.{JsonFault}
use Rattle.bd_extjson_wrapper.specs.WholeNumber.{whole_64}
use Rattle.bd_extjson_wrapper.specs.Wrapper.{wrapper_of, through, after_key, Fails, Gives}
use Rattle.bd_extjson_wrapper.specs.declared.wrapper.Trouble.{Trouble}
use Rattle.bd_extjson_wrapper.specs.declared.wrapper.Trouble.TheVariants as troubles
use Rattle.bd_extjson_wrapper.specs.declared.wrapper.Wrapper.{Wrapper}
use Rattle.bd_extjson.specs.Read.{bare_number, nested, add_item, add_field, wrap, wrap_items, wrap_object, wrap_fields, json, document, reading}

pub nested_is : {A : Type 0} (depth_left : ℕ) (r : Option A) → 0 < depth_left → nested depth_left r ≡ r
nested_is zero r h = absurd (omega arith)
nested_is (suc depth_left) r h = refl

-- ---- functions of what was read

-- A function that never gives a result gives none of what was read.
pub never : {J A : Type 0} (f : J → Option A) → ((j : J) → f j ≡ None) → (r : Option (J × List Token)) → through f r ≡ None
never f h None = refl
never f h (Some q) = ap (option_map (λ a. (a, q.1))) (h q.0)

pub through_same : {J A : Type 0} (f g : J → Option A) → ((j : J) → f j ≡ g j) → (r : Option (J × List Token)) → through f r ≡ through g r
through_same f g h None = refl
through_same f g h (Some q) = ap (option_map (λ a. (a, q.1))) (h q.0)

-- A function of what was made of the value is the function after the making.
pub through_made : {J K A : Type 0} (f : K → Option A) (make : J → K) (r : Option (J × List Token)) → through f (parse_map make r) ≡ through (λ j. f (make j)) r
through_made f make None = refl
through_made f make (Some q) = refl

through_map : {J A B : Type 0} (f : J → Option A) (make : A → B) (r : Option (J × List Token)) → through (λ j. option_map make (f j)) r ≡ parse_map make (through f r)
through_map f make None = refl
through_map {A = A} {B = B} f make (Some q) = go (f q.0)
  where
    go : (o : Option A) → option_map (λ (b : B). (b, q.1)) (option_map make o) ≡ parse_map make (option_map (λ (a : A). (a, q.1)) o)
    go None = refl
    go (Some x) = refl

-- the same for a first member and those after it
member_same : {A : Type 0} (f g : kit.Members → Option A) (k : List ℕ) (depth n : ℕ) (ts : List Token)
    → ((j : Json) (ms : kit.Members) → f (kit.member k j ms) ≡ g (kit.member k j ms)) → through f (after_key depth n (Some k) ts) ≡ through g (after_key depth n (Some k) ts)
member_same f g k depth n ts h = turn (value depth ts)
  where
    turn : (v : Option (Json × List Token)) → through f (option_and_then (λ p. parse_map (kit.member k p.0) (members (value depth) n p.1)) v)
        ≡ through g (option_and_then (λ p. parse_map (kit.member k p.0) (members (value depth) n p.1)) v)
    turn None = refl
    turn (Some p) =
        let r = members (value depth) n p.1 in
        through_made f (kit.member k p.0) r ∙ through_same (λ ms. f (kit.member k p.0 ms)) (λ ms. g (kit.member k p.0 ms)) (h p.0) r ∙ sym (through_made g (kit.member k p.0) r)

-- if no member of this name is accepted, nothing is read from the name on
pub refused_member : {A : Type 0} (f : kit.Members → Option A) (k : List ℕ) (depth n : ℕ) (ts : List Token) → ((j : Json) (ms : kit.Members) → f (kit.member k j ms) ≡ None)
    → through f (after_key depth n (Some k) ts) ≡ None
refused_member {A = A} f k depth n ts h =
    let none : kit.Members → Option A = λ ms. None in
    member_same f none k depth n ts h ∙ never none (λ ms. refl) (after_key depth n (Some k) ts)

-- ---- arrays

-- An array is read as its items, with one level and one bracket less.
pub array_read : (depth_left depth : ℕ) (ts : List Token) → 0 < depth_left → 0 < depth
    → through (wrap depth_left) (value depth (Token.begin_array ∷ ts)) ≡ parse_map array (through (wrap_items (depth_left - 1)) (items (value (depth - 1)) (length ts) ts))
array_read depth_left depth ts h k =
    let r = items (value (depth - 1)) (length ts) ts in
    ap (through (wrap depth_left)) (value-begin_array depth ts k) ∙ through_made (wrap depth_left) kit.array r
    ∙ through_same (λ js. wrap depth_left (kit.array js)) (λ js. option_map array (wrap_items (depth_left - 1) js)) (λ js. nested_is depth_left _ h) r
    ∙ through_map (wrap_items (depth_left - 1)) array r

pub array_refused : (depth_left depth : ℕ) (ts : List Token) → 0 < depth → depth_left ≡ 0 → through (wrap depth_left) (value depth (Token.begin_array ∷ ts)) ≡ None
array_refused depth_left depth ts k e =
    let r = items (value (depth - 1)) (length ts) ts in
    ap (λ n. through (wrap n) (value depth (Token.begin_array ∷ ts))) e ∙ ap (through (wrap 0)) (value-begin_array depth ts k)
    ∙ through_made (wrap 0) kit.array r ∙ never (λ js. wrap 0 (kit.array js)) (λ js. refl) r

pub too_deep : (depth_left : ℕ) (ts : List Token) → through (wrap depth_left) (value 0 (Token.begin_array ∷ ts)) ≡ None
unfolding value
too_deep depth_left ts = refl

pub too_deep_object : (depth_left : ℕ) (ts : List Token) → through (wrap depth_left) (value 0 (Token.begin_object ∷ ts)) ≡ None
unfolding value
too_deep_object depth_left ts = refl

-- an object is read by its members, one level deeper
pub object_read : (depth_left depth : ℕ) (ts : List Token) → 0 < depth → through (wrap depth_left) (value depth (Token.begin_object ∷ ts)) ≡ through (wrap_object depth_left) (members (value (depth - 1)) (length ts) ts)
object_read depth_left depth ts k = ap (through (wrap depth_left)) (value-begin_object depth ts k) ∙ through_made (wrap depth_left) kit.object (members (value (depth - 1)) (length ts) ts)

-- ---- what was read, and then more

abbrev pub then : {A B : Type 0} → Option (A × List Token) → (A → List Token → Option (B × List Token)) → Option (B × List Token)
then None k = None
then (Some p) k = k p.0 p.1

-- one more at the start, of the items or the fields that `add` makes
abbrev with_one : {X : Type 0} → (Option Tree → Option X → Option X) → Tree → Option (X × List Token) → Option (X × List Token)
with_one add t None = None
with_one add t (Some q) = option_map (λ x. (x, q.1)) (add (Some t) (Some q.0))

module _ (J X : Type 0) (make : Json → J → J) (read : J → Option X) (add : Option Tree → Option X → Option X) (depth_left : ℕ)
    (made : (j : Json) (js : J) → read (make j js) ≡ add (wrap depth_left j) (read js)) (none : (o : Option X) → add None o ≡ None)
    (less : (t : Tree) → add (Some t) None ≡ None) where
  pushed : (t : Tree) (r : Option (J × List Token)) → through (λ js. add (Some t) (read js)) r ≡ with_one add t (through read r)
  pushed t None = refl
  pushed t (Some q) = go (read q.0)
    where
      go : (o : Option X) → option_map (λ (x : X). (x, q.1)) (add (Some t) o) ≡ with_one add t (option_map (λ (x : X). (x, q.1)) o)
      go None = ap (option_map (λ (x : X). (x, q.1))) (less t)
      go (Some x) = refl

  turn : (more : Parse J) (v : Option (Json × List Token))
      → through read (option_and_then (λ p. parse_map (make p.0) (more p.1)) v) ≡ then (through (wrap depth_left) v) (λ t r. with_one add t (through read (more r)))
  turn more None = refl
  turn more (Some p) =
      through_made read (make p.0) (more p.1) ∙ through_same (λ js. read (make p.0 js)) (λ js. add (wrap depth_left p.0) (read js)) (made p.0) (more p.1) ∙ split (wrap depth_left p.0)
    where
      split : (o : Option Tree) → through (λ js. add o (read js)) (more p.1) ≡ then (option_map (λ (t : Tree). (t, p.1)) o) (λ t s. with_one add t (through read (more s)))
      split None = never (λ js. add None (read js)) (λ js. none (read js)) (more p.1)
      split (Some t) = pushed t (more p.1)

items_step_is : (depth_left depth n : ℕ) (ts : List Token) → 0 < n → after_end_array ts ≡ None
    → through (wrap_items depth_left) (items (value depth) n ts) ≡ then (through (wrap depth_left) (value depth ts)) (λ t r. with_one add_item t (through (wrap_items depth_left) (items (value depth) (n - 1) r)))
unfolding items
items_step_is depth_left depth zero ts h e = absurd (omega arith)
items_step_is depth_left depth (suc n) ts h e =
    let k : n ≡ suc n - 1 = omega arith in
    ap (λ o. through (wrap_items depth_left) (items_step (value depth) (items (value depth) n) ts o)) e
    ∙ turn kit.Items Items kit.item (wrap_items depth_left) add_item depth_left (λ j js. refl) (λ o. refl) (λ t. refl) (items (value depth) n) (value depth ts)
    ∙ ap (λ m. then (through (wrap depth_left) (value depth ts)) (λ t r. with_one add_item t (through (wrap_items depth_left) (items (value depth) m r)))) k

with_item_is : (t : Tree) (r : Option (Items × List Token)) → with_one add_item t r ≡ parse_map (item t) r
with_item_is t None = refl
with_item_is t (Some q) = refl

-- elements of an array that were read, before those that remain
abbrev pub items_before : List Tree → Items → Items
items_before [] rest = rest
items_before (t ∷ ts) rest = item t (items_before ts rest)

pub items_before-none : (ts : List Tree) → items_before ts no_items ≡ items_of ts
items_before-none [] = refl
items_before-none (t ∷ ts) = ap (item t) (items_before-none ts)

items_push : (ts : List Tree) (t : Tree) (rest : Items) → items_before ts (item t rest) ≡ items_before (ts ++ t ∷ []) rest
items_push [] t rest = refl
items_push (s ∷ ts) t rest = ap (item s) (items_push ts t rest)

-- one more element after those before it, and then the rest, is one list
pub one_more_item : (ts : List Tree) (t : Tree) (r : Option (Items × List Token)) → parse_map (items_before ts) (parse_map (item t) r) ≡ parse_map (items_before (ts ++ t ∷ [])) r
one_more_item ts t None = refl
one_more_item ts t (Some p) = ap (λ x. Some (x, p.1)) (items_push ts t p.0)

-- ---- objects

-- what follows a name
field_step : (k : List ℕ) (depth_left depth n : ℕ) (ts : List Token)
    → through (wrap_fields depth_left) (after_key depth n (Some k) ts)
    ≡ then (through (wrap depth_left) (value depth ts)) (λ t r. with_one (add_field k) t (through (wrap_fields depth_left) (members (value depth) n r)))
field_step k depth_left depth n ts =
    turn kit.Members Fields (kit.member k) (wrap_fields depth_left) (add_field k) depth_left (λ j ms. refl) (λ o. refl) (λ t. refl) (members (value depth) n) (value depth ts)

-- the next name
pub next_name : (depth n : ℕ) (ts r : List Token) (key : Option (List ℕ)) → length ts ≤ n → read_key ts ≡ Some (key, r) → members (value depth) n ts ≡ after_key depth (n - 1) key r
unfolding members
next_name depth zero ts r key le e = absurd (omega (arith, read_key-shorter ts key r e))
next_name depth (suc n) ts r key le e =
    let k : n ≡ suc n - 1 = omega arith in
    ap (option_and_then (λ q. members_step (value depth) (members (value depth) n) q.0 q.1)) e ∙ ap (λ m. after_key depth m key r) k

with_field_is : (k : List ℕ) (t : Tree) (r : Option (Fields × List Token)) → has_zero k ≡ false → with_one (add_field k) t r ≡ parse_map (field k t) r
with_field_is k t None e = refl
with_field_is k t (Some q) e = rw e refl

-- fields of a document that were read, before those that remain
abbrev pub fields_before : Doc → Fields → Fields
fields_before [] rest = rest
fields_before (p ∷ ps) rest = field p.0 p.1 (fields_before ps rest)

pub fields_before-none : (ps : Doc) → fields_before ps no_fields ≡ fields_of ps
fields_before-none [] = refl
fields_before-none (p ∷ ps) = ap (field p.0 p.1) (fields_before-none ps)

fields_push : (ps : Doc) (k : List ℕ) (t : Tree) (rest : Fields) → fields_before ps (field k t rest) ≡ fields_before (ps ++ (k, t) ∷ []) rest
fields_push [] k t rest = refl
fields_push (p ∷ ps) k t rest = ap (field p.0 p.1) (fields_push ps k t rest)

-- one more field after those before it, and then the rest, is one list
pub one_more_field : (ps : Doc) (k : List ℕ) (t : Tree) (r : Option (Fields × List Token)) → parse_map (fields_before ps) (parse_map (field k t) r) ≡ parse_map (fields_before (ps ++ (k, t) ∷ [])) r
one_more_field ps k t None = refl
one_more_field ps k t (Some p) = ap (λ x. Some (x, p.1)) (fields_push ps k t p.0)

-- ---- what fails

pub fails_by : {A B : Type 0} (e : Trouble) (x : Option A) (y : Option B) → (x ≡ None → y ≡ None) → Fails e x → Fails e y
fails_by troubles.Memory x y f h = tt
fails_by troubles.Refused x y f h = f h

-- a failure that does not refuse the text says nothing of it
pub fails_where : {A : Type 0} (e : Trouble) (x : Option A) → (e ≡ troubles.Refused → x ≡ None) → Fails e x
fails_where troubles.Memory x f = tt
fails_where troubles.Refused x f = f refl

pub items_refused : (depth_left depth n : ℕ) (ts : List Token) → after_end_array ts ≡ None → through (wrap depth_left) (value depth ts) ≡ None → through (wrap_items depth_left) (items (value depth) n ts) ≡ None
unfolding items
items_refused depth_left depth zero ts e f = refl
items_refused depth_left depth (suc n) ts e f =
    items_step_is depth_left depth (suc n) ts (omega arith) e ∙ ap (λ o. then o (λ t r. with_one add_item t (through (wrap_items depth_left) (items (value depth) (suc n - 1) r)))) f

-- after an element that is read, the elements that remain are read
pub items_go_on : (depth_left depth n : ℕ) (ts r : List Token) (t : Tree) → 0 < n → after_end_array ts ≡ None → through (wrap depth_left) (value depth ts) ≡ Some (t, r)
    → through (wrap_items depth_left) (items (value depth) n ts) ≡ parse_map (item t) (through (wrap_items depth_left) (items (value depth) (n - 1) r))
items_go_on depth_left depth n ts r t h e f =
    items_step_is depth_left depth n ts h e ∙ ap (λ o. then o (λ t r. with_one add_item t (through (wrap_items depth_left) (items (value depth) (n - 1) r)))) f
    ∙ with_item_is t (through (wrap_items depth_left) (items (value depth) (n - 1) r))

-- after a field that is read, the members that remain are read
pub field_goes_on : (k : List ℕ) (depth_left depth n : ℕ) (ts r : List Token) (t : Tree) → has_zero k ≡ false → through (wrap depth_left) (value depth ts) ≡ Some (t, r)
    → through (wrap_fields depth_left) (after_key depth n (Some k) ts) ≡ parse_map (field k t) (through (wrap_fields depth_left) (members (value depth) n r))
field_goes_on k depth_left depth n ts r t z f =
    field_step k depth_left depth n ts ∙ ap (λ o. then o (λ t r. with_one (add_field k) t (through (wrap_fields depth_left) (members (value depth) n r)))) f ∙ with_field_is k t _ z

-- ---- an object after its first name

-- the members of an object are those from its first name on
pub first_name : (depth : ℕ) (ts r : List Token) (key : Option (List ℕ)) → read_key ts ≡ Some (key, r) → members (value depth) (length ts) ts ≡ after_key depth (length r) key r
first_name depth ts r key e =
    let one : length ts ≡ length (key_token key ∷ r) = ap (λ l. length l) (read_key_is ts key r e) in
    let less : length ts - 1 ≡ length r = omega (arith, one) in
    next_name depth (length ts) ts r key (omega arith) e ∙ ap (λ m. after_key depth m key r) less

-- the wrapper of a first name, if there is one
pub wrapper_is : (first : Option (Bor (List ℕ))) (w : Option Wrapper) → MatchOption first (w ≡ None) (λ s. w ≡ wrapper_of s.now)
    → w ≡ option_and_then wrapper_of (option_map (λ s. s.now) first)
wrapper_is None w is = is
wrapper_is (Some s) w is = is

-- an object whose first name is a wrapper's is read as this wrapper
pub object_is_wrapper : {X : Type 0} (view : X → Tree) (result : Result X Trouble) (rest : List Token) (w : Wrapper) (depth_left depth n : ℕ)
    (ts : List Token) (key : Option (List ℕ)) → option_and_then wrapper_of key ≡ Some w
    → ((name : List ℕ) → wrapper_of name ≡ Some w → Gives (λ x. (view x, rest)) result (through (wrap_object depth_left) (after_key depth n (Some name) ts)))
    → Gives (λ x. (view x, rest)) result (through (wrap_object depth_left) (after_key depth n key ts))
object_is_wrapper view result rest w depth_left depth n ts None e f = absurd cc
object_is_wrapper view result rest w depth_left depth n ts (Some name) e f = f name e

-- an object whose first name is not a wrapper's is read as a document
pub object_is_plain : (depth_left depth n : ℕ) (ts : List Token) (key : Option (List ℕ)) → 0 < depth_left → option_and_then wrapper_of key ≡ None
    → through (wrap_object depth_left) (after_key depth n key ts) ≡ parse_map doc (through (wrap_fields (depth_left - 1)) (after_key depth n key ts))
object_is_plain depth_left depth n ts None h e = ap (option_map (λ (a : Tree). (a, ts))) (nested_is depth_left (Some (doc no_fields)) h)
object_is_plain depth_left depth n ts (Some k) h e =
    member_same (wrap_object depth_left) (λ ms. option_map doc (wrap_fields (depth_left - 1) ms)) k depth n ts (λ j ms. rw e (nested_is depth_left _ h))
    ∙ through_map (wrap_fields (depth_left - 1)) doc (after_key depth n (Some k) ts)

object_no_depth_left : (depth n : ℕ) (ts : List Token) (key : Option (List ℕ)) → option_and_then wrapper_of key ≡ None → through (wrap_object 0) (after_key depth n key ts) ≡ None
object_no_depth_left depth n ts None e = refl
object_no_depth_left depth n ts (Some k) e = refused_member (wrap_object 0) k depth n ts (λ j ms. rw e refl)

-- with no level left, an object whose first name is not a wrapper's is refused
pub object_refused : (depth_left depth n : ℕ) (ts : List Token) (key : Option (List ℕ)) → depth_left ≡ 0 → option_and_then wrapper_of key ≡ None → through (wrap_object depth_left) (after_key depth n key ts) ≡ None
object_refused depth_left depth n ts key z e = ap (λ r. through (wrap_object r) (after_key depth n key ts)) z ∙ object_no_depth_left depth n ts key e

-- ---- values of one token

-- a string is read as a text
pub read_string : (depth_left depth : ℕ) (s : List ℕ) (rest : List Token) → through (wrap depth_left) (value depth (Token.string s ∷ rest)) ≡ Some (leaf (trees.text s), rest)
read_string depth_left depth s rest = ap (through (wrap depth_left)) (value_is depth (Token.string s ∷ rest))

-- a number is read as a bare whole number, or not at all
pub read_number : (depth_left depth : ℕ) (s : List ℕ) (rest : List Token) → through (wrap depth_left) (value depth (Token.number s ∷ rest)) ≡ option_map (λ (a : Tree). (a, rest)) (bare_number (whole_64 s))
read_number depth_left depth s rest = ap (through (wrap depth_left)) (value_is depth (Token.number s ∷ rest))

-- `true` and `false` are read as booleans
pub read_boolean : (depth_left depth : ℕ) (b : Bool) (rest : List Token) → through (wrap depth_left) (value depth (Token.boolean b ∷ rest)) ≡ Some (leaf (trees.boolean b), rest)
read_boolean depth_left depth b rest = ap (through (wrap depth_left)) (value_is depth (Token.boolean b ∷ rest))

-- `null` is read as null
pub read_null : (depth_left depth : ℕ) (rest : List Token) → through (wrap depth_left) (value depth (Token.null ∷ rest)) ≡ Some (leaf trees.null, rest)
read_null depth_left depth rest = ap (through (wrap depth_left)) (value_is depth (Token.null ∷ rest))

pub fact : {X A : Type 0} (view : X → A) (result : Result X Trouble) (rest : List Token) (o : Option A) (read : Option (A × List Token))
    → read ≡ option_map (λ (a : A). (a, rest)) o → Gives view result o → Gives (λ x. (view x, rest)) result read
fact view (Ok x) rest o read e t = e ∙ ap (option_map (λ a. (a, rest))) t
fact view (Err troubles.Memory) rest o read e t = tt
fact view (Err troubles.Refused) rest o read e t = e ∙ ap (option_map (λ a. (a, rest))) t

pub text_is : (s : String Global) → tree_of (values.Text s) ≡ leaf (trees.text (string_bytes s))
text_is s = search (rules, folds.the_lemmas)

pub bool_is : (b : Bool) → tree_of (values.Bool b) ≡ leaf (trees.boolean b)
bool_is b = search (rules, folds.the_lemmas)

pub null_is : tree_of values.Null ≡ leaf trees.null
null_is = search (rules, folds.the_lemmas)

-- ---- a whole text

whole : (o : Option Tree) (t : Tree) (ts : List Token) → option_map {U = Tree × List Token} (λ a. (a, ts)) o ≡ Some (t, []) → (o ≡ Some t) × (ts ≡ [])
whole None t ts e = absurd cc
whole (Some u) t ts e =
    let rest : Some ts ≡ Some [] = ap (λ (x : Option (Tree × List Token)). option_map (λ (p : Tree × List Token). p.1) x) e in
    (ap (λ (x : Option (Tree × List Token)). option_map (λ (p : Tree × List Token). p.0) x) e, cc)

last : (v : Option (Json × List Token)) (t : Tree) → through (wrap most_levels) v ≡ Some (t, []) → option_and_then (wrap most_levels) (option_and_then (λ p. if_last p.0 p.1) v) ≡ Some t
last None t e = absurd cc
last (Some (j, ts)) t e = let p = whole (wrap most_levels j) t ts e in rw p.1 p.0

-- a text that is UTF-8 has the JSON value of its tokens, if none remains
pub json_is : (text : List ℕ) → is_utf8 text ≡ true → json text ≡ option_and_then (λ p. if_last p.0 p.1) (value most_brackets (tokens text))
json_is text e = rw e refl

-- a text whose tokens give a JSON value, with none remaining, is the value that this means
pub whole_text : (text : List ℕ) (ts rest : List Token) (t : Tree) → IsUtf8 text → ts ≡ tokens text
    → through (wrap most_levels) (value most_brackets ts) ≡ Some (t, rest) → rest ≡ [] → option_and_then (wrap most_levels) (json text) ≡ Some t
whole_text text ts rest t u e r n =
    ap (option_and_then (wrap most_levels)) (json_is text (is_utf8-from_IsUtf8 text u))
    ∙ last (value most_brackets (tokens text)) t (ap (λ k. through (wrap most_levels) (value most_brackets k)) (sym e) ∙ r ∙ ap (λ l. Some (t, l)) n)

-- bytes that are not UTF-8 are no document
pub no_text : (text : List ℕ) → ¬ (IsUtf8 text) → reading text ≡ None
no_text text h = elim (cases_Bool (is_utf8 text)) [
  | inl is ↦ absurd (h (IsUtf8-from_is_utf8 text is))
  | inr not ↦
      let none : json text ≡ None = rw not refl in
      ap (λ o. option_map pairs_of (option_and_then document (option_and_then (wrap most_levels) o))) none
]

-- a text that is UTF-8 is reported as such, whatever its fault
pub valid_text : {A : Type 0} (text : List ℕ) (r : Result A JsonFault) → IsUtf8 text → IfErr r (ReportsBadUtf8 text)
valid_text text (Ok x) utf8 = tt
valid_text text (Err f) utf8 = record { kind = λ bad. absurd (bad utf8); at = λ bad. absurd (bad utf8) }

-- ---- the steps that functions name

pub ruleset value_steps = (value_is, array_read, array_refused, object_read, too_deep, too_deep_object, read_string, read_number, read_boolean, read_null, text_is, bool_is, null_is, tree_of-Array)

pub ruleset items_steps = (items_refused, items_end, items_before-none)

pub ruleset object_steps = (members_no_key, first_name, object_is_plain, tree_of-Doc)

pub ruleset fields_steps = (field_goes_on, members_no_key, fields_before-none)

pub ruleset document_steps = (tree_of-Doc, pairs_of-fields_of)
