-- Objects that begin with a wrapper's name, a name at a time.
use Rattle.std.proofs.Common.{◌≡◌, ◌≢◌, ℕ, zero, suc, ◌-◌, ◌<◌, ◌≤◌, true, false, List, length, Option, Some, None, option_map, option_and_then, refl, sym, ap, ◌∙◌}
use Rattle.json.specs.Token.{Token}
use Rattle.json.specs.Json as json
use Rattle.json.specs.Json.{Json, Parse, parse_map, read_key, members, value}
use Rattle.json.specs.Find.{as_str}
use Rattle.json.proofs.Grammar.{members_end, members_no_key}
use Rattle.bd_value.specs.Tree.{Tree, doc, code_scope, Fields, Doc, pairs_of, fields_of, fields_of-pairs_of}
use Rattle.bd_extjson.specs.Read.{nested, with_scope, two, wrap, wrap_object, wrapped, document}
use Rattle.bd_extjson_wrapper.specs.Wrapper.{wrapper_of, through, after_key, is_code_name, is_scope_name}
use Rattle.bd_value.proofs.ViewLemmas.{tree_of-CodeScope}
use Rattle.bd_extjson_wrapper.specs.declared.wrapper.Wrapper.{Wrapper}
use Rattle.bd_extjson_wrapper.specs.declared.wrapper.Wrapper.TheVariants as kinds
use Rattle.bd_extjson.proofs.ReadLemmas.{nested_is, next_name, never, refused_member, through_made, through_same}

-- ---- members, for any function of them

-- If the value after a name is not read, the members are not.
pub unreadable : {A : Type 0} (f : json.Members → Option A) (k : List ℕ) (depth n : ℕ) (ts : List Token) → value depth ts ≡ None → through f (after_key depth n (Some k) ts) ≡ None
unreadable f k depth n ts e = ap (λ v. through f (option_and_then (λ p. parse_map (json.member k p.0) (members (value depth) n p.1)) v)) e

-- a member whose value is read, and those after it
pub member_is : {A : Type 0} (f : json.Members → Option A) (k : List ℕ) (depth n : ℕ) (ts s : List Token) (j : Json) → value depth ts ≡ Some (j, s)
    → through f (after_key depth n (Some k) ts) ≡ through (λ ms. f (json.member k j ms)) (members (value depth) n s)
member_is f k depth n ts s j e =
    ap (λ v. through f (option_and_then (λ p. parse_map (json.member k p.0) (members (value depth) n p.1)) v)) e ∙ through_made f (json.member k j) (members (value depth) n s)

-- without a name or an end, nothing is read of members
pub no_name : {A : Type 0} (f : json.Members → Option A) (depth n : ℕ) (ts : List Token) → read_key ts ≡ None → through f (members (value depth) n ts) ≡ None
no_name f depth n ts e = ap (through f) (members_no_key (value depth) n ts e)

-- at the end of an object no members remain
pub ended : {A : Type 0} (f : json.Members → Option A) (depth n : ℕ) (ts r : List Token) → length ts ≤ n → read_key ts ≡ Some (None, r)
    → through f (members (value depth) n ts) ≡ option_map (λ (a : A). (a, r)) (f json.no_members)
ended f depth n ts r le e = ap (through f) (members_end (value depth) n ts r le e)

-- at a name the members are those from it on
pub named : {A : Type 0} (f : json.Members → Option A) (k : List ℕ) (depth n : ℕ) (ts r : List Token) → length ts ≤ n → read_key ts ≡ Some (Some k, r)
    → through f (members (value depth) n ts) ≡ through f (after_key depth (n - 1) (Some k) r)
named f k depth n ts r le e = ap (through f) (next_name depth n ts r (Some k) le e)

-- ---- the end of an object

-- where an object does not end, nothing is read that needs its end
pub not_ended : {A : Type 0} (f : json.Members → Option A) (depth n : ℕ) (ts : List Token) → length ts ≤ n → ((r : List Token) → read_key ts ≢ Some (None, r))
    → ((k : List ℕ) (j : Json) (ms : json.Members) → f (json.member k j ms) ≡ None) → through f (members (value depth) n ts) ≡ None
not_ended f depth n ts le not h = key (read_key ts) refl
  where
    key : (o : Option (Option (List ℕ) × List Token)) → read_key ts ≡ o → through f (members (value depth) n ts) ≡ None
    key None is = no_name f depth n ts is
    key (Some (None, r)) is = absurd (not r is)
    key (Some (Some k, r)) is = named f k depth n ts r le is ∙ refused_member f k depth (n - 1) r (h k)

-- ---- the value that was read, and its tokens

abbrev with_rest : {A : Type 0} → List Token → Option A → Option (A × List Token)
with_rest r o = option_map (λ a. (a, r)) o

abbrev pub WasRead : {A : Type 0} → (Json → Option A) → Option (Json × List Token) → A → List Token → Type 0
WasRead g v a r = (j : Json) × (v ≡ Some (j, r)) × (g j ≡ Some a)

pub was_read : {A : Type 0} (g : Json → Option A) (v : Option (Json × List Token)) (a : A) (r : List Token) → through g v ≡ Some (a, r) → WasRead g v a r
was_read g None a r e = absurd cc
was_read {A = A} g (Some p) a r e = go (g p.0) refl e
  where
    go : (o : Option A) → g p.0 ≡ o → with_rest p.1 o ≡ with_rest r (Some a) → WasRead g (Some p) a r
    go None is e = absurd cc
    go (Some b) is e =
        let same : Some p.1 ≡ Some r = ap (option_map (λ q. q.1)) e in
        (p.0, ap (option_map (λ (x : List Token). (p.0, x))) same, is ∙ ap (option_map (λ q. q.0)) e)

not_read : {A : Type 0} (r : List Token) (o : Option A) → with_rest r o ≡ None → o ≡ None
not_read r None e = refl
not_read r (Some a) e = absurd cc

-- if g gives None for the value that follows a name, and f needs it, f gives None
pub unread : {A B : Type 0} (f : json.Members → Option A) (g : Json → Option B) (k : List ℕ) (depth n : ℕ) (ts : List Token) → through g (value depth ts) ≡ None
    → ((i : Json) (ms : json.Members) → g i ≡ None → f (json.member k i ms) ≡ None) → through f (after_key depth n (Some k) ts) ≡ None
unread f g k depth n ts e h = turn (value depth ts) e
  where
    turn : (v : Option (Json × List Token)) → through g v ≡ None
        → through f (option_and_then (λ p. parse_map (json.member k p.0) (members (value depth) n p.1)) v) ≡ None
    turn None e = refl
    turn (Some p) e =
        let r = members (value depth) n p.1 in
        through_made f (json.member k p.0) r ∙ never (λ ms. f (json.member k p.0 ms)) (λ ms. h p.0 ms (not_read p.1 (g p.0) e)) r

-- ---- wrappers of one name

-- An object whose first name is a wrapper's is read as that wrapper of the value after the name.
pub first_part : (w : Wrapper) (k : List ℕ) (depth_left depth n : ℕ) (ts s : List Token) (j : Json) → wrapper_of k ≡ Some w → value depth ts ≡ Some (j, s)
    → through (wrap_object depth_left) (after_key depth n (Some k) ts) ≡ through (wrapped depth_left w j (wrap (depth_left - 1) j)) (members (value depth) n s)
first_part w k depth_left depth n ts s j e f =
    member_is (wrap_object depth_left) k depth n ts s j f
    ∙ through_same (λ ms. wrap_object depth_left (json.member k j ms)) (wrapped depth_left w j (wrap (depth_left - 1) j)) (λ ms. rw e refl) (members (value depth) n s)

nested_none : {A : Type 0} (depth_left : ℕ) (o : Option A) → o ≡ None → nested depth_left o ≡ None
nested_none zero o e = refl
nested_none (suc depth_left) o e = e

-- two names are a wrapper only if they are `$code` and `$scope`
no_two : (w : Wrapper) (v : Option Wrapper) (j i : Json) (t u : Option Tree) (ms : json.Members) → is_code_name (Some w) ≡ false → is_scope_name (Some w) ≡ false → two w j t v i u ms ≡ None
no_two kinds.Code v j i t u ms e f = absurd cc
no_two kinds.Scope v j i t u ms e f = absurd cc
no_two _ v j i t u ms e f = refl

-- A wrapper but that of code has one name: with a second one there is no value.
pub one_name_alone : (w : Wrapper) (depth_left : ℕ) (j : Json) (t : Option Tree) (k : List ℕ) (i : Json) (ms : json.Members) → is_code_name (Some w) ≡ false
    → is_scope_name (Some w) ≡ false → wrapped depth_left w j t (json.member k i ms) ≡ None
one_name_alone w depth_left j t k i ms e f = nested_none depth_left _ (no_two w (wrapper_of k) j i t (wrap (depth_left - 1) i) ms e f)

-- ---- `$code`, then `$scope`

code_with : (v : Option Wrapper) (j i : Json) (t u : Option Tree) (ms : json.Members) → is_scope_name v ≡ false → two kinds.Code j t v i u ms ≡ None
code_with (Some kinds.Scope) j i t u ms e = absurd cc
code_with _ j i t u ms e = refl

no_scope : (s : Option (List ℕ)) → with_scope s None ≡ None
no_scope None = refl
no_scope (Some s) = refl

is_scope_is : (v : Option Wrapper) → is_scope_name v ≡ true → v ≡ Some kinds.Scope
is_scope_is (Some kinds.Scope) e = refl
is_scope_is _ e = absurd cc

pub no_depth_left_second : (w : Wrapper) (k : List ℕ) (depth_left depth n : ℕ) (ts : List Token) (j : Json) (t : Option Tree) → depth_left ≡ 0 → through (wrapped depth_left w j t) (after_key depth n (Some k) ts) ≡ None
no_depth_left_second w k depth_left depth n ts j t e = ap (λ r. through (wrapped r w j t) (after_key depth n (Some k) ts)) e ∙ refused_member (wrapped 0 w j t) k depth n ts (λ i ms. refl)

pub code_without_scope : (k : List ℕ) (depth_left depth n : ℕ) (ts : List Token) (j : Json) (t : Option Tree) → is_scope_name (wrapper_of k) ≡ false
    → through (wrapped depth_left kinds.Code j t) (after_key depth n (Some k) ts) ≡ None
code_without_scope k depth_left depth n ts j t e = refused_member (wrapped depth_left kinds.Code j t) k depth n ts (λ i ms. nested_none depth_left _ (code_with (wrapper_of k) j i t (wrap (depth_left - 1) i) ms e))

code_after : (k : List ℕ) (depth_left : ℕ) (j i : Json) (t u : Option Tree) (ms : json.Members) → is_scope_name (wrapper_of k) ≡ true → wrap (depth_left - 1) i ≡ u
    → wrapped depth_left kinds.Code j t (json.member k i ms) ≡ nested depth_left (two kinds.Code j t (Some kinds.Scope) i u ms)
code_after k depth_left j i t u ms e f = rw (is_scope_is (wrapper_of k) e, f) refl

scope_fails : (depth_left : ℕ) (j i : Json) (t : Option Tree) (ms : json.Members) → nested depth_left (two kinds.Code j t (Some kinds.Scope) i None ms) ≡ None
scope_fails depth_left j i t json.no_members = nested_none depth_left _ (no_scope (as_str j))
scope_fails depth_left j i t (json.member l h ms) = nested_none depth_left _ refl

pub scope_unread : (k : List ℕ) (depth_left depth n : ℕ) (ts : List Token) (j : Json) (t : Option Tree) → is_scope_name (wrapper_of k) ≡ true → through (wrap (depth_left - 1)) (value depth ts) ≡ None
    → through (wrapped depth_left kinds.Code j t) (after_key depth n (Some k) ts) ≡ None
scope_unread k depth_left depth n ts j t e f =
    unread (wrapped depth_left kinds.Code j t) (wrap (depth_left - 1)) k depth n ts f (λ i ms none. code_after k depth_left j i t None ms e none ∙ scope_fails depth_left j i t ms)

-- the members after a scope
pub scope_read : (k : List ℕ) (depth_left depth n : ℕ) (ts r : List Token) (j : Json) (t : Option Tree) (u : Tree) → is_scope_name (wrapper_of k) ≡ true
    → through (wrap (depth_left - 1)) (value depth ts) ≡ Some (u, r)
    → (i : Json) × (through (wrapped depth_left kinds.Code j t) (after_key depth n (Some k) ts)
    ≡ through (λ ms. nested depth_left (two kinds.Code j t (Some kinds.Scope) i (Some u) ms)) (members (value depth) n r))
scope_read k depth_left depth n ts r j t u e f =
    let p = was_read (wrap (depth_left - 1)) (value depth ts) u r f in (
      p.0,
      member_is (wrapped depth_left kinds.Code j t) k depth n ts r p.0 p.1
          ∙ through_same (λ ms. wrapped depth_left kinds.Code j t (json.member k p.0 ms)) _ (λ ms. code_after k depth_left j p.0 t (Some u) ms e p.2) (members (value depth) n r),
    )

pub scope_unended : (k : List ℕ) (depth_left depth n : ℕ) (ts r : List Token) (j : Json) (t : Option Tree) (u : Tree) → is_scope_name (wrapper_of k) ≡ true
    → through (wrap (depth_left - 1)) (value depth ts) ≡ Some (u, r)
    → length r ≤ n → ((q : List Token) → read_key r ≢ Some (None, q)) → through (wrapped depth_left kinds.Code j t) (after_key depth n (Some k) ts) ≡ None
scope_unended k depth_left depth n ts r j t u e f le g =
    let p = scope_read k depth_left depth n ts r j t u e f in
    p.1 ∙ not_ended _ depth n r le g (λ l h ms. nested_none depth_left _ refl)

pub scope_ended : (k : List ℕ) (depth_left depth n : ℕ) (ts r s : List Token) (j : Json) (t : Option Tree) (u : Tree) → is_scope_name (wrapper_of k) ≡ true
    → through (wrap (depth_left - 1)) (value depth ts) ≡ Some (u, r)
    → length r ≤ n → read_key r ≡ Some (None, s) → 0 < depth_left → through (wrapped depth_left kinds.Code j t) (after_key depth n (Some k) ts) ≡ option_map (λ (a : Tree). (a, s)) (with_scope (as_str j) (Some u))
scope_ended k depth_left depth n ts r s j t u e f le g h =
    let p = scope_read k depth_left depth n ts r j t u e f in
    p.1 ∙ ended _ depth n r s le g ∙ ap (option_map (λ (a : Tree). (a, s))) (nested_is depth_left (with_scope (as_str j) (Some u)) h)

-- ---- `$scope`, then `$code`

scope_first_fails : (depth_left : ℕ) (j : Json) (ms : json.Members) → wrapped depth_left kinds.Scope j None ms ≡ None
scope_first_fails depth_left j json.no_members = refl
scope_first_fails depth_left j (json.member k i ms) = nested_none depth_left _ (go (wrapper_of k) ms)
  where
    go : (v : Option Wrapper) (ms : json.Members) → two kinds.Scope j None v i (wrap (depth_left - 1) i) ms ≡ None
    go (Some kinds.Code) json.no_members = no_scope (as_str i)
    go _ _ = refl

no_depth_left : (j : Json) (t : Option Tree) (ms : json.Members) → wrapped 0 kinds.Scope j t ms ≡ None
no_depth_left j t json.no_members = refl
no_depth_left j t (json.member k i ms) = refl

pub no_depth_left_first : (k : List ℕ) (depth_left depth n : ℕ) (ts : List Token) → wrapper_of k ≡ Some kinds.Scope → depth_left ≡ 0 → through (wrap_object depth_left) (after_key depth n (Some k) ts) ≡ None
no_depth_left_first k depth_left depth n ts e z = refused_member (wrap_object depth_left) k depth n ts (λ i ms. rw (e, z) (no_depth_left i (wrap (0 - 1) i) ms))

pub first_unread : (k : List ℕ) (depth_left depth n : ℕ) (ts : List Token) → wrapper_of k ≡ Some kinds.Scope → through (wrap (depth_left - 1)) (value depth ts) ≡ None
    → through (wrap_object depth_left) (after_key depth n (Some k) ts) ≡ None
first_unread k depth_left depth n ts e f =
    unread (wrap_object depth_left) (wrap (depth_left - 1)) k depth n ts f (λ i ms none. rw (e, none) (scope_first_fails depth_left i ms))

pub first_read : (k : List ℕ) (depth_left depth n : ℕ) (ts r : List Token) (u : Tree) → wrapper_of k ≡ Some kinds.Scope → through (wrap (depth_left - 1)) (value depth ts) ≡ Some (u, r)
    → (j : Json) × (through (wrap_object depth_left) (after_key depth n (Some k) ts) ≡ through (wrapped depth_left kinds.Scope j (Some u)) (members (value depth) n r))
first_read k depth_left depth n ts r u e f =
    let p = was_read (wrap (depth_left - 1)) (value depth ts) u r f in
    (p.0, first_part kinds.Scope k depth_left depth n ts r p.0 e p.1 ∙ ap (λ t. through (wrapped depth_left kinds.Scope p.0 t) (members (value depth) n r)) p.2)

scope_with : (v : Option Wrapper) (j i : Json) (t u : Option Tree) (ms : json.Members) → is_code_name v ≡ false → two kinds.Scope j t v i u ms ≡ None
scope_with (Some kinds.Code) j i t u ms e = absurd cc
scope_with _ j i t u ms e = refl

pub scope_without_code : (k : List ℕ) (depth_left depth n : ℕ) (ts r : List Token) (j : Json) (t : Option Tree) → length ts ≤ n → read_key ts ≡ Some (Some k, r) → is_code_name (wrapper_of k) ≡ false
    → through (wrapped depth_left kinds.Scope j t) (members (value depth) n ts) ≡ None
scope_without_code k depth_left depth n ts r j t le e f = named (wrapped depth_left kinds.Scope j t) k depth n ts r le e
    ∙ refused_member (wrapped depth_left kinds.Scope j t) k depth (n - 1) r (λ i ms. nested_none depth_left _ (scope_with (wrapper_of k) j i t (wrap (depth_left - 1) i) ms f))

pub code_unread : (k : List ℕ) (depth_left depth n : ℕ) (ts r : List Token) (j : Json) (t : Option Tree) → length ts ≤ n → read_key ts ≡ Some (Some k, r) → value depth r ≡ None
    → through (wrapped depth_left kinds.Scope j t) (members (value depth) n ts) ≡ None
code_unread k depth_left depth n ts r j t le e f = named (wrapped depth_left kinds.Scope j t) k depth n ts r le e ∙ unreadable (wrapped depth_left kinds.Scope j t) k depth (n - 1) r f

pub code_is : (w : Wrapper) → is_code_name (Some w) ≡ true → w ≡ kinds.Code
code_is kinds.Code e = refl
code_is _ e = absurd cc

is_code_is : (v : Option Wrapper) → is_code_name v ≡ true → v ≡ Some kinds.Code
is_code_is (Some kinds.Code) e = refl
is_code_is _ e = absurd cc

-- a third member is refused
no_third : (v : Option Wrapper) (j i : Json) (t u : Option Tree) (l : List ℕ) (h : Json) (ms : json.Members) → two kinds.Scope j t v i u (json.member l h ms) ≡ None
no_third (Some kinds.Code) j i t u l h ms = refl
no_third _ j i t u l h ms = refl

pub code_unended : (k : List ℕ) (depth_left depth n : ℕ) (ts r s : List Token) (j i : Json) (t : Option Tree) → length ts ≤ n
    → read_key ts ≡ Some (Some k, r) → value depth r ≡ Some (i, s) → length s ≤ n - 1 → ((q : List Token) → read_key s ≢ Some (None, q))
    → through (wrapped depth_left kinds.Scope j t) (members (value depth) n ts) ≡ None
code_unended k depth_left depth n ts r s j i t le e f less g =
    named (wrapped depth_left kinds.Scope j t) k depth n ts r le e
    ∙ member_is (wrapped depth_left kinds.Scope j t) k depth (n - 1) r s i f
    ∙ not_ended _ depth (n - 1) s less g
    (λ l h ms. nested_none depth_left _ (no_third (wrapper_of k) j i t (wrap (depth_left - 1) i) l h ms))

pub code_ended : (k : List ℕ) (depth_left depth n : ℕ) (ts r s q : List Token) (j i : Json) (u : Tree) → length ts ≤ n → read_key ts ≡ Some (Some k, r)
    → is_code_name (wrapper_of k) ≡ true → value depth r ≡ Some (i, s)
    → length s ≤ n - 1 → read_key s ≡ Some (None, q) → 0 < depth_left
    → through (wrapped depth_left kinds.Scope j (Some u)) (members (value depth) n ts) ≡ option_map (λ (a : Tree). (a, q)) (with_scope (as_str i) (Some u))
code_ended k depth_left depth n ts r s q j i u le e is f less g h =
    let last : wrapped depth_left kinds.Scope j (Some u) (json.member k i json.no_members) ≡ nested depth_left (with_scope (as_str i) (Some u)) = rw (is_code_is (wrapper_of k) is) refl in
    named (wrapped depth_left kinds.Scope j (Some u)) k depth n ts r le e ∙ member_is (wrapped depth_left kinds.Scope j (Some u)) k depth (n - 1) r s i f ∙ ended _ depth (n - 1) s q less g
    ∙ ap (option_map (λ (a : Tree). (a, q))) (last ∙ nested_is depth_left (with_scope (as_str i) (Some u)) h)

-- ---- code with scope

pub scoped : (o : Option (List ℕ)) (t : Tree) (s : List ℕ) (d : Doc) → o ≡ Some s → option_map pairs_of (document t) ≡ Some d → with_scope o (Some t) ≡ Some (code_scope s (fields_of d))
scoped (Some a) (doc fs) s d e f =
    let inside : Some fs ≡ Some (fields_of d) = ap Some (sym (fields_of-pairs_of fs)) ∙ ap (option_map fields_of) f in
    ap (option_map (λ (x : Fields). code_scope a x)) inside ∙ ap (option_map (λ (x : List ℕ). code_scope x (fields_of d))) e
scoped _ _ s d e f = absurd cc

pub ruleset scope_steps = (scoped, tree_of-CodeScope)
