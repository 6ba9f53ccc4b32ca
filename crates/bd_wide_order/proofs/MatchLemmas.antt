-- A renumbered filter matches a renumbered value if it matched the value.
use Rattle.std.proofs.Common.{◌≡◌, ℕ, List, [], ◌∷◌, ◌++◌, map, length, refl, sym, ap, ap₂, ◌∙◌, Bool, cond, not, Some, None, ◌||◌, ◌&&◌}
use Rattle.std.specs.Prelude.{ℤ, IsTrue, option_map, is_some, ◌==◌}
use Rattle.std.proofs.lemmas.{List.length-map}
use Rattle.std.specs.List.{AllByRecursion as Each, list_any, list_all}
use Rattle.std.specs.Ordering.{is_eq}
use Rattle.bd_value.specs.{Order.equal, Tree.elements_in}
use Rattle.bd_value.specs.Tree.{Tree, leaf, int32, int64, doc, array, code_scope, Items, no_items, item, Fields, no_fields, field}
use Rattle.bd_value.specs.declared.node.Kind.{Kind}
use Rattle.bd_path.specs.Reach.{End, Names, is_document, reach}
use Rattle.bd_query_filter.specs.Filter.{Filter, all_of, some_of, none_of, at_path, Filters, no_filters, filter, Operator}
use Rattle.bd_query_filter.specs.Filter.{equals, differs, compares, is_in, is_not_in, has_all, has_type, has_size, exists, negates, has_element}
use Rattle.bd_query_filter.specs.Filter.{has_document, Operators, no_operators, operator}
use Rattle.bd_query_filter.specs.FilterMatch.{is_array, value_or_null, candidates, any_candidate, is_value, relates, is_related, is_of_type, is_of_size, is_nonempty, any_equal}
use Rattle.bd_query_filter.specs.FilterMatch.{matches, all_match, some_match, holds, all_hold, accepts, all_accept}
use Rattle.bd_query_filter.specs.declared.operand.Relation.{Relation}
use Rattle.bd_wide_order.specs.Renumber.{Codes, under, scope_name, KeepOrder, IsOf, ItemsAreOf, FieldsAreOf, renumber}
use Rattle.bd_wide_order.specs.Renumber.{renumber_filter, renumber_filters, renumber_operator, renumber_operators}
use Rattle.bd_wide_order.specs.Renumber.{whole, FilterNeeds, FiltersNeed, OperatorNeeds, OperatorsNeed}
use Rattle.bd_wide_order.proofs.OrderLemmas.{order_stays, classes_stay, equals_stay}
use Rattle.bd_wide_order.proofs.ReachLemmas.{EndIsOf, any_map, document_stays, ends_are_of, list_is_of, list_stays, reach_stays}

all_map : {A B : Type 0} (f : B → Bool) (e : A → Bool) (h : A → B) (Q : A → Type 0) → ((x : A) → Q x → f (h x) ≡ e x) → (xs : List A) → Each Q xs
    → list_all f (map h xs) ≡ list_all e xs
all_map f e h Q same [] p = refl
all_map f e h Q same (x ∷ xs) p = ap₂ ◌&&◌ (same x p.0) (all_map f e h Q same xs p.1)

-- a value of a query may have any numbers
abbrev Anything : Tree → Type 0
Anything t = Unit {0}

each_anything : (vs : List Tree) → Each Anything vs
each_anything [] = tt
each_anything (v ∷ vs) = (tt, each_anything vs)

type_stays : (c : Codes) (ks : List Kind) → IsTrue (c []).narrow → (t : Tree) → is_of_type ks (renumber c t) ≡ is_of_type ks t
type_stays c ks stays (doc fs) = refl
type_stays c ks stays (array ts) = refl
type_stays c ks stays (code_scope s fs) = refl
type_stays c ks stays (leaf (int32 n)) = ap (λ narrow. is_of_type ks (leaf (whole narrow ((c []).becomes n)))) stays
type_stays c ks stays (leaf _) = refl

nonempty_stays : (c : Codes) (vs : List Tree) → is_nonempty (map (renumber c) vs) ≡ is_nonempty vs
nonempty_stays c [] = refl
nonempty_stays c (v ∷ vs) = refl

module _ (c : Codes) where
  abbrev r : Tree → Tree
  r = renumber c

  abbrev re : End → End
  re = option_map (renumber c)

  -- ---- values

  elements_stay : (t : Tree) → elements_in (r t) ≡ map r (elements_in t)
  elements_stay (leaf s) = refl
  elements_stay (doc fs) = refl
  elements_stay (array ts) = list_stays c ts
  elements_stay (code_scope s fs) = refl

  array_stays : (t : Tree) → is_array (r t) ≡ is_array t
  array_stays (leaf s) = refl
  array_stays (doc fs) = refl
  array_stays (array ts) = refl
  array_stays (code_scope s fs) = refl

  size_stays : (n : ℕ) (t : Tree) → is_of_size n (r t) ≡ is_of_size n t
  size_stays n t = ap₂ (λ a k. a && (k == n)) (array_stays t) (ap length (elements_stay t) ∙ length-map (elements_in t) r)

  -- ---- ends

  null_stays : (e : End) → value_or_null (re e) ≡ r (value_or_null e)
  null_stays None = refl
  null_stays (Some t) = refl

  some_map : (ts : List Tree) → map Some (map r ts) ≡ map re (map Some ts)
  some_map [] = refl
  some_map (t ∷ ts) = ap (λ es. Some (r t) ∷ es) (some_map ts)

  candidates_stay : (e : End) → candidates (re e) ≡ map re (candidates e)
  candidates_stay None = refl
  candidates_stay (Some t) = ap (λ es. Some (r t) ∷ es) (ap (map Some) (elements_stay t) ∙ some_map (elements_in t))

  some_stays : (e : End) → is_some (re e) ≡ is_some e
  some_stays None = refl
  some_stays (Some t) = refl

  elements_are_of : (t : Tree) → IsOf c t → Each (IsOf c) (elements_in t)
  elements_are_of (leaf s) a = tt
  elements_are_of (doc fs) a = tt
  elements_are_of (array ts) a = list_is_of c ts a
  elements_are_of (code_scope s fs) a = tt

  somes_are_of : (ts : List Tree) → Each (IsOf c) ts → Each (EndIsOf c) (map Some ts)
  somes_are_of [] a = tt
  somes_are_of (t ∷ ts) a = (a.0, somes_are_of ts a.1)

  candidates_are_of : (e : End) → EndIsOf c e → Each (EndIsOf c) (candidates e)
  candidates_are_of None a = (tt, tt)
  candidates_are_of (Some t) a = (a, somes_are_of (elements_in t) (elements_are_of t a))

  null_is_of : (e : End) → EndIsOf c e → IsOf c (value_or_null e)
  null_is_of None a = tt
  null_is_of (Some t) a = a

  any_candidate_stays : (f e : End → Bool) → ((x : End) → EndIsOf c x → f (re x) ≡ e x) → (es : List End) → Each (EndIsOf c) es → any_candidate f (map re es) ≡ any_candidate e es
  any_candidate_stays f e same es a =
      any_map (λ x. list_any f (candidates x)) (λ x. list_any e (candidates x)) re (EndIsOf c)
      (λ x b. ap (list_any f) (candidates_stay x) ∙ any_map f e re (EndIsOf c) same (candidates x) (candidates_are_of x b)) es a

  value_stays : (f e : Tree → Bool) → ((t : Tree) → IsOf c t → f (r t) ≡ e t) → (x : End) → EndIsOf c x → is_value f (re x) ≡ is_value e x
  value_stays f e same None a = refl
  value_stays f e same (Some t) a = same t a

  any_value_stays : (f e : Tree → Bool) → ((t : Tree) → IsOf c t → f (r t) ≡ e t) → (es : List End) → Each (EndIsOf c) es → list_any (is_value f) (map re es) ≡ list_any (is_value e) es
  any_value_stays f e same es a = any_map (is_value f) (is_value e) re (EndIsOf c) (value_stays f e same) es a

  -- a test on the elements
  any_element_stays : (f e : Tree → Bool) → ((t : Tree) → IsOf c t → f (r t) ≡ e t) → (t : Tree) → IsOf c t → list_any f (elements_in (r t)) ≡ list_any e (elements_in t)
  any_element_stays f e same t a = ap (list_any f) (elements_stay t) ∙ any_map f e r (IsOf c) same (elements_in t) (elements_are_of t a)

  module _ (up : KeepOrder c) where
    related_stays : (o : Relation) (v t : Tree) → IsOf c t → is_related o (r v) (r t) ≡ is_related o v t
    related_stays o v t b = ap₂ (λ x y. is_eq x && relates o y) (classes_stay c c t v) (order_stays c up t v b)

    equal_stays : (es : List End) → Each (EndIsOf c) es → (v : Tree) → any_equal (map re es) (r v) ≡ any_equal es v
    equal_stays es b v =
        any_candidate_stays (λ e. equal (value_or_null e) (r v)) (λ e. equal (value_or_null e) v)
        (λ e d. ap (λ t. equal t (r v)) (null_stays e) ∙ equals_stay c up (value_or_null e) v (null_is_of e d)) es b

mutual
  -- a renumbered document matches the renumbered filter exactly if the document matches the filter
  pub match_stays : (c : Codes) → KeepOrder c → (f : Filter) → FilterNeeds c f → (d : Tree) → IsOf c d → matches (renumber_filter c f) (renumber c d) ≡ matches f d
  match_stays c up (all_of fs) a d b = all_stay c up fs a d b
  match_stays c up (some_of fs) a d b = some_stay c up fs a d b
  match_stays c up (none_of fs) a d b = ap not (some_stay c up fs a d b)
  match_stays c up (at_path path os) a d b =
      ap (all_hold (renumber_operators (λ names. c (path ++ names)) os)) (reach_stays c path a.0 d)
      ∙ hold_stay (λ names. c (path ++ names)) (λ names. up (path ++ names)) os a.1 (reach d path) (ends_are_of c d path a.0 b)

  all_stay : (c : Codes) → KeepOrder c → (fs : Filters) → FiltersNeed c fs → (d : Tree) → IsOf c d → all_match (renumber_filters c fs) (renumber c d) ≡ all_match fs d
  all_stay c up no_filters a d b = refl
  all_stay c up (filter f fs) a d b = ap₂ ◌&&◌ (match_stays c up f a.0 d b) (all_stay c up fs a.1 d b)

  some_stay : (c : Codes) → KeepOrder c → (fs : Filters) → FiltersNeed c fs → (d : Tree) → IsOf c d → some_match (renumber_filters c fs) (renumber c d) ≡ some_match fs d
  some_stay c up no_filters a d b = refl
  some_stay c up (filter f fs) a d b = ap₂ ◌||◌ (match_stays c up f a.0 d b) (some_stay c up fs a.1 d b)

  holds_stays : (c : Codes) → KeepOrder c → (o : Operator) → OperatorNeeds c o → (es : List End) → Each (EndIsOf c) es
      → holds (renumber_operator c o) (map (option_map (renumber c)) es) ≡ holds o es
  holds_stays c up (equals v) a es b = equal_stays c up es b v
  holds_stays c up (differs v) a es b = ap not (equal_stays c up es b v)
  holds_stays c up (compares o v) a es b =
      any_candidate_stays c (λ e. is_related o (renumber c v) (value_or_null e)) (λ e. is_related o v (value_or_null e))
      (λ e d. ap (is_related o (renumber c v)) (null_stays c e) ∙ related_stays c up o v (value_or_null e) (null_is_of c e d)) es b
  holds_stays c up (is_in vs) a es b = any_map (any_equal (map (re c) es)) (any_equal es) (renumber c) Anything (λ v d. equal_stays c up es b v) vs (each_anything vs)
  holds_stays c up (is_not_in vs) a es b =
      ap not (any_map (any_equal (map (re c) es)) (any_equal es) (renumber c) Anything (λ v d. equal_stays c up es b v) vs (each_anything vs))
  holds_stays c up (has_all vs) a es b =
      ap₂ ◌&&◌ (nonempty_stays c vs) (all_map (any_equal (map (re c) es)) (any_equal es) (renumber c) Anything (λ v d. equal_stays c up es b v) vs (each_anything vs))
  holds_stays c up (has_type ks) a es b =
      any_candidate_stays c (is_value (is_of_type ks)) (is_value (is_of_type ks)) (value_stays c (is_of_type ks) (is_of_type ks) (λ t d. type_stays c ks a t)) es b
  holds_stays c up (has_size n) a es b = any_value_stays c (is_of_size n) (is_of_size n) (λ t d. size_stays c n t) es b
  holds_stays c up (exists y) a es b = ap (λ s. cond y s (not s)) (any_map is_some is_some (re c) (EndIsOf c) (λ e d. some_stays c e) es b)
  holds_stays c up (negates os) a es b = ap not (hold_stay c up os a es b)
  holds_stays c up (has_element os) a es b =
      any_value_stays c (λ t. list_any (all_accept (renumber_operators c os)) (elements_in t)) (λ t. list_any (all_accept os) (elements_in t))
      (any_element_stays c (all_accept (renumber_operators c os)) (all_accept os) (accept_stay c up os a)) es b
  holds_stays c up (has_document fs) a es b =
      any_value_stays c (λ t. list_any (λ x. is_document x && all_match (renumber_filters c fs) x) (elements_in t)) (λ t. list_any (λ x. is_document x && all_match fs x) (elements_in t))
      (any_element_stays c (λ x. is_document x && all_match (renumber_filters c fs) x) (λ x. is_document x && all_match fs x) (λ x d. ap₂ ◌&&◌ (document_stays c x) (all_stay c up fs a x d))) es b

  hold_stay : (c : Codes) → KeepOrder c → (os : Operators) → OperatorsNeed c os → (es : List End) → Each (EndIsOf c) es
      → all_hold (renumber_operators c os) (map (option_map (renumber c)) es) ≡ all_hold os es
  hold_stay c up no_operators a es b = refl
  hold_stay c up (operator o os) a es b = ap₂ ◌&&◌ (holds_stays c up o a.0 es b) (hold_stay c up os a.1 es b)

  accepts_stays : (c : Codes) → KeepOrder c → (o : Operator) → OperatorNeeds c o → (t : Tree) → IsOf c t → accepts (renumber_operator c o) (renumber c t) ≡ accepts o t
  accepts_stays c up (equals v) a t b = equals_stay c up t v b
  accepts_stays c up (differs v) a t b = ap not (equals_stay c up t v b)
  accepts_stays c up (compares o v) a t b = related_stays c up o v t b
  accepts_stays c up (is_in vs) a t b = any_map (equal (renumber c t)) (equal t) (renumber c) Anything (λ v d. equals_stay c up t v b) vs (each_anything vs)
  accepts_stays c up (is_not_in vs) a t b =
      ap not (any_map (equal (renumber c t)) (equal t) (renumber c) Anything (λ v d. equals_stay c up t v b) vs (each_anything vs))
  accepts_stays c up (has_all vs) a t b =
      ap₂ ◌&&◌ (nonempty_stays c vs) (all_map (equal (renumber c t)) (equal t) (renumber c) Anything (λ v d. equals_stay c up t v b) vs (each_anything vs))
  accepts_stays c up (has_type ks) a t b = type_stays c ks a t
  accepts_stays c up (has_size n) a t b = size_stays c n t
  accepts_stays c up (exists y) a t b = refl
  accepts_stays c up (negates os) a t b = ap not (accept_stay c up os a t b)
  accepts_stays c up (has_element os) a t b = any_element_stays c (all_accept (renumber_operators c os)) (all_accept os) (accept_stay c up os a) t b
  accepts_stays c up (has_document fs) a t b =
      any_element_stays c (λ x. is_document x && all_match (renumber_filters c fs) x) (λ x. is_document x && all_match fs x) (λ x d. ap₂ ◌&&◌ (document_stays c x) (all_stay c up fs a x d)) t b

  accept_stay : (c : Codes) → KeepOrder c → (os : Operators) → OperatorsNeed c os → (t : Tree) → IsOf c t → all_accept (renumber_operators c os) (renumber c t) ≡ all_accept os t
  accept_stay c up no_operators a t b = refl
  accept_stay c up (operator o os) a t b = ap₂ ◌&&◌ (accepts_stays c up o a.0 t b) (accept_stay c up os a.1 t b)

-- ---- codes of which every number may occur

abbrev pub HaveAll : Codes → Type 0
HaveAll c = (path : Names) (n : ℤ) → IsTrue ((c path).occurs n)

mutual
  -- where every number may occur, the numbers of any value may
  pub is_of_all : (c : Codes) → HaveAll c → (t : Tree) → IsOf c t
  is_of_all c all (leaf (int32 n)) = all [] n
  is_of_all c all (leaf (int64 n)) = all [] n
  is_of_all c all (leaf _) = tt
  is_of_all c all (doc fs) = fields_are_of_all c all fs
  is_of_all c all (array ts) = items_are_of_all c all ts
  is_of_all c all (code_scope s fs) = fields_are_of_all (under scope_name c) (λ path. all (scope_name ∷ path)) fs

  items_are_of_all : (c : Codes) → HaveAll c → (ts : Items) → ItemsAreOf c ts
  items_are_of_all c all no_items = tt
  items_are_of_all c all (item t ts) = (is_of_all c all t, items_are_of_all c all ts)

  fields_are_of_all : (c : Codes) → HaveAll c → (fs : Fields) → FieldsAreOf c fs
  fields_are_of_all c all no_fields = tt
  fields_are_of_all c all (field n t fs) = (is_of_all (under n c) (λ path. all (n ∷ path)) t, fields_are_of_all c all fs)
