-- What a path collects, by the kind of each value.
use Rattle.std.proofs.Common.{◌≡◌, ◌<◌, ◌≤◌, ℕ, zero, suc, List, [], ◌∷◌, ◌++◌, Some, None, length, refl, ap, arith, Bool, true, false, cond, ◌⊎◌, inl, inr, sym, ◌∙◌}
use Rattle.std.specs.{Prelude.slice_get, Prelude.Contains, Prelude.slice_index_or, List.list_any}
use Rattle.bd_value.specs.Tree as trees
use Rattle.bd_value.specs.Tree.{Scalar, Tree, Doc, leaf, doc, array, Items, no_items, item, Fields, no_fields, field, pairs_in, pairs_of, list_of, items_of}
use Rattle.bd_value.specs.Tree.{items_of-list_of, tree_size, items_size, fields_size}
use Rattle.bd_value.specs.{Tree.values_of, Tree.elements_in, Tree.length_of, Tree.AreParts, Tree.first_of, View.kind_of, View.scalar_kind}
use Rattle.bd_value.specs.declared.node.Kind.TheVariants as kinds
use Rattle.bd_path.specs.Reach.{index_of, Names, Collecting, collecting, collecting_at, each_collecting, first_collecting, End, ends, is_document, reach}
use Rattle.std.proofs.lemmas.Bool.{false≢true, or_cases, or_from, or_left, or_parts, or_right}
use Rattle.std.proofs.lemmas.List.Folds.{list_any-append}

-- no scalar is an array
pub scalar_is_no_array : (s : Scalar) → scalar_kind s ≡ kinds.Array → ⊥
scalar_is_no_array trees.min_key k = cc
scalar_is_no_array _ k = cc

-- ---- values inside are smaller

first_in_smaller : (name : List ℕ) (fs : Fields) (u : Tree) → first_of name (pairs_of fs) ≡ Some u → tree_size u < fields_size fs
first_in_smaller name no_fields u e = absurd cc
first_in_smaller name (field n t fs) u e = grind (arith, first_in_smaller name fs u)

-- a value of a document is smaller than the document
pub first_smaller : (name : List ℕ) (t u : Tree) → first_of name (pairs_in t) ≡ Some u → tree_size u < tree_size t
first_smaller name (doc fs) u e = let l = first_in_smaller name fs u e in omega arith
first_smaller name _ u e = absurd cc

element_in_smaller : (ts : Items) (i : ℕ) (u : Tree) → slice_get (list_of ts) i ≡ Some u → tree_size u < items_size ts
element_in_smaller no_items i u e = absurd cc
element_in_smaller (item t ts) zero u e = let same : t ≡ u = cc in let s = ap tree_size same in omega arith
element_in_smaller (item t ts) (suc i) u e = let l = element_in_smaller ts i u e in omega arith

-- an element of an array is smaller than the array
pub element_smaller : (t : Tree) (i : ℕ) (u : Tree) → slice_get (elements_in t) i ≡ Some u → tree_size u < tree_size t
element_smaller (array ts) i u e = let l = element_in_smaller ts i u e in omega arith
element_smaller _ i u e = absurd cc

-- ---- the elements of an array

-- the parts of an array are its elements
pub parts_are : (t : Tree) (ps : Doc) → kind_of t ≡ kinds.Array → AreParts t ps → values_of ps ≡ elements_in t
parts_are (array ts) ps k h = h
parts_are (doc fs) ps k h = absurd cc
parts_are _ ps k h = absurd h

-- the length of an array counts its elements
pub length_elements : (t : Tree) → kind_of t ≡ kinds.Array → length_of t ≡ length (elements_in t)
length_elements (doc fs) k = absurd cc
length_elements _ k = refl

-- ---- what is collected

module _ {A : Type 0} (g : Collecting A) where
  found_in : (fs : Fields) (name : List ℕ) (r : Names) (u : Tree) → first_of name (pairs_of fs) ≡ Some u → first_collecting g fs name r ≡ collecting g u r
  found_in no_fields name r u e = absurd cc
  found_in (field n t fs) name r u e = grind (arith, found_in fs name r u)

  lost_in : (fs : Fields) (name : List ℕ) (r : Names) → first_of name (pairs_of fs) ≡ None → first_collecting g fs name r ≡ g.missing
  lost_in no_fields name r e = refl
  lost_in (field n t fs) name r e = grind (arith, lost_in fs name r)

  pub found : (t u : Tree) (name : List ℕ) (r : Names) → kind_of t ≡ kinds.Doc → first_of name (pairs_in t) ≡ Some u → collecting g t (name ∷ r) ≡ collecting g u r
  found (doc fs) u name r k e = found_in fs name r u e
  found _ u name r k e = absurd cc

  pub lost : (t : Tree) (name : List ℕ) (r : Names) → kind_of t ≡ kinds.Doc → first_of name (pairs_in t) ≡ None → collecting g t (name ∷ r) ≡ g.missing
  lost (doc fs) name r k e = lost_in fs name r e
  lost (array ts) name r k e = absurd cc
  lost _ name r k e = refl

  pub of_other : (t : Tree) (name : List ℕ) (r : Names) → (kind_of t ≡ kinds.Doc → ⊥) → (kind_of t ≡ kinds.Array → ⊥) → collecting g t (name ∷ r) ≡ g.missing
  of_other (doc fs) name r a b = absurd (a refl)
  of_other (array ts) name r a b = absurd (b refl)
  of_other _ name r a b = refl

  -- from the documents in an array, and from the element at the index
  pub of_elements : (t : Tree) (name : List ℕ) (r : Names) → kind_of t ≡ kinds.Array
      → collecting g t (name ∷ r) ≡ g.of_array (each_collecting g (items_of (elements_in t)) (name ∷ r) ++ collecting_at g (items_of (elements_in t)) (index_of name) r)
  of_elements (array ts) name r k = rw (items_of-list_of ts)
  of_elements (leaf s) name r k = absurd (scalar_is_no_array s k)
  of_elements _ name r k = absurd cc

  pub no_index : (es : List Tree) (r : Names) → collecting_at g (items_of es) None r ≡ []
  no_index [] r = refl
  no_index (e ∷ es) r = refl

  pub beyond_index : (es : List Tree) (i : ℕ) (r : Names) → length es ≤ i → collecting_at g (items_of es) (Some i) r ≡ []
  beyond_index [] i r l = refl
  beyond_index (e ∷ es) zero r l = absurd (omega arith)
  beyond_index (e ∷ es) (suc i) r l = beyond_index es i r (omega arith)

  pub at_index : (es : List Tree) (i : ℕ) (u : Tree) (r : Names) → slice_get es i ≡ Some u → collecting_at g (items_of es) (Some i) r ≡ collecting g u r
  at_index [] i u r e = absurd cc
  at_index (x ∷ es) zero u r e = let same : x ≡ u = cc in ap (λ (y : Tree). collecting g y r) same
  at_index (x ∷ es) (suc i) u r e = at_index es i u r e

-- The value is a member of the list.
abbrev pub In : {A : Type 0} → A → List A → Type 0
In x [] = ⊥
In x (y ∷ ys) = (x ≡ y) ⊎ In x ys

-- a member of the first of two lists is one of both joined
pub in_left : {A : Type 0} (x : A) (xs ys : List A) → In x xs → In x (xs ++ ys)
in_left x [] ys h = absurd h
in_left x (z ∷ xs) ys (inl e) = inl e
in_left x (z ∷ xs) ys (inr h) = inr (in_left x xs ys h)

-- a member of the second of two lists is one of both joined
pub in_right : {A : Type 0} (x : A) (xs ys : List A) → In x ys → In x (xs ++ ys)
in_right x [] ys h = h
in_right x (z ∷ xs) ys h = inr (in_right x xs ys h)

pub in_cases : {A : Type 0} (x : A) (xs ys : List A) → In x (xs ++ ys) → In x xs ⊎ In x ys
in_cases x [] ys h = inr h
in_cases x (z ∷ xs) ys (inl e) = inl (inl e)
in_cases x (z ∷ xs) ys (inr h) = elim (in_cases x xs ys h) [ inl a ↦ inl (inr a) | inr b ↦ inr b ]

-- members of two lists that one test chooses
pub in_either : {A B : Type 0} (t : Bool) (x : A) (y : B) (ws vs : List A) (bs cs : List B) → (In x ws → In y bs) → (In x vs → In y cs) → In x (cond t ws vs) → In y (cond t bs cs)
in_either true x y ws vs bs cs f g h = f h
in_either false x y ws vs bs cs f g h = g h

-- if a member passes a test, some member does
pub any_at : {A : Type 0} (test : A → Bool) (xs : List A) (x : A) → In x xs → test x ≡ true → list_any test xs ≡ true
any_at test [] x h e = absurd h
any_at test (y ∷ ys) x (inl p) e = or_left (test y) (list_any test ys) (ap test (sym p) ∙ e)
any_at test (y ∷ ys) x (inr h) e = or_right (test y) (list_any test ys) (any_at test ys x h e)

-- if each member that fails one test fails another, and all fail the first, all fail the second
pub any_still : {A : Type 0} (f g : A → Bool) → ((x : A) → f x ≡ false → g x ≡ false) → (xs : List A) → list_any f xs ≡ false → list_any g xs ≡ false
any_still f g h [] none = refl
any_still f g h (x ∷ xs) none = let both = or_parts (f x) (list_any f xs) none in or_from (g x) (list_any g xs) (h x both.0) (any_still f g h xs both.1)

-- some member passes
pub record Found {A : Type 0} (test : A → Bool) (xs : List A) : Type 0 where
  pub it : A
  pub is_in : In it xs
  pub passes : test it ≡ true

-- if some member passes a test, there is such a member
pub found_from : {A : Type 0} (test : A → Bool) (xs : List A) → list_any test xs ≡ true → Found test xs
found_from test [] h = absurd (false≢true h)
found_from test (x ∷ xs) h = elim (or_cases (test x) (list_any test xs) h) [
  | inl e ↦ record { it = x; is_in = inl refl; passes = e }
  | inr e ↦ let r = found_from test xs e in record { it = r.it; is_in = inr r.is_in; passes = r.passes }
]

-- membership by index
pub contains_from : {A : Type 0} (x : A) (xs : List A) → In x xs → Contains xs x
contains_from x [] h = absurd h
contains_from x (y ∷ ys) (inl e) = (0, omega arith, sym e)
contains_from x (y ∷ ys) (inr h) = let r = contains_from x ys h in (suc r.0, omega (arith, r.1), r.2)

-- a list that contains a value has it as a member
pub in_from : {A : Type 0} (x : A) (xs : List A) → Contains xs x → In x xs
in_from {A} x xs h = go xs h.0 h.1 h.2
  where
    go : (ys : List A) (k : ℕ) → k < length ys → slice_index_or ys k x ≡ x → In x ys
    go [] k l e = absurd (omega arith)
    go (y ∷ ys) zero l e = inl (sym e)
    go (y ∷ ys) (suc k) l e = inr (go ys k (omega arith) e)

pub one : (f : End → Bool) (e : End) (b : Bool) (es : List End) → b ≡ f e → es ≡ e ∷ [] → b ≡ list_any f es
one f e b es h k = grind arith

-- of two parts, either the first has a member that passes, or it has none
pub in_first : (f : End → Bool) (b : Bool) (es fs all : List End) → b ≡ list_any f es → b ≡ true → all ≡ es ++ fs → b ≡ list_any f all
in_first f b es fs all is passed joined = grind (arith, list_any-append f es fs)

pub in_second : (f : End → Bool) (a b : Bool) (es fs all : List End) → a ≡ list_any f es → a ≡ false → b ≡ list_any f fs → all ≡ es ++ fs → b ≡ list_any f all
in_second f a b es fs all is failed second joined = grind (arith, list_any-append f es fs)

-- one more element of an array
pub document_passed : (f : End → Bool) (p : Names) (u : Tree) (ts us : List Tree) (all : Bool) → list_any f (each_collecting ends (items_of ts) p) ≡ all → ts ≡ u ∷ us → is_document u ≡ true
    → list_any f (reach u p) ≡ false → list_any f (each_collecting ends (items_of us) p) ≡ all
document_passed f p u ts us all so_far is d none = rw (← so_far, is, d, list_any-append, none)

pub other_passed : (f : End → Bool) (p : Names) (u : Tree) (ts us : List Tree) (all : Bool) → list_any f (each_collecting ends (items_of ts) p) ≡ all → ts ≡ u ∷ us → is_document u ≡ false
    → list_any f (each_collecting ends (items_of us) p) ≡ all
other_passed f p u ts us all so_far is d = rw (← so_far, is, d)

pub keeps_ends : (f : End → Bool) (xs : List End) → list_any f xs ≡ false → list_any f xs ≡ false
keeps_ends f xs h = h
