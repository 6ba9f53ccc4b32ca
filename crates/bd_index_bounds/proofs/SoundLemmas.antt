-- If a document matches, one of its keys is inside the bounds.
use Rattle.std.proofs.Common.{◌≡◌, ℕ, Bool, true, false, cond, ◌&&◌, ◌||◌, ◌==◌, List, [], ◌∷◌, ◌++◌, length, map, Option, Some, None, ◌⊎◌, inl, inr, refl, sym, ap₂, ◌∙◌, subst, append-nil, eqb-true, arith}
use Rattle.std.specs.{List.list_any, List.list_all, Str.bytes_eq, Cmp.Lexicographic.bytes_decides}
use Rattle.std.proofs.lemmas.Bool.{and_parts, and_from, or_cases, or_left, or_right}
use Rattle.bd_value.specs.{Order.equal, Tree.elements_in, Tree.Tree, Tree.array}
use Rattle.bd_path.specs.{Key.keys, Key.sparse_keys, Reach.Names, Reach.is_document, Reach.reach}
use Rattle.bd_path.proofs.SortLemmas.{distinct_has, equal_back, equal_on, sparse_has}
use Rattle.bd_path.proofs.ReachLemmas.{In, Found, found_from, any_at}
use Rattle.bd_query_filter.specs.Filter.{Filter, all_of, some_of, none_of, at_path, Filters, no_filters, filter, Operator, equals, differs, compares, is_in, is_not_in, has_all, has_type, has_size}
use Rattle.bd_query_filter.specs.Filter.{exists, negates, has_element, has_document, Operators, no_operators, operator}
use Rattle.bd_query_filter.specs.FilterMatch.{all_hold, all_match, any_equal, holds, is_nonempty, matches, some_match}
use Rattle.bd_index_bounds.specs.Bounds.{KeyBounds, all_bounds, bounds, bounds_at, bounds_here, conjunction, disjunction, is_among, is_inside, keys_of_each}
use Rattle.bd_index_bounds.specs.Bounds.{keys_of_equal, union, operator_bounds, rest_after, some_bounds}
use Rattle.bd_index_bounds.proofs.AlikeLemmas.{same_all, same_bounds, same_keys_of_equal, same_operators}
use Rattle.bd_index_bounds.proofs.EndLemmas.{document_class, element_found, in_each, in_union, sound_compares, sound_element, sound_equal, sound_exists, sound_size, sound_type}
use Rattle.bd_index_bounds.proofs.KeyLemmas.{element_of_end, everywhere, keys_of, keys_of_element, null, through}

-- several keys are allowed, or all keys are equal
abbrev Fine : Bool → List Tree → Type 0
Fine true ks = Unit {0}
Fine false ks = (x y : Tree) → In x ks → In y ks → equal x y ≡ true

fine_part : (m : Bool) (ks ls : List Tree) → ((k : Tree) → In k ls → In k ks) → Fine m ks → Fine m ls
fine_part true ks ls f g = tt
fine_part false ks ls f g = λ x y h i. g x y (f x h) (f y i)

-- if all keys are equal, each passes
each_passes : (test : Tree → Bool) (ks : List Tree) → ((x y : Tree) → equal x y ≡ true → test x ≡ test y) → Fine false ks → Found test ks → (x : Tree) → In x ks → test x ≡ true
each_passes test ks same fine f x h = same x f.it (fine x f.it h f.is_in) ∙ f.passes

-- bounds of two members of a conjunction
both_found : (m : Bool) (b c : KeyBounds) (ks : List Tree) → Fine m ks → ((x y : Tree) → equal x y ≡ true → is_among c x ≡ is_among c y)
    → Found (is_among b) ks → Found (is_among c) ks → Found (is_among (conjunction m b c)) ks
both_found m None c ks fine same f g = g
both_found m (Some s) None ks fine same f g = f
both_found true (Some s) (Some u) ks fine same f g = f
both_found false (Some s) (Some u) ks fine same f g =
    record { it = f.it; is_in = f.is_in; passes = and_from (s f.it) (u f.it) f.passes (each_passes u ks same fine g f.it f.is_in) }

-- bounds of one member of a disjunction
either_found : (b c : KeyBounds) (t : Tree) (p : Names) → Found (is_among b) (keys_of t p) ⊎ Found (is_among c) (keys_of t p) → Found (is_among (disjunction b c)) (keys_of t p)
either_found (Some s) (Some u) t p (inl f) = record { it = f.it; is_in = f.is_in; passes = or_left (s f.it) (u f.it) f.passes }
either_found (Some s) (Some u) t p (inr f) = record { it = f.it; is_in = f.is_in; passes = or_right (s f.it) (u f.it) f.passes }
either_found _ _ t p f = everywhere t p

-- ---- operators at the path of the index

sound_in : (t : Tree) (p : Names) (vs : List Tree) → list_any (any_equal (reach t p)) vs ≡ true → Found (union (map keys_of_equal vs)) (keys_of t p)
sound_in t p vs h =
    let f = found_from (any_equal (reach t p)) vs h in
    let k = sound_equal t p f.it f.passes in
    record { it = k.it; is_in = k.is_in; passes = in_union keys_of_equal vs k.it f.it f.is_in k.passes }

all_inside : (t : Tree) (p : Names) (vs : List Tree) (x : Tree) → Fine false (keys_of t p) → In x (keys_of t p)
    → list_all (any_equal (reach t p)) vs ≡ true → list_all (λ w. keys_of_equal w x) vs ≡ true
all_inside t p [] x fine h e = refl
all_inside t p (v ∷ vs) x fine h e =
    let b = and_parts (any_equal (reach t p) v) (list_all (any_equal (reach t p)) vs) e in
    and_from (keys_of_equal v x) (list_all (λ w. keys_of_equal w x) vs)
    (each_passes (keys_of_equal v) (keys_of t p) (λ y z s. same_keys_of_equal y z s v) fine (sound_equal t p v b.0) x h)
    (all_inside t p vs x fine h b.1)

sound_has_all : (t : Tree) (p : Names) (m : Bool) (vs : List Tree) → Fine m (keys_of t p) → (is_nonempty vs && list_all (any_equal (reach t p)) vs) ≡ true
    → Found (keys_of_each m (map keys_of_equal vs)) (keys_of t p)
sound_has_all t p m [] fine e = absurd cc
sound_has_all t p true (v ∷ vs) fine e = sound_equal t p v (and_parts (any_equal (reach t p) v) _ e).0
sound_has_all t p false (v ∷ vs) fine e =
    let f = sound_equal t p v (and_parts (any_equal (reach t p) v) _ e).0 in
    record { it = f.it; is_in = f.is_in; passes = in_each keys_of_equal (v ∷ vs) f.it (all_inside t p (v ∷ vs) f.it fine f.is_in e) }

sound_here : (o : Operator) (t : Tree) (p : Names) (m : Bool) → Fine m (keys_of t p) → holds o (reach t p) ≡ true → Found (is_among (bounds_here o m)) (keys_of t p)
sound_here (equals v) t p m fine h = sound_equal t p v h
sound_here (differs v) t p m fine h = everywhere t p
sound_here (compares r v) t p m fine h = sound_compares t p m r v h
sound_here (is_in vs) t p m fine h = sound_in t p vs h
sound_here (is_not_in vs) t p m fine h = everywhere t p
sound_here (has_all vs) t p m fine h = sound_has_all t p m vs fine h
sound_here (has_type ks) t p m fine h = sound_type t p m ks h
sound_here (has_size n) t p m fine h = sound_size t p m n h
sound_here (exists b) t p m fine h = sound_exists t p m b h
sound_here (negates os) t p m fine h = everywhere t p
sound_here (has_element os) t p m fine h = sound_element t p os h
sound_here (has_document fs) t p m fine h =
    let e = element_found (λ x. is_document x && all_match fs x) t p h in
    let b = and_parts (is_document e.it) (all_match fs e.it) e.passes in
    record { it = e.it; is_in = element_of_end t e.whole e.it p e.is_end e.is_in; passes = document_class e.it b.0 }

-- ---- the rest of a path

rest_is : (r p s : Names) → rest_after r p ≡ Some s → p ≡ r ++ s
rest_is [] p s e = cc
rest_is (c ∷ r) [] s e = absurd cc
rest_is (c ∷ r) (b ∷ p) s e = go (rest_is r p s) (bytes_eq c b) refl e
  where
    go : (rest_after r p ≡ Some s → p ≡ r ++ s) → (t : Bool) → bytes_eq c b ≡ t → cond t (rest_after r p) None ≡ Some s → b ∷ p ≡ c ∷ (r ++ s)
    go rec true f g = ap₂ ◌∷◌ (sym ((bytes_decides c b).0 f)) (rec g)
    go rec false f g = absurd cc

-- the keys of an element that is a document, at the rest of the path, are keys of the whole
inner : (t w x : Tree) (r p : Names) (c : List ℕ) (s : Names) → p ≡ r ++ (c ∷ s) → In (Some w) (reach t r) → In x (elements_in w) → is_document x ≡ true
    → (k : Tree) → In k (keys_of x (c ∷ s)) → In k (keys_of t p)
inner t (array ts) x r p c s e h g i k a =
    subst (λ q. In k (keys_of t q)) (sym e) (through t r (c ∷ s) (array ts) k h (keys_of_element ts x k c s g i a))
inner t _ x r p c s e h g i k a = absurd g

-- ---- filters

mutual
  pub sound : (f : Filter) (p : Names) (m : Bool) (t : Tree) → Fine m (keys_of t p) → matches f t ≡ true → Found (is_among (bounds f p m)) (keys_of t p)
  sound (all_of fs) p m t fine h = sound_all fs p m t fine h
  sound (some_of fs) p m t fine h = sound_some fs p m t fine h
  sound (none_of fs) p m t fine h = everywhere t p
  sound (at_path r os) p m t fine h = sound_operators os (rest_after r p) r p m t (rest_is r p) fine h

  sound_all : (fs : Filters) (p : Names) (m : Bool) (t : Tree) → Fine m (keys_of t p) → all_match fs t ≡ true → Found (is_among (all_bounds fs p m)) (keys_of t p)
  sound_all no_filters p m t fine h = everywhere t p
  sound_all (filter f fs) p m t fine h =
      let b = and_parts (matches f t) (all_match fs t) h in
      both_found m (bounds f p m) (all_bounds fs p m) (keys_of t p) fine (λ x y e. same_all x y e fs p m) (sound f p m t fine b.0) (sound_all fs p m t fine b.1)

  sound_some : (fs : Filters) (p : Names) (m : Bool) (t : Tree) → Fine m (keys_of t p) → some_match fs t ≡ true → Found (is_among (some_bounds fs p m)) (keys_of t p)
  sound_some no_filters p m t fine h = absurd cc
  sound_some (filter f fs) p m t fine h =
      either_found (bounds f p m) (some_bounds fs p m) t p
      (elim (or_cases (matches f t) (some_match fs t) h) [ inl a ↦ inl (sound f p m t fine a) | inr b ↦ inr (sound_some fs p m t fine b) ])

  sound_operators : (os : Operators) (rest : Option Names) (r p : Names) (m : Bool) (t : Tree) → ((s : Names) → rest ≡ Some s → p ≡ r ++ s)
      → Fine m (keys_of t p) → all_hold os (reach t r) ≡ true → Found (is_among (operator_bounds os rest m)) (keys_of t p)
  sound_operators no_operators rest r p m t w fine h = everywhere t p
  sound_operators (operator o os) rest r p m t w fine h =
      let b = and_parts (holds o (reach t r)) (all_hold os (reach t r)) h in
      both_found m (bounds_at o rest m) (operator_bounds os rest m) (keys_of t p) fine (λ x y e. same_operators x y e os rest m)
      (sound_operator o rest r p m t w fine b.0) (sound_operators os rest r p m t w fine b.1)

  sound_operator : (o : Operator) (rest : Option Names) (r p : Names) (m : Bool) (t : Tree) → ((s : Names) → rest ≡ Some s → p ≡ r ++ s)
      → Fine m (keys_of t p) → holds o (reach t r) ≡ true → Found (is_among (bounds_at o rest m)) (keys_of t p)
  sound_operator o None r p m t w fine h = everywhere t p
  sound_operator o (Some []) r p m t w fine h =
      let same : r ≡ p = sym (w [] refl ∙ append-nil r) in
      subst (λ q. Found (is_among (bounds_here o m)) (keys_of t q)) same (sound_here o t r m (subst (λ q. Fine m (keys_of t q)) (sym same) fine) h)
  sound_operator (has_document fs) (Some (c ∷ s)) r p m t w fine h =
      let e = element_found (λ x. is_document x && all_match fs x) t r h in
      let b = and_parts (is_document e.it) (all_match fs e.it) e.passes in
      let part = inner t e.whole e.it r p c s (w (c ∷ s) refl) e.is_end e.is_in b.0 in
      let k = sound_all fs (c ∷ s) m e.it (fine_part m (keys_of t p) (keys_of e.it (c ∷ s)) part fine) b.1 in
      record { it = k.it; is_in = part k.it k.is_in; passes = k.passes }
  sound_operator _ (Some (c ∷ s)) r p m t w fine h = everywhere t p

-- ---- the distinct keys

-- each key equals a distinct one
found_distinct : (test : Tree → Bool) (t : Tree) (p : Names) → ((x y : Tree) → equal x y ≡ true → test x ≡ test y) → Found test (keys_of t p) → Found test (keys t p)
found_distinct test t p same f =
    let r = distinct_has (keys_of t p) f.it f.is_in in
    record { it = r.it; is_in = r.is_in; passes = same r.it f.it r.same ∙ f.passes }

one_member : (ks : List Tree) (x y : Tree) → length ks ≡ 1 → In x ks → In y ks → x ≡ y
one_member [] x y one h g = absurd h
one_member (k ∷ []) x y one (inl e) (inl f) = e ∙ sym f
one_member (k ∷ []) x y one (inl e) (inr f) = absurd f
one_member (k ∷ []) x y one (inr e) g = absurd e
one_member (k ∷ l ∷ ks) x y one h g = absurd (omega arith)

-- if a document has one distinct key, its keys do not differ
all_equal : (t : Tree) (p : Names) → length (keys t p) ≡ 1 → Fine false (keys_of t p)
all_equal t p one x y h g =
    let a = distinct_has (keys_of t p) x h in
    let b = distinct_has (keys_of t p) y g in
    let same : a.it ≡ b.it = one_member (keys t p) a.it b.it one a.is_in b.is_in in
    equal_on x a.it y (equal_back a.it x a.same) (subst (λ k. equal k y ≡ true) (sym same) b.same)

-- the index is multikey, or the document has one key
abbrev pub is_fit : Bool → Names → Tree → Bool
is_fit multikey path d = multikey || (length (keys d path) == 1)

fit_is_fine : (m : Bool) (t : Tree) (p : Names) → is_fit m p t ≡ true → Fine m (keys_of t p)
fit_is_fine true t p fit = tt
fit_is_fine false t p fit = all_equal t p (eqb-true (length (keys t p)) 1 fit)

key_found : (f : Filter) (p : Names) (m : Bool) (t : Tree) → is_fit m p t ≡ true → matches f t ≡ true → Found (is_inside f p m) (keys t p)
key_found f p m t fit h = found_distinct (is_inside f p m) t p (λ x y e. same_bounds x y e f p m) (sound f p m t (fit_is_fine m t p fit) h)

-- a document that matches has a key inside the bounds
pub loses_no_match : (f : Filter) (p : Names) (m : Bool) (t : Tree) → is_fit m p t ≡ true → matches f t ≡ true → list_any (is_inside f p m) (keys t p) ≡ true
loses_no_match f p m t fit h = let k = key_found f p m t fit h in any_at (is_inside f p m) (keys t p) k.it k.is_in k.passes

-- if a document matches and null is outside the bounds, a sparse key of it is inside
pub sparse_loses_no_match : (f : Filter) (p : Names) (m : Bool) (t : Tree) → is_fit m p t ≡ true → matches f t ≡ true → is_inside f p m null ≡ false
    → list_any (is_inside f p m) (sparse_keys t p) ≡ true
sparse_loses_no_match f p m t fit h out =
    any_at (is_inside f p m) (sparse_keys t p) k.it (sparse_has t p k.it k.is_in (other (equal k.it null) refl)) k.passes
  where
    k : Found (is_inside f p m) (keys t p)
    k = key_found f p m t fit h

    other : (b : Bool) → equal k.it null ≡ b → b ≡ false
    other false e = refl
    other true e = let g = same_bounds k.it null e f p m in let n : ⊥ = cc (g, out, k.passes) in absurd n
