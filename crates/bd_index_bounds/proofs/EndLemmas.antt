-- The value that an operator finds at the end of a path is a key, or an array whose elements are keys.
use Rattle.std.proofs.Common.{◌≡◌, ℕ, ◌==◌, Bool, true, false, cond, not, ◌&&◌, List, [], ◌∷◌, length, map, Some, None, ◌⊎◌, inl, inr, refl, sym, ap, ◌∙◌, arith, is_eq, eqb-true, eq-eqb}
use Rattle.std.specs.Prelude.{is_some}
use Rattle.std.specs.List.{list_any, list_all}
use Rattle.std.proofs.lemmas.Bool.{and_parts, and_from, not-true, or_cases, or_left, or_right}
use Rattle.bd_value.specs.{View.kind_of, Order.class_of, Order.class_of_kind, Order.class_rank, Tree.elements_in, declared.node.Kind.Kind}
use Rattle.bd_value.specs.Order.{class_cmp, cmp, equal, items_cmp}
use Rattle.bd_value.specs.Tree.{Scalar, Tree, leaf, doc, array, code_scope, Items, no_items, item, list_of}
use Rattle.bd_value.specs.Tree as trees
use Rattle.bd_value.specs.declared.node.Kind.TheVariants as kinds
use Rattle.bd_value.specs.declared.node.Class.TheVariants as classes
use Rattle.bd_value.proofs.OrderLemmas.{plain}
use Rattle.bd_path.specs.{Reach.Names, Reach.End, Reach.is_document, Reach.reach}
use Rattle.bd_path.proofs.SortLemmas.{absent}
use Rattle.bd_path.proofs.ReachLemmas.{In, Found, found_from, any_at}
use Rattle.bd_query_filter.specs.Filter.{Operator, equals, compares, is_in, has_all, has_type, has_size, exists, Operators, no_operators, operator}
use Rattle.bd_query_filter.specs.FilterMatch.{accepts, all_accept, any_candidate, any_equal, candidates, is_array, is_nonempty, is_of_size, is_of_type, is_related, is_value, value_or_null}
use Rattle.bd_query_filter.specs.NameKind.{is_kind}
use Rattle.bd_value.specs.contracts.node.Kind.{the_type}
use denote.Enum.Bare.{same_true}
use Rattle.bd_query_filter.specs.declared.operand.Relation.{Relation}
use Rattle.bd_query_filter.proofs.MembersLemmas.{any_mapped}
use Rattle.bd_index_bounds.specs.Bounds.{KeyBounds, KeySet, all_element_bounds, bounds_here, conjunction, element_bounds, is_among, is_listed}
use Rattle.bd_index_bounds.specs.Bounds.{is_of_class, keys_of_types, keys_of_each, intersection, union, keys_equal_to, keys_of_equal}
use Rattle.bd_index_bounds.proofs.AlikeLemmas.{equal_is, equals_class, first_ties, one_class}
use Rattle.bd_index_bounds.proofs.KeyLemmas.{element_of_end, end_is_key, everywhere, keys_of, missing, null}

-- ---- sets of keys

pub in_union : {A : Type 0} (sets : A → KeySet) (xs : List A) (k : Tree) (x : A) → In x xs → sets x k ≡ true → union (map sets xs) k ≡ true
in_union sets xs k x i h = any_mapped (λ (set : KeySet). set k) sets xs ∙ any_at (λ y. sets y k) xs x i h

pub in_each : {A : Type 0} (sets : A → KeySet) (xs : List A) (k : Tree) → list_all (λ y. sets y k) xs ≡ true → intersection (map sets xs) k ≡ true
in_each sets [] k h = refl
in_each sets (x ∷ xs) k h =
    let b = and_parts (sets x k) (list_all (λ y. sets y k) xs) h in
    and_from (sets x k) (intersection (map sets xs) k) b.0 (in_each sets xs k b.1)

-- ---- candidates

-- a candidate that passes and is a key
pub record PassingKey (test : End → Bool) (t : Tree) (p : Names) : Type 0 where
  pub it : End
  pub is_in : In (value_or_null it) (keys_of t p)
  pub passes : test it ≡ true

-- a candidate that passes and is an array at the end of the path
pub record PassingArray (test : End → Bool) (t : Tree) (p : Names) : Type 0 where
  pub all : Items
  pub is_end : In (Some (array all)) (reach t p)
  pub passes : test (Some (array all)) ≡ true

module _ (test : End → Bool) (t : Tree) (p : Names) where
  at_end : (e : End) → In e (reach t p) → test e ≡ true → PassingKey test t p ⊎ PassingArray test t p
  at_end None h passes = inl (record { it = None; is_in = missing t p h; passes = passes })
  at_end (Some (array ts)) h passes = inr (record { all = ts; is_end = h; passes = passes })
  at_end (Some x) h passes = inl (record { it = Some x; is_in = end_is_key t x x p h (inl refl); passes = passes })

  of_end : (e : End) → In e (reach t p) → list_any test (candidates e) ≡ true → PassingKey test t p ⊎ PassingArray test t p
  of_end None h e = elim (or_cases (test None) false e) [ inl a ↦ at_end None h a | inr b ↦ absurd cc ]
  of_end (Some w) h e = elim (or_cases (test (Some w)) (list_any test (map Some (elements_in w))) e) [
    | inl a ↦ at_end (Some w) h a
    | inr b ↦ (let f = found_from (λ x. test (Some x)) (elements_in w) (sym (any_mapped test Some (elements_in w)) ∙ b) in
        inl (record { it = Some f.it; is_in = element_of_end t w f.it p h f.is_in; passes = f.passes }))
  ]

  pub candidate : any_candidate test (reach t p) ≡ true → PassingKey test t p ⊎ PassingArray test t p
  candidate h = let e = found_from (λ e. list_any test (candidates e)) (reach t p) h in of_end e.it e.is_in e.passes

-- ---- equal values

array_equals : (ts : Items) (v : Tree) → equal (array ts) v ≡ true → Found (keys_of_equal v) (keys_of (array ts) [])
array_equals ts (leaf s) e = absurd ((plain s).not6 (sym (one_class (array ts) (leaf s) (equals_class (array ts) (leaf s) e))))
array_equals no_items (array no_items) e = record { it = leaf trees.undefined; is_in = inl refl; passes = refl }
array_equals (item t ts) (array (item u us)) e = record {
  it = t;
  is_in = inl refl;
  passes = or_right (equal t (array (item u us))) (equal t u) (ap is_eq (first_ties (cmp t u) (items_cmp ts us) (equal_is _ e)));
}
array_equals _ _ e = absurd cc

pub sound_equal : (t : Tree) (p : Names) (v : Tree) → any_equal (reach t p) v ≡ true → Found (keys_of_equal v) (keys_of t p)
sound_equal t p v h =
    elim (candidate (λ e. equal (value_or_null e) v) t p h) [
      | inl k ↦ record { it = value_or_null k.it; is_in = k.is_in; passes = or_left (equal (value_or_null k.it) v) _ k.passes }
      | inr a ↦ (let f = array_equals a.all v a.passes in record { it = f.it; is_in = end_is_key t (array a.all) f.it p a.is_end f.is_in; passes = f.passes })
    ]

-- ---- values in an order

-- a candidate that passes is inside, unless the bounds are omitted, which they are if an array passes
unless : (test : End → Bool) (set : KeySet) (t : Tree) (p : Names) (out : Bool) → ((c : End) → test c ≡ true → set (value_or_null c) ≡ true)
    → ((ts : Items) → test (Some (array ts)) ≡ true → out ≡ true) → any_candidate test (reach t p) ≡ true → Found (is_among (cond out None (Some set))) (keys_of t p)
unless test set t p true inside array_passes h = everywhere t p
unless test set t p false inside array_passes h =
    elim (candidate test t p h) [
      | inl k ↦ record { it = value_or_null k.it; is_in = k.is_in; passes = inside k.it k.passes }
      | inr a ↦ (let out = array_passes a.all a.passes in absurd cc)
    ]

array_of_class : (ts : Items) (v : Tree) → is_eq (class_cmp (array ts) v) ≡ true → is_array v ≡ true
array_of_class ts (array us) e = refl
array_of_class ts (leaf s) e = absurd ((plain s).not6 (sym (one_class (array ts) (leaf s) e)))
array_of_class ts _ e = absurd cc

pub sound_compares : (t : Tree) (p : Names) (m : Bool) (r : Relation) (v : Tree) → any_candidate (λ e. is_related r v (value_or_null e)) (reach t p) ≡ true
    → Found (is_among (bounds_here (compares r v) m)) (keys_of t p)
sound_compares t p m r v h =
    unless (λ e. is_related r v (value_or_null e)) (is_related r v) t p (is_array v) (λ c passes. passes)
    (λ ts passes. array_of_class ts v (and_parts (is_eq (class_cmp (array ts) v)) _ passes).0) h

-- ---- kinds

same_kind_class : (k : Kind) (x : Tree) → is_kind k (kind_of x) ≡ true → is_of_class (class_of_kind k) x ≡ true
same_kind_class k x e =
    eq-eqb (class_rank (class_of x)) (class_rank (class_of_kind k)) (ap (λ kind. class_rank (class_of_kind kind)) (sym (same_true the_type tt k (kind_of x) e)))

pub types_inside : (ks : List Kind) (x : Tree) → is_of_type ks x ≡ true → keys_of_types ks x ≡ true
types_inside ks x h =
    let f = found_from (λ k. is_kind k (kind_of x)) ks h in
    in_union (λ kind. is_of_class (class_of_kind kind)) ks x f.it f.is_in (same_kind_class f.it x f.passes)

end_type : (ks : List Kind) (c : End) → is_value (is_of_type ks) c ≡ true → keys_of_types ks (value_or_null c) ≡ true
end_type ks None e = absurd cc
end_type ks (Some x) e = types_inside ks x e

pub sound_type : (t : Tree) (p : Names) (m : Bool) (ks : List Kind) → any_candidate (is_value (is_of_type ks)) (reach t p) ≡ true
    → Found (is_among (bounds_here (has_type ks) m)) (keys_of t p)
sound_type t p m ks h = unless (is_value (is_of_type ks)) (keys_of_types ks) t p (is_listed kinds.Array ks) (end_type ks) (λ ts passes. passes) h

-- ---- ends

-- an end that is a value, and passes
pub record EndFound (test : Tree → Bool) (es : List End) : Type 0 where
  pub it : Tree
  pub is_in : In (Some it) es
  pub passes : test it ≡ true

pub end_found : (test : Tree → Bool) (es : List End) → list_any (is_value test) es ≡ true → EndFound test es
end_found test es h = let f = found_from (is_value test) es h in go f.it f.is_in f.passes
  where
    go : (c : End) → In c es → is_value test c ≡ true → EndFound test es
    go None i e = absurd cc
    go (Some x) i e = record { it = x; is_in = i; passes = e }

empty_array : (n : ℕ) (v : Tree) → is_of_size n v ≡ true → (n == 0) ≡ true → In (leaf trees.undefined) (keys_of v [])
empty_array n (array no_items) e z = inl refl
empty_array n (array (item t ts)) e z =
    let a = eqb-true (length (t ∷ list_of ts)) n e in
    let b = eqb-true n 0 z in
    absurd (omega arith)
empty_array n _ e z = absurd cc

pub sound_size : (t : Tree) (p : Names) (m : Bool) (n : ℕ) → list_any (is_value (is_of_size n)) (reach t p) ≡ true → Found (is_among (bounds_here (has_size n) m)) (keys_of t p)
sound_size t p m n h = go (n == 0) refl
  where
    go : (b : Bool) → (n == 0) ≡ b → Found (is_among (cond b (Some (keys_equal_to (leaf trees.undefined))) None)) (keys_of t p)
    go false is = everywhere t p
    go true is =
        let f = end_found (is_of_size n) (reach t p) h in
        record { it = leaf trees.undefined; is_in = end_is_key t f.it (leaf trees.undefined) p f.is_in (empty_array n f.it f.passes is); passes = refl }

pub sound_exists : (t : Tree) (p : Names) (m : Bool) (b : Bool) → cond b (list_any is_some (reach t p)) (not (list_any is_some (reach t p))) ≡ true
    → Found (is_among (bounds_here (exists b) m)) (keys_of t p)
sound_exists t p m true h = everywhere t p
sound_exists t p m false h = record { it = null; is_in = absent t p (not-true (list_any is_some (reach t p)) h); passes = refl }

-- ---- elements by themselves

-- an element of an array at the end of a path
pub record ElementFound (test : Tree → Bool) (t : Tree) (p : Names) : Type 0 where
  pub whole : Tree
  pub is_end : In (Some whole) (reach t p)
  pub it : Tree
  pub is_in : In it (elements_in whole)
  pub passes : test it ≡ true

pub element_found : (test : Tree → Bool) (t : Tree) (p : Names) → list_any (is_value (λ x. list_any test (elements_in x))) (reach t p) ≡ true → ElementFound test t p
element_found test t p h =
    let e = end_found (λ x. list_any test (elements_in x)) (reach t p) h in
    let f = found_from test (elements_in e.it) e.passes in
    record { whole = e.it; is_end = e.is_in; it = f.it; is_in = f.is_in; passes = f.passes }

among_both : (b c : KeyBounds) (k : Tree) → is_among b k ≡ true → is_among c k ≡ true → is_among (conjunction false b c) k ≡ true
among_both None c k f g = g
among_both (Some s) None k f g = f
among_both (Some s) (Some u) k f g = and_from (s k) (u k) f g

each_equal : (vs : List Tree) (x : Tree) → (is_nonempty vs && list_all (equal x) vs) ≡ true → keys_of_each false (map keys_equal_to vs) x ≡ true
each_equal [] x h = absurd cc
each_equal (v ∷ vs) x h = in_each keys_equal_to (v ∷ vs) x h

accepted : (o : Operator) (x : Tree) → accepts o x ≡ true → is_among (element_bounds o) x ≡ true
accepted (equals v) x h = h
accepted (compares r v) x h = h
accepted (is_in vs) x h = any_mapped (λ (set : KeySet). set x) keys_equal_to vs ∙ h
accepted (has_all vs) x h = each_equal vs x h
accepted (has_type ks) x h = types_inside ks x h
accepted _ x h = refl

all_accepted : (os : Operators) (x : Tree) → all_accept os x ≡ true → is_among (all_element_bounds os) x ≡ true
all_accepted no_operators x h = refl
all_accepted (operator o os) x h =
    let b = and_parts (accepts o x) (all_accept os x) h in
    among_both (element_bounds o) (all_element_bounds os) x (accepted o x b.0) (all_accepted os x b.1)

pub sound_element : (t : Tree) (p : Names) (os : Operators) → list_any (is_value (λ x. list_any (all_accept os) (elements_in x))) (reach t p) ≡ true
    → Found (is_among (all_element_bounds os)) (keys_of t p)
sound_element t p os h =
    let f = element_found (all_accept os) t p h in
    record { it = f.it; is_in = element_of_end t f.whole f.it p f.is_end f.is_in; passes = all_accepted os f.it f.passes }

pub document_class : (x : Tree) → is_document x ≡ true → is_of_class classes.Doc x ≡ true
document_class (doc fs) e = refl
document_class _ e = absurd cc
