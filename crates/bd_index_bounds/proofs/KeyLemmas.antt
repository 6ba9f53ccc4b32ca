-- The keys of a document, by what a path reaches in it.
use Rattle.std.proofs.Common.{◌≡◌, ◌≢◌, ℕ, zero, suc, Bool, true, false, cond, List, [], ◌∷◌, ◌++◌, Option, Some, None, inl, inr, refl, subst, append-nil}
use Rattle.std.specs.{Prelude.not, Str.bytes_eq}
use Rattle.bd_value.specs.{Order.equal, Tree.elements_in}
use Rattle.bd_value.specs.Tree.{Tree, leaf, doc, array, code_scope, Items, no_items, item, Fields, no_fields, field, list_of}
use Rattle.bd_value.specs.Tree as trees
use Rattle.bd_path.specs.{Reach.index_of, Reach.Names}
use Rattle.bd_path.specs.Key.{all_keys, distinct, key_collecting, keys, or_else}
use Rattle.bd_path.specs.Reach.{ends, collecting_at, each_collecting, first_collecting, is_document, reach}
use Rattle.bd_path.proofs.SortLemmas.{from_filter, has_a_key, missing_gives_null}
use Rattle.bd_path.proofs.ReachLemmas.{In, in_left, in_right, in_cases, in_either, Found}

-- the key of a missing field
abbrev pub null : Tree
null = leaf trees.null

abbrev pub nulls : List Tree
nulls = null ∷ []

-- the keys of a document on a path, with duplicates
abbrev pub keys_of : Tree → Names → List Tree
keys_of t p = all_keys false t p

in_or_else : (k : Tree) (ks other : List Tree) → In k ks → In k (or_else ks other)
in_or_else k [] other h = absurd h
in_or_else k (x ∷ xs) other h = h

-- ---- the distinct keys are among all keys

among_all : (ts : List Tree) (x : Tree) → In x (distinct ts) → In x ts
among_all [] x h = h
among_all (t ∷ ts) x (inl e) = inl e
among_all (t ∷ ts) x (inr h) = inr (among_all ts x (from_filter (λ y. not (equal t y)) x (distinct ts) h))

pub key_is_key : (t x : Tree) (p : Names) → In x (keys t p) → In x (keys_of t p)
key_is_key t x p h = among_all (keys_of t p) x h

pub missing : (t : Tree) (p : Names) → In None (reach t p) → In null (keys_of t p)
missing t p h = key_is_key t null p (missing_gives_null t p h)

-- without bounds, some key is inside
pub everywhere : (t : Tree) (p : Names) → Found (λ k. true) (keys_of t p)
everywhere t p = go (keys_of t p) (has_a_key t p)
  where
    go : (ks : List Tree) → distinct ks ≢ [] → Found (λ k. true) ks
    go [] some = absurd (some refl)
    go (k ∷ ks) some = record { it = k; is_in = inl refl; passes = refl }

-- ---- the keys of the value at an end are keys of the whole

no_some : (x : Tree) → In (Some x) (None ∷ []) → ⊥
no_some x h = elim h [ inl e ↦ cc | inr e ↦ absurd e ]

at_end : (t x k : Tree) (s : Names) → In (Some x) (Some t ∷ []) → In k (keys_of x s) → In k (keys_of t s)
at_end t x k s h g = elim h [ inl e ↦ let same : x ≡ t = cc in subst (λ w. In k (keys_of w s)) same g | inr e ↦ absurd e ]

mutual
  pub through : (t : Tree) (r s : Names) (x k : Tree) → In (Some x) (reach t r) → In k (keys_of x s) → In k (keys_of t (r ++ s))
  through (doc fs) (c ∷ r) s x k h g = through_first fs c r s x k h g
  through (array ts) (c ∷ r) s x k h g =
      let ks = each_collecting (key_collecting nulls) ts (c ∷ (r ++ s)) in
      let ls = collecting_at (key_collecting nulls) ts (index_of c) (r ++ s) in
      in_or_else k (ks ++ ls) nulls (elim (in_cases (Some x) (each_collecting ends ts (c ∷ r)) (collecting_at ends ts (index_of c) r) h) [
        | inl a ↦ in_left k ks ls (through_each ts (c ∷ r) s x k a g)
        | inr b ↦ in_right k ks ls (through_at ts (index_of c) r s x k b g)
      ])
  through (leaf v) [] s x k h g = at_end (leaf v) x k s h g
  through t [] s x k h g = at_end t x k s h g
  through t (c ∷ r) s x k h g = absurd (no_some x h)

  through_first : (fs : Fields) (c : List ℕ) (r s : Names) (x k : Tree) → In (Some x) (first_collecting ends fs c r) → In k (keys_of x s) → In k (first_collecting (key_collecting nulls) fs c (r ++ s))
  through_first no_fields c r s x k h g = absurd (no_some x h)
  through_first (field n t fs) c r s x k h g =
      in_either (bytes_eq n c) (Some x) k (reach t r) (first_collecting ends fs c r) (keys_of t (r ++ s)) (first_collecting (key_collecting nulls) fs c (r ++ s))
      (λ a. through t r s x k a g) (λ a. through_first fs c r s x k a g) h

  through_each : (ts : Items) (p s : Names) (x k : Tree) → In (Some x) (each_collecting ends ts p) → In k (keys_of x s) → In k (each_collecting (key_collecting nulls) ts (p ++ s))
  through_each no_items p s x k h g = absurd h
  through_each (item t ts) p s x k h g =
      let ks = cond (is_document t) (keys_of t (p ++ s)) [] in
      let ls = each_collecting (key_collecting nulls) ts (p ++ s) in
      elim (in_cases (Some x) (cond (is_document t) (reach t p) []) (each_collecting ends ts p) h) [
        | inl a ↦ in_left k ks ls (in_either (is_document t) (Some x) k (reach t p) [] (keys_of t (p ++ s)) [] (λ b. through t p s x k b g) (λ b. absurd b) a)
        | inr b ↦ in_right k ks ls (through_each ts p s x k b g)
      ]

  through_at : (ts : Items) (i : Option ℕ) (r s : Names) (x k : Tree) → In (Some x) (collecting_at ends ts i r) → In k (keys_of x s) → In k (collecting_at (key_collecting nulls) ts i (r ++ s))
  through_at no_items i r s x k h g = absurd h
  through_at (item t ts) None r s x k h g = absurd h
  through_at (item t ts) (Some zero) r s x k h g = through t r s x k h g
  through_at (item t ts) (Some (suc n)) r s x k h g = through_at ts (Some n) r s x k h g

pub end_is_key : (t x k : Tree) (p : Names) → In (Some x) (reach t p) → In k (keys_of x []) → In k (keys_of t p)
end_is_key t x k p h g = subst (λ q. In k (keys_of t q)) (append-nil p) (through t p [] x k h g)

-- the elements of an array are its keys
element_is_key : (w x : Tree) → In x (elements_in w) → In x (keys_of w [])
element_is_key (array ts) x h = in_or_else x (list_of ts) (leaf trees.undefined ∷ []) h
element_is_key _ x h = absurd h

-- an element of an array that a path ends at is a key
pub element_of_end : (t w x : Tree) (p : Names) → In (Some w) (reach t p) → In x (elements_in w) → In x (keys_of t p)
element_of_end t w x p h g = end_is_key t w x p h (element_is_key w x g)

-- the keys of a document in an array are keys of the array
pub keys_of_element : (ts : Items) (x k : Tree) (c : List ℕ) (r : Names) → In x (list_of ts) → is_document x ≡ true → In k (keys_of x (c ∷ r)) → In k (keys_of (array ts) (c ∷ r))
keys_of_element ts x k c r h d g =
    let ks = each_collecting (key_collecting nulls) ts (c ∷ r) in
    let ls = collecting_at (key_collecting nulls) ts (index_of c) r in
    in_or_else k (ks ++ ls) nulls (in_left k ks ls (among ts h))
  where
    here : (b : Bool) (ks : List Tree) → b ≡ true → In k ks → In k (cond b ks [])
    here true ks e a = a
    here false ks e a = absurd (let f : ⊥ = cc in f)

    among : (us : Items) → In x (list_of us) → In k (each_collecting (key_collecting nulls) us (c ∷ r))
    among no_items h = absurd h
    among (item u us) (inl e) =
        in_left k (cond (is_document u) (keys_of u (c ∷ r)) []) (each_collecting (key_collecting nulls) us (c ∷ r))
        (subst (λ y. In k (cond (is_document y) (keys_of y (c ∷ r)) [])) e (here (is_document x) (keys_of x (c ∷ r)) d g))
    among (item u us) (inr h) =
        in_right k (cond (is_document u) (keys_of u (c ∷ r)) []) (each_collecting (key_collecting nulls) us (c ∷ r)) (among us h)
