-- The indexes of values in a list, and a binary search of them.
use Rattle.std.proofs.Common.{◌≡◌, ◌≤◌, ◌<◌, ◌+◌, ℕ, zero, suc, Bool, false, ◌||◌, List, [], ◌∷◌, length, map, get_or, Result, Ok, Err, arith, refl, sym, ap, ◌∙◌, add-one}
use Rattle.std.specs.{Cmp.IsTotalOrder, List.list_any, List.range_with_len, Ordering.is_eq, Ordering.ordering_reverse, Result.is_ok, declared.cmp.Ordering.Ordering}
use Rattle.std.specs.List.Sorted.{IsBinarySearchResult, IsPermutation, IsSearchInRange, IsSortedByKey}
use Rattle.std.specs.{declared.cmp.Ordering.TheVariants.Less, declared.cmp.Ordering.TheVariants.Equal, declared.cmp.Ordering.TheVariants.Greater}
use Rattle.std.proofs.{Math.Bool.Bool-set, Math.Logic.∥∥₁_elim, lemmas.List.Folds.list_any_at, lemmas.List.Folds.list_any_none, lemmas.List.Sorted.list_any-IsPermutation}
use Rattle.std.proofs.{lemmas.List.Sorted.searchable_from_sorted}
use Rattle.bd_value.specs.{Tree.Tree, View.tree_of, declared.document.Value.Value}
use Rattle.bd_query_filter.specs.inside.Indexes.{tree_at}

-- some image passes a test exactly if some member does whose image passes it
pub any_mapped : {A B : Type 0} (f : B → Bool) (h : A → B) (xs : List A) → list_any f (map h xs) ≡ list_any (λ x. f (h x)) xs
any_mapped f h [] = refl
any_mapped f h (x ∷ xs) = ap (λ b. f (h x) || b) (any_mapped f h xs)

pub any_alike : {A : Type 0} (f g : A → Bool) → ((x : A) → f x ≡ g x) → (xs : List A) → list_any f xs ≡ list_any g xs
any_alike f g is [] = refl
any_alike f g is (x ∷ xs) = rw (is x, any_alike f g is xs) refl

-- ---- a test of values, by their indexes

-- indexes after one more value
any_moved : (test : ℕ → Bool) (a n : ℕ) → list_any test (range_with_len (a + 1) n) ≡ list_any (λ i. test (i + 1)) (range_with_len a n)
any_moved test a zero = refl
any_moved test a (suc n) = ap (λ b. test (a + 1) || b) (any_moved test (a + 1) n)

any_index : (test : Tree → Bool) (vs : List Value) → list_any (λ i. test (tree_at vs i)) (range_with_len 0 (length vs)) ≡ list_any test (map tree_of vs)
any_index test [] = refl
any_index test (v ∷ vs) =
    ap (λ b. test (tree_of v) || b)
    (any_moved (λ i. test (tree_at (v ∷ vs) i)) 0 (length vs)
    ∙ any_alike (λ i. test (tree_at (v ∷ vs) (i + 1))) (λ i. test (tree_at vs i)) (λ i. rw add-one refl) (range_with_len 0 (length vs))
    ∙ any_index test vs)

-- the indexes in another order
pub any_of_indexes : (test : Tree → Bool) (vs : List Value) (indexes : List ℕ) → ∥ IsPermutation (range_with_len 0 (length vs)) indexes ∥₁
    → list_any (λ i. test (tree_at vs i)) indexes ≡ list_any test (map tree_of vs)
any_of_indexes test vs indexes all =
    ∥∥₁_elim all (Bool-set _ _) (λ (same : IsPermutation (range_with_len 0 (length vs)) indexes). sym (list_any-IsPermutation (λ i. test (tree_at vs i)) _ indexes same))
    ∙ any_index test vs

-- ---- a binary search

eq_of_reverse : (o : Ordering) → is_eq (ordering_reverse o) ≡ is_eq o
eq_of_reverse Less = refl
eq_of_reverse Equal = refl
eq_of_reverse Greater = refl

ties_back : {K : Type 0} (R : K → K → Ordering) → IsTotalOrder R → (x y : K) (o : Ordering) → R y x ≡ o → is_eq (R x y) ≡ is_eq o
ties_back R total x y o is = ap is_eq (total.antisymm x y) ∙ eq_of_reverse (R y x) ∙ ap is_eq is

-- it finds an index that ties with x, if there is one
pub found_as_any : {K : Type 0} (R : K → K → Ordering) → IsTotalOrder R → (key : ℕ → K) (indexes : List ℕ) (x : K) (r : Result ℕ ℕ)
    → IsSortedByKey key R indexes → IsSearchInRange r (length indexes) → IsBinarySearchResult (λ i. R (key i) x) indexes r
    → is_ok r ≡ list_any (λ i. is_eq (R x (key i))) indexes
found_as_any R total key indexes x (Ok k) up within at =
    sym (list_any_at (λ i. is_eq (R x (key i))) indexes k 0 within (ties_back R total x (key (get_or indexes k 0)) Equal (at 0)))
found_as_any R total key indexes x (Err n) up within parted =
    let split = parted (searchable_from_sorted total key indexes x up) in
    sym (list_any_none (λ i. is_eq (R x (key i))) indexes (λ k d l.
    let below : k < n → is_eq (R x (key (get_or indexes k d))) ≡ false = λ h. ties_back R total x (key (get_or indexes k d)) Less (split.0 k d (omega arith) h) in
    let above : n ≤ k → is_eq (R x (key (get_or indexes k d))) ≡ false = λ h. ties_back R total x (key (get_or indexes k d)) Greater (split.1 k d h l) in
    grind (arith, below, above)))
