-- Entries that were sorted and freed of repeats are the entries of the documents.
use Rattle.std.proofs.Common.{◌≡◌, ◌+◌, ℕ, suc, Bool, true, false, cond, List, [], ◌∷◌, ◌++◌, filter, length}
use Rattle.std.proofs.Common.{get_or, map, refl, sym, ap, ap₂, ◌∙◌, arith, eq-eqb}
use Rattle.std.proofs.{Math.Path.fun_ext, lemmas.Bool.false_from_ne_true, lemmas.Bool.not-false, lemmas.Bool.Decides.nat_tests}
use Rattle.std.proofs.{lemmas.Cmp.on_equiv, lemmas.List.Folds.fold-map, lemmas.List.Sums.length-filter, lemmas.List.Sums.sum_by-cons}
use Rattle.std.specs.Prelude.{◌&&◌, ◌||◌, nat_lt, not}
use Rattle.std.specs.{Cmp.IsEquivalence, List.Sorted.IsStableBy, List.Sorted.ties, Ordering.is_lt, Ordering.on}
use Rattle.std.specs.List.{All, count_by, dedup, dedup_from, list_any}
use Rattle.std.proofs.lemmas.List.Elements.{All-cons, All-filter, All-from_recursion, All-head, All-tail, filter-append, filter_agree}
use Rattle.bd_value.specs.{Order.equal, Tree.Tree}
use Rattle.bd_path.specs.Key.{distinct}
use Rattle.bd_path.proofs.DistinctLemmas.{equal_laws, filter_both}
use Rattle.bd_index.specs.{Entries.KeyAt, Entries.entry_cmp, inside.Entries.is_same_entry, Entries.keys_at, inside.IndexView.found_entry, declared.entry.FoundKey.FoundKey}
use Rattle.bd_index.proofs.EntryLemmas.{Ascends, all_pass, any_by_count, any_filter, same_between, same_laws, ties_are_same}

-- ---- filters

filter_view : {A B : Type 0} (f : A → B) (p : B → Bool) (xs : List A) → filter p (map f xs) ≡ map f (filter (λ x. p (f x)) xs)
filter_view f p [] = refl
filter_view f p (x ∷ xs) = grind (arith, filter_view f p xs)

count_filter : {A : Type 0} (t p : A → Bool) (xs : List A) → count_by t (filter p xs) ≡ count_by (λ x. p x && t x) xs
count_filter t p xs = sym (length-filter t (filter p xs)) ∙ ap length (filter_both t p xs) ∙ length-filter (λ x. p x && t x) xs

-- a list split at its first member that passes: this is x, and `rest` are the later ones that pass
record Taken {A : Type 0} (p : A → Bool) (x : A) (rest ys : List A) : Type 0 where
  prefix : List A
  back : List A
  is : ys ≡ prefix ++ x ∷ back
  none : filter p prefix ≡ []
  remaining : filter p back ≡ rest

taken : {A : Type 0} (p : A → Bool) (x : A) (rest ys : List A) → filter p ys ≡ x ∷ rest → Taken p x rest ys
taken p x rest [] h = absurd cc
taken {A} p x rest (y ∷ ys) h = go (p y) refl h (taken p x rest ys)
  where
    go : (b : Bool) → p y ≡ b → cond b (y ∷ filter p ys) (filter p ys) ≡ x ∷ rest → (filter p ys ≡ x ∷ rest → Taken p x rest ys) → Taken p x rest (y ∷ ys)
    go true e g on = let same : y ≡ x = cc in record { prefix = []; back = ys; is = ap (λ (z : A). z ∷ ys) same; none = refl; remaining = cc }
    go false e g on = let s = on g in record { prefix = y ∷ s.prefix; back = s.back; is = ap (λ (l : List A). y ∷ l) s.is; none = rw e s.none; remaining = s.remaining }

-- ---- of members that are the same, the first

abbrev pub firsts : {A : Type 0} → (A → A → Bool) → List A → List A
firsts same [] = []
firsts same (x ∷ xs) = x ∷ filter (λ y. not (same x y)) (firsts same xs)

pub firsts_map : {A B : Type 0} (f : A → B) (same : B → B → Bool) (xs : List A) → map f (firsts (on f same) xs) ≡ firsts same (map f xs)
firsts_map f same [] = refl
firsts_map {A} {B} f same (x ∷ xs) =
    ap (λ (l : List B). f x ∷ l) (sym (filter_view f (λ y. not (same (f x) y)) (firsts (on f same) xs)) ∙ ap (filter (λ y. not (same (f x) y))) (firsts_map f same xs))

pub all_firsts : {A : Type 0} (same : A → A → Bool) (P : A → Type 0) (xs : List A) → All P xs → All P (firsts same xs)
all_firsts same P [] all = all
all_firsts same P (x ∷ xs) all = All-cons P x _ (All-head P x xs all) (All-filter _ P (firsts same xs) (all_firsts same P xs (All-tail P x xs all)))

-- a test that x does not pass loses nothing if the members that are the same as x are dropped
pub any_firsts : {A : Type 0} (same : A → A → Bool) (t : A → Bool) → ((x y : A) → t x ≡ false → (not (same x y) && t y) ≡ t y) → (xs : List A) → list_any t (firsts same xs) ≡ list_any t xs
any_firsts same t apart [] = refl
any_firsts {A} same t apart (x ∷ xs) = go (t x) refl (any_firsts same t apart xs)
  where
    go : (b : Bool) → t x ≡ b → list_any t (firsts same xs) ≡ list_any t xs → (b || list_any t (filter (λ y. not (same x y)) (firsts same xs))) ≡ (b || list_any t xs)
    go true e h = refl
    go false e h = any_filter t (λ y. not (same x y)) (firsts same xs) ∙ ap (λ (p : A → Bool). list_any p (firsts same xs)) (fun_ext (λ y. apart x y e)) ∙ h

absorbed : (b c : Bool) → b ≡ c → (not c && not b) ≡ not b
absorbed b c e = grind arith

module _ {A : Type 0} (same : A → A → Bool) (laws : IsEquivalence same) where
  -- the first of its class counts once
  count_first : (prefix back : List A) (x : A) (t : A → Bool) → filter (same x) prefix ≡ []
      → count_by t (firsts same (prefix ++ x ∷ back)) ≡ cond (t x) 1 0 + count_by (λ y. not (same x y) && t y) (firsts same (prefix ++ back))
  count_first [] back x t none =
      sum_by-cons (λ (y : A). cond (t y) 1 0) x (filter (λ y. not (same x y)) (firsts same back))
      ∙ ap (λ (n : ℕ). cond (t x) 1 0 + n) (count_filter t (λ y. not (same x y)) (firsts same back))
  count_first (f ∷ prefix) back x t none = go (same x f) refl none (λ u n. count_first prefix back x u n)
    where
      all : List A
      all = firsts same (prefix ++ x ∷ back)

      rest : List A
      rest = firsts same (prefix ++ back)

      go : (b : Bool) → same x f ≡ b → cond b (f ∷ filter (same x) prefix) (filter (same x) prefix) ≡ []
          → ((u : A → Bool) → filter (same x) prefix ≡ [] → count_by u all ≡ cond (u x) 1 0 + count_by (λ y. not (same x y) && u y) rest)
          → count_by t (f ∷ filter (λ y. not (same f y)) all) ≡ cond (t x) 1 0 + count_by (λ y. not (same x y) && t y) (f ∷ filter (λ y. not (same f y)) rest)
      go true e n on = absurd cc
      go false e n on =
          let a = sum_by-cons (λ (y : A). cond (t y) 1 0) f (filter (λ y. not (same f y)) all) in
          let b = count_filter t (λ y. not (same f y)) all in
          let c = rw (laws.symm f x ∙ e) at (on (λ y. not (same f y) && t y) n) in
          let d = rw e at (sum_by-cons (λ (y : A). cond (not (same x y) && t y) 1 0) f (filter (λ y. not (same f y)) rest)) in
          let g = count_filter (λ y. not (same x y) && t y) (λ y. not (same f y)) rest in
          let swap : (λ (y : A). not (same x y) && (not (same f y) && t y)) ≡ (λ (y : A). not (same f y) && (not (same x y) && t y)) = fun_ext (λ y. grind arith) in
          let h = ap (λ (u : A → Bool). count_by u rest) swap in
          omega (arith, a, b, c, d, g, h)

  one_class : (e x : A) (xs : List A) → same e x ≡ true → filter (same e) xs ≡ filter (same x) xs
  one_class e x xs h = filter_agree (same e) (same x) (λ y. laws.congr e x y h) xs

  -- each class, without x
  class_remaining : (x e : A) (xs ys : List A) (s : Taken (same x) x (filter (same x) xs) ys) → filter (same e) ys ≡ filter (same e) (x ∷ xs)
      → filter (same e) (s.prefix ++ s.back) ≡ filter (same e) xs
  class_remaining x e xs ys s h = filter-append (same e) s.prefix s.back ∙ go (same e x) refl (sym (filter-append (same e) s.prefix (x ∷ s.back)) ∙ ap (filter (same e)) (sym s.is) ∙ h)
    where
      go : (b : Bool) → same e x ≡ b → filter (same e) s.prefix ++ cond b (x ∷ filter (same e) s.back) (filter (same e) s.back) ≡ cond b (x ∷ filter (same e) xs) (filter (same e) xs)
          → filter (same e) s.prefix ++ filter (same e) s.back ≡ filter (same e) xs
      go true is g = ap₂ (λ (k l : List A). k ++ l) (one_class e x s.prefix is ∙ s.none) (one_class e x s.back is ∙ s.remaining ∙ sym (one_class e x xs is))
      go false is g = g

  -- if two lists have the same classes, equally many firsts of both pass a test
  pub as_many_firsts : (xs ys : List A) → ((x : A) → filter (same x) ys ≡ filter (same x) xs) → (t : A → Bool) → count_by t (firsts same ys) ≡ count_by t (firsts same xs)
  as_many_firsts [] [] alike t = refl
  as_many_firsts [] (y ∷ ys) alike t = let e = rw (laws.refl y) at (alike y) in absurd cc
  as_many_firsts (x ∷ xs) ys alike t =
      let s = taken (same x) x (filter (same x) xs) ys (rw (laws.refl x) at (alike x)) in
      let u : A → Bool = λ y. not (same x y) && t y in
      ap (λ (l : List A). count_by t (firsts same l)) s.is ∙ count_first s.prefix s.back x t s.none
      ∙ ap (λ (n : ℕ). cond (t x) 1 0 + n) (as_many_firsts xs (s.prefix ++ s.back) (λ e. class_remaining x e xs ys s (alike e)) u)
      ∙ sym (count_first [] xs x t refl)

-- ---- sorted found keys without repeats are the firsts

-- whether the entry of a found key comes before that of another
abbrev pub found_lt : FoundKey → FoundKey → Bool
found_lt a b = is_lt (entry_cmp (found_entry a) (found_entry b))

abbrev pub found_same : FoundKey → FoundKey → Bool
found_same = on found_entry is_same_entry

abbrev pub repeats : FoundKey → FoundKey → Bool
repeats next last = found_same last next

found_laws : IsEquivalence found_same
found_laws = on_equiv found_entry same_laws

after_one : (k : FoundKey) (xs : List FoundKey) → Ascends found_lt (k ∷ xs) → dedup_from repeats k xs ≡ k ∷ filter (λ y. not (found_same k y)) (firsts found_same xs)
after_one k [] up = refl
after_one k (x ∷ xs) up = go (found_same k x) refl (after_one k xs (up.0.1, up.1.1)) (after_one x xs up.1)
  where
    all : List FoundKey
    all = firsts found_same xs

    rest : List FoundKey
    rest = filter (λ y. not (found_same x y)) all

    other : (e : FoundKey) → found_same k x ≡ false → found_lt e x ≡ false → not (found_same k e) ≡ true
    other e n above = ap not (false_from_ne_true (found_same k e) (λ h. let f = same_between (found_entry k) (found_entry x) (found_entry e) h up.0.0 above in cc))

    go : (b : Bool) → found_same k x ≡ b → dedup_from repeats k xs ≡ k ∷ filter (λ y. not (found_same k y)) all → dedup_from repeats x xs ≡ x ∷ rest
        → cond b (dedup_from repeats k xs) (k ∷ dedup_from repeats x xs) ≡ k ∷ cond (not b) (x ∷ filter (λ y. not (found_same k y)) rest) (filter (λ y. not (found_same k y)) rest)
    go true s on after =
        on ∙ ap (λ (l : List FoundKey). k ∷ l) (sym (filter_both _ (λ y. not (found_same x y)) all
        ∙ filter_agree _ _ (λ y. absorbed (found_same k y) (found_same x y) (found_laws.congr k x y s)) all))
    go false s on after =
        ap (λ (l : List FoundKey). k ∷ l) (after ∙ ap (λ (l : List FoundKey). x ∷ l) (sym (all_pass (λ y. not (found_same k y)) rest (λ i d lt. other (get_or rest i d) s
        (All-filter (λ y. not (found_same x y)) (λ y. found_lt y x ≡ false) all (all_firsts found_same (λ y. found_lt y x ≡ false) xs (All-from_recursion _ xs up.1.0)) i d lt)))))

once_sorted : (xs : List FoundKey) → Ascends found_lt xs → dedup repeats xs ≡ firsts found_same xs
once_sorted [] up = refl
once_sorted (x ∷ xs) up = after_one x xs up

-- ---- distinct keys are the firsts

distinct_firsts : (ks : List Tree) → distinct ks ≡ firsts equal ks
distinct_firsts [] = refl
distinct_firsts (k ∷ ks) = ap (λ (l : List Tree). k ∷ filter (λ x. not (equal k x)) l) (distinct_firsts ks)

firsts_at : (place : ℕ) (ks : List Tree) → firsts is_same_entry (keys_at place ks) ≡ keys_at place (distinct ks)
firsts_at place ks =
    sym (firsts_map (λ k. (k, place)) is_same_entry ks)
    ∙ ap (keys_at place) (ap (λ (b : Bool). firsts (λ x y. b && equal x y) ks) (eq-eqb place place refl) ∙ sym (distinct_firsts ks))

-- there are two distinct keys if one is not equal to the first
pub several : (ks : List Tree) (k : Tree) (ts : List Tree) → ks ≡ k ∷ ts → nat_lt 1 (length (distinct ks)) ≡ list_any (λ t. not (equal k t)) ts
several ks k ts is =
    let others : Tree → Bool = λ t. not (equal k t) in
    ap (λ (l : List Tree). nat_lt 1 (length l)) (ap distinct is ∙ distinct_firsts (k ∷ ts))
    ∙ one_less (length (filter others (firsts equal ts))) ∙ ap (nat_lt 0) (length-filter others (firsts equal ts)) ∙ sym (any_by_count others (firsts equal ts))
    ∙ any_firsts equal others (λ x y h. absorbed (equal k y) (equal x y) (equal_laws.congr k x y (not-false (equal k x) h))) ts
  where
    one_less : (n : ℕ) → nat_lt 1 (suc n) ≡ nat_lt 0 n
    one_less n = grind (arith, nat_tests)

-- ---- the keys of a document, sorted and without repeats

pub document_keys_once : (place : ℕ) (ks : List Tree) (document_keys sorted : List FoundKey) → map found_entry document_keys ≡ keys_at place ks
    → Ascends found_lt sorted → IsStableBy found_lt document_keys sorted → (test : KeyAt → Bool)
    → count_by test (map found_entry (dedup repeats sorted)) ≡ count_by test (keys_at place (distinct ks))
document_keys_once place ks document_keys sorted is up stable test =
    ap (λ (fs : List FoundKey). count_by test (map found_entry fs)) (once_sorted sorted up)
    ∙ visited (firsts found_same sorted)
    ∙ as_many_firsts found_same found_laws document_keys sorted (λ f. classes f sorted ∙ stable f ∙ sym (classes f document_keys)) (λ f. test (found_entry f))
    ∙ sym (visited (firsts found_same document_keys))
    ∙ ap (count_by test) (firsts_map found_entry is_same_entry document_keys ∙ ap (firsts is_same_entry) is ∙ firsts_at place ks)
  where
    visited : (fs : List FoundKey) → count_by test (map found_entry fs) ≡ count_by (λ f. test (found_entry f)) fs
    visited fs = fold-map (λ (n : ℕ) (e : KeyAt). n + cond (test e) 1 0) found_entry 0 fs

    classes : (f : FoundKey) (fs : List FoundKey) → filter (found_same f) fs ≡ filter (ties found_lt f) fs
    classes f fs = filter_agree _ _ (λ g. sym (ties_are_same (found_entry f) (found_entry g))) fs
