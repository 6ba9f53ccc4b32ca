-- Ranks, and what is among worths.
use Rattle.std.proofs.Common.{◌≡◌, ℕ, zero, suc, ◌+◌, ◌*◌, ◌<◌, ◌≤◌, Bool, true, false, ◌||◌, cond, ℤ, ◌<ℤ◌, ◌≤ℤ◌, List, [], ◌∷◌, ◌++◌, map, length, get_or, refl, sym, ap, ap₂, ◌∙◌, subst, arith, Ordering, Less, Equal, Greater}
use Rattle.std.specs.List.{AllByRecursion as Each, dedup, dedup_from, list_any}
use Rattle.std.specs.List.Sorted.{IsPermutation, IsSortedBy, IsStrictlySortedBy}
use Rattle.std.specs.Ordering.{int_cmp, is_eq, is_lt}
use Rattle.std.proofs.lemmas.Int.{ints, by_lt_z}
use Rattle.std.proofs.lemmas.List.Folds.{list_any-append, list_any_none}
use Rattle.std.proofs.lemmas.List.Sorted.{IsPermutation-map, IsPermutation-to_front, list_any-IsPermutation}
use Rattle.std.specs.Prelude.{OnErr}
use Rattle.std.specs.declared.result.Result.{Result}
use Rattle.std.specs.declared.result.Result.TheVariants.{Ok, Err}
use Rattle.bd_wide_rank.specs.Rank.{is_among, rank, weight, HaveSame, AreDistinct}
use Rattle.bd_wide_rank.proofs.CompareLemmas.{less, greater, alike}

-- ---- the order of two worths

pub is_less : (m n : ℤ) → int_cmp m n ≡ Less → m <ℤ n
is_less m n e = by_lt_z m n (λ (l : m <ℤ n). l)
    (λ (h : n ≤ℤ m). by_lt_z n m
    (λ (l : n <ℤ m). absurd (let no : Less ≡ Greater = sym e ∙ greater m n l in cc))
    (λ (g : m ≤ℤ n). let same : m ≡ n = omega (arith, ints) in absurd (let no : Less ≡ Equal = sym e ∙ ap (int_cmp m) (sym same) ∙ alike m in cc)))

-- numbers that compare as equal are equal
pub is_same : (m n : ℤ) → int_cmp m n ≡ Equal → m ≡ n
is_same m n e = by_lt_z m n
    (λ (l : m <ℤ n). absurd (let no : Equal ≡ Less = sym e ∙ less m n l in cc))
    (λ (h : n ≤ℤ m). by_lt_z n m
    (λ (l : n <ℤ m). absurd (let no : Equal ≡ Greater = sym e ∙ greater m n l in cc))
    (λ (g : m ≤ℤ n). omega (arith, ints)))

pub on_err : {T E P : Type 0} (r : Result T E) → P → OnErr r P
on_err (Ok x) p = tt
on_err (Err e) p = p

-- ---- the same worths

pub same_sym : (vs ws : List ℤ) → HaveSame vs ws → HaveSame ws vs
same_sym vs ws h = λ w. sym (h w)

-- lists with the same worths as a third one have the same worths
pub same_trans : (us vs ws : List ℤ) → HaveSame us vs → HaveSame vs ws → HaveSame us ws
same_trans us vs ws h g = λ w. h w ∙ g w

among_append : (vs ws : List ℤ) (w : ℤ) → is_among (vs ++ ws) w ≡ (is_among vs w || is_among ws w)
among_append vs ws w = list_any-append (λ v. is_eq (int_cmp v w)) vs ws

-- both parts of two lists
pub same_both : (us vs ws xs : List ℤ) → HaveSame us vs → HaveSame ws xs → HaveSame (us ++ ws) (vs ++ xs)
same_both us vs ws xs h g = λ w. among_append us ws w ∙ ap₂ ◌||◌ (h w) (g w) ∙ sym (among_append vs xs w)

swap_or : (a b c : Bool) → (a || (b || c)) ≡ (b || (a || c))
swap_or true true c = refl
swap_or true false c = refl
swap_or false true c = refl
swap_or false false c = refl

-- one more in the second part
pub same_second : (us vs : List ℤ) (x : ℤ) → HaveSame (us ++ x ∷ vs) (x ∷ (us ++ vs))
same_second us vs x = λ w.
    among_append us (x ∷ vs) w ∙ swap_or (is_among us w) (is_eq (int_cmp x w)) (is_among vs w)
    ∙ ap (λ b. is_eq (int_cmp x w) || b) (sym (among_append us vs w))

module _ {E : Type 0} (f : E → ℤ) where
  -- a permutation has the same worths
  pub same_moved : (xs ys : List E) → IsPermutation xs ys → HaveSame (map f ys) (map f xs)
  same_moved xs ys moved = λ w. sym (list_any-IsPermutation (λ v. is_eq (int_cmp v w)) (map f xs) (map f ys) (IsPermutation-map f xs ys moved))

  pub same_pushed : (xs : List E) (x : E) → HaveSame (map f (xs ++ x ∷ [])) (f x ∷ map f xs)
  same_pushed xs x = λ w. sym (same_moved (xs ++ x ∷ []) (x ∷ xs) (IsPermutation-to_front xs x) w)

  module _ (same : E → E → Bool) (means : (x y : E) → same x y ≡ true → f x ≡ f y) where
    twice : (a b c : Bool) → a ≡ b → (a || c) ≡ (a || (b || c))
    twice true b c e = refl
    twice false b c e = sym (ap (λ d. d || c) (sym e))

    dropped : (x k : E) (xs : List E) (w : ℤ) → (b : Bool) → same x k ≡ b
        → is_among (map f (dedup_from same k xs)) w ≡ is_among (map f (k ∷ xs)) w
        → is_among (map f (dedup_from same x xs)) w ≡ is_among (map f (x ∷ xs)) w
        → is_among (map f (cond b (dedup_from same k xs) (k ∷ dedup_from same x xs))) w ≡ is_among (map f (k ∷ x ∷ xs)) w
    dropped x k xs w true e h g = h ∙ twice (is_eq (int_cmp (f k) w)) (is_eq (int_cmp (f x) w)) (is_among (map f xs) w) (ap (λ v. is_eq (int_cmp v w)) (sym (means x k e)))
    dropped x k xs w false e h g = ap (λ b. is_eq (int_cmp (f k) w) || b) g

    from_once : (k : E) (xs : List E) (w : ℤ) → is_among (map f (dedup_from same k xs)) w ≡ is_among (map f (k ∷ xs)) w
    from_once k [] w = refl
    from_once k (x ∷ xs) w = dropped x k xs w (same x k) refl (from_once k xs w) (from_once x xs w)

    -- repeats are dropped
    pub same_once : (xs : List E) → HaveSame (map f (dedup same xs)) (map f xs)
    same_once [] = λ w. refl
    same_once (x ∷ xs) = from_once x xs

  -- ---- ranks

  all_above : (w : ℤ) (xs : List E) → ((k : ℕ) (d : E) → k < length xs → int_cmp (f (get_or xs k d)) w ≡ Greater) → rank (map f xs) w ≡ 0
  all_above w [] above = refl
  all_above w (x ∷ xs) above = ap₂ ◌+◌ (ap weight (above 0 x (omega arith))) (all_above w xs (λ k d l. above (suc k) d (omega arith)))

  -- a worth that is between the i-th and the one before
  pub position_rank : (w : ℤ) (xs : List E) (i : ℕ) → i ≤ length xs → ((k : ℕ) (d : E) → k < i → int_cmp (f (get_or xs k d)) w ≡ Less)
      → ((k : ℕ) (d : E) → i ≤ k → k < length xs → int_cmp (f (get_or xs k d)) w ≡ Greater) → rank (map f xs) w ≡ 2 * i
  position_rank w [] i l below above = let e : i ≡ 0 = omega arith in sym (ap (λ (z : ℕ). 2 * z) e)
  position_rank w (x ∷ xs) zero l below above = all_above w (x ∷ xs) (λ k d h. above k d (omega arith) h)
  position_rank w (x ∷ xs) (suc i) l below above =
      ap₂ ◌+◌ (ap weight (below 0 x (omega arith)))
      (position_rank w xs i (omega arith) (λ k d a. below (suc k) d (omega arith)) (λ k d a b. above (suc k) d (omega arith) (omega arith)))
      ∙ (let e : 2 + 2 * i ≡ 2 * suc i = omega arith in e)

  -- the worth of the i-th
  pub member_rank : (w : ℤ) (xs : List E) (i : ℕ) → i < length xs → ((k : ℕ) (d : E) → k < i → int_cmp (f (get_or xs k d)) w ≡ Less)
      → ((d : E) → int_cmp (f (get_or xs i d)) w ≡ Equal) → ((k : ℕ) (d : E) → i < k → k < length xs → int_cmp (f (get_or xs k d)) w ≡ Greater)
      → rank (map f xs) w ≡ 2 * i + 1
  member_rank w [] i l below at above = absurd (omega arith)
  member_rank w (x ∷ xs) zero l below at above =
      ap₂ ◌+◌ (ap weight (at x)) (all_above w xs (λ k d h. above (suc k) d (omega arith) (omega arith)))
  member_rank w (x ∷ xs) (suc i) l below at above =
      ap₂ ◌+◌ (ap weight (below 0 x (omega arith)))
      (member_rank w xs i (omega arith) (λ k d a. below (suc k) d (omega arith)) at (λ k d a b. above (suc k) d (omega arith) (omega arith)))
      ∙ (let e : 2 + (2 * i + 1) ≡ 2 * suc i + 1 = omega arith in e)

  -- ---- rows that rise

  abbrev pub Rises : List E → Type 0
  Rises xs = (i j : ℕ) (d : E) → i < j → j < length xs → f (get_or xs i d) <ℤ f (get_or xs j d)

  each_at : (P : E → Type 0) (xs : List E) (i : ℕ) (d : E) → Each P xs → i < length xs → P (get_or xs i d)
  each_at P [] i d each l = absurd (omega arith)
  each_at P (x ∷ xs) zero d each l = each.0
  each_at P (x ∷ xs) (suc i) d each l = each_at P xs i d each.1 (omega arith)

  -- in a row that rises strictly each worth is less than all after it
  pub rises : (xs : List E) → IsStrictlySortedBy (λ x y. int_cmp (f x) (f y)) xs → Rises xs
  unfolding IsStrictlySortedBy
  rises [] up i j d l h = absurd (omega arith)
  rises (x ∷ xs) up zero zero d l h = absurd (omega arith)
  rises (x ∷ xs) up zero (suc j) d l h = is_less _ _ (each_at (λ y. int_cmp (f x) (f y) ≡ Less) xs j d up.0 (omega arith))
  rises (x ∷ xs) up (suc i) zero d l h = absurd (omega arith)
  rises (x ∷ xs) up (suc i) (suc j) d l h = rises xs up.1 i j d (omega arith) (omega arith)

  pub sorted : (xs : List E) → Rises xs → IsSortedBy (λ x y. is_lt (int_cmp (f x) (f y))) xs
  sorted xs up = λ k d low high. ap is_lt (greater _ _ (up k (k + 1) d (omega arith) high))

  -- the rank of a member
  pub found_rank : (w : ℤ) (xs : List E) (i : ℕ) → i < length xs → Rises xs → ((d : E) → f (get_or xs i d) ≡ w) → rank (map f xs) w ≡ 2 * i + 1
  found_rank w xs i l up at = member_rank w xs i l
      (λ k d h. less _ _ (subst (λ v. f (get_or xs k d) <ℤ v) (at d) (up k i d h l)))
      (λ d. ap (λ v. int_cmp v w) (at d) ∙ alike w)
      (λ k d h g. greater _ _ (subst (λ v. v <ℤ f (get_or xs k d)) (at d) (up i k d h g)))

  tail_rises : (x : E) (xs : List E) → Rises (x ∷ xs) → Rises xs
  tail_rises x xs up = λ i j d l h. up (suc i) (suc j) d (omega arith) (omega arith)

  among_map : (xs : List E) (w : ℤ) → is_among (map f xs) w ≡ list_any (λ x. is_eq (int_cmp (f x) w)) xs
  among_map [] w = refl
  among_map (x ∷ xs) w = ap (λ b. is_eq (int_cmp (f x) w) || b) (among_map xs w)

  -- a worth that each member differs from is not among them
  pub not_among : (xs : List E) (w : ℤ) → ((k : ℕ) (d : E) → k < length xs → is_eq (int_cmp (f (get_or xs k d)) w) ≡ false) → is_among (map f xs) w ≡ false
  not_among xs w differ = among_map xs w ∙ list_any_none (λ x. is_eq (int_cmp (f x) w)) xs differ

  -- a row that rises, and others that are not in it
  pub distinct_with : (xs : List E) (ws : List ℤ) → Rises xs → ((k : ℕ) (d : E) → k < length xs → is_among ws (f (get_or xs k d)) ≡ false) → AreDistinct ws
      → AreDistinct (map f xs ++ ws)
  distinct_with [] ws up apart once = once
  distinct_with (x ∷ xs) ws up apart once = (
    among_append (map f xs) ws (f x)
        ∙ ap₂ ◌||◌ (not_among xs (f x) (λ k d l. ap is_eq (greater _ _ (up 0 (suc k) d (omega arith) (omega arith))))) (apart 0 x (omega arith)),
    distinct_with xs ws (tail_rises x xs up) (λ k d l. apart (suc k) d (omega arith)) once,
  )

  pub distinct : (xs : List E) → Rises xs → AreDistinct (map f xs)
  distinct [] up = tt
  distinct (x ∷ xs) up = (
    not_among xs (f x) (λ k d l. ap is_eq (greater _ _ (up 0 (suc k) d (omega arith) (omega arith)))),
    distinct xs (tail_rises x xs up),
  )

-- the rank among two lists is the sum of the ranks in each
pub rank_append : (vs ws : List ℤ) (w : ℤ) → rank (vs ++ ws) w ≡ rank vs w + rank ws w
rank_append [] ws w = let e : rank ws w ≡ 0 + rank ws w = omega arith in e
rank_append (v ∷ vs) ws w = ap (λ (n : ℕ). weight (int_cmp v w) + n) (rank_append vs ws w) ∙ (let e : weight (int_cmp v w) + (rank vs w + rank ws w) ≡ weight (int_cmp v w) + rank vs w + rank ws w = omega arith in e)

weight_most : (o : Ordering) → weight o ≤ 2
weight_most Less = omega arith
weight_most Equal = omega arith
weight_most Greater = omega arith

pub rank_most : (ws : List ℤ) (w : ℤ) → rank ws w ≤ 2 * length ws
rank_most [] w = omega arith
rank_most (v ∷ vs) w = omega (arith, weight_most (int_cmp v w), rank_most vs w)
