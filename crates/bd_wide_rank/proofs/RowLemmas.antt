-- The rows of a table: doubles by their keys, and numbers that no double equals.
use Rattle.std.proofs.Common.{◌≡◌, ℕ, zero, suc, ◌+◌, ◌-◌, ◌*◌, ◌<◌, ◌≤◌, Bool, true, false, ℤ, ◌<ℤ◌, List, [], ◌∷◌, ◌++◌, length, get_or, refl, sym, ap, ◌∙◌, subst, arith, Ordering, Less, Equal, Greater, eqb, ⊎_elim}
use Rattle.std.specs.List.{All, dedup}
use Rattle.std.specs.List.Sorted.{IsStrictlyIncreasing, IsStrictlySortedBy}
use Rattle.std.specs.Ordering.{int_cmp, is_eq}
use Rattle.std.proofs.lemmas.List.Kept.{AllPairs-from_increasing}
use Rattle.std.proofs.lemmas.Bool.{cases_lt}
use Rattle.std.proofs.lemmas.Int.{ints}
use Rattle.std.proofs.lemmas.Bool.Decides.{nat_tests}
use Rattle.bd_wide_rank.specs.{Rank.AreDistinct, Rank.HaveSame, Rank.is_among, Rank.rank}
use Rattle.bd_wide_rank.specs.declared.between.Between.{Between}
use Rattle.bd_wide_rank.specs.{Key.key_worth, Key.key_worths, Rows.between_worth, Rows.between_worths}
use Rattle.bd_wide_rank.specs.inside.{Key.IsKey, Key.IsBetween, Rows.between_cmp}
use Rattle.bd_wide_rank.proofs.CompareLemmas.{less, greater}
use Rattle.bd_wide_rank.proofs.KeyLemmas.{above_double, below_double, keys_decide, keys_rise}
use Rattle.bd_wide_rank.proofs.RankLemmas.{Rises, distinct, distinct_with, found_rank, is_same, not_among, position_rank, rises, same_once}

same_default : {E : Type 0} (xs : List E) (k : ℕ) (c d : E) → k < length xs → get_or xs k c ≡ get_or xs k d
same_default [] k c d l = absurd (omega arith)
same_default (x ∷ xs) zero c d l = refl
same_default (x ∷ xs) (suc k) c d l = same_default xs k c d (omega arith)

-- ---- doubles

-- keys that increase are in order
pub keys_up : (keys : List ℕ) → IsStrictlyIncreasing keys → (i j : ℕ) → i ≤ j → j < length keys → get_or keys i 0 ≤ get_or keys j 0
keys_up keys up i j l h = ⊎_elim
    (λ (g : i < j). let r : get_or keys i 0 < get_or keys j 0 = AllPairs-from_increasing keys up i j 0 g h in omega arith)
    (λ (g : j ≤ i). let e : i ≡ j = omega arith in rw e (omega arith))
    (cases_lt i j)

module _ (keys : List ℕ) (are : All IsKey keys) (up : IsStrictlyIncreasing keys) where
  pub keys_row : Rises key_worth keys
  keys_row = λ i j d l h. keys_rise _ _ (are i d (omega arith)) (are j d h) (AllPairs-from_increasing keys up i j d l h)

  -- the rank of a key that is in a row
  pub double_found : (key i : ℕ) → i < length keys → get_or keys i 0 ≡ key → rank (key_worths keys) (key_worth key) ≡ 2 * i + 1
  double_found key i l e = found_rank key_worth (key_worth key) keys i l keys_row (λ d. ap key_worth (same_default keys i d 0 l ∙ e))

  pub double_not_found : (key i : ℕ) → IsKey key → i ≤ length keys → ((k : ℕ) → k < i → get_or keys k 0 < key) → ((k : ℕ) → i ≤ k → k < length keys → key < get_or keys k 0)
      → rank (key_worths keys) (key_worth key) ≡ 2 * i
  double_not_found key i good l below above = position_rank key_worth (key_worth key) keys i l
      (λ k d h. less _ _ (keys_rise _ _ (are k d (omega arith)) good (rw (same_default keys k d 0 (omega arith)) (below k h))))
      (λ k d h g. greater _ _ (keys_rise _ _ good (are k d g) (rw (same_default keys k d 0 g) (above k h g))))

  module _ (key : ℕ) (worth : ℤ) (is : IsBetween key (key + 1) worth) where
    pub up_to : (i : ℕ) → i ≤ length keys → ((k : ℕ) → k < i → get_or keys k 0 ≤ key) → ((k : ℕ) → i ≤ k → k < length keys → key < get_or keys k 0)
        → rank (key_worths keys) worth ≡ 2 * i
    up_to i l below above = position_rank key_worth worth keys i l
        (λ k d h. less _ _ (above_double key worth is _ (are k d (omega arith)) (rw (same_default keys k d 0 (omega arith)) (below k h))))
        (λ k d h g. greater _ _ (below_double key worth is _ (are k d g) (rw (same_default keys k d 0 g) (above k h g))))

    not_above : (i : ℕ) → i < length keys → get_or keys i 0 ≡ key → (k : ℕ) → k < i + 1 → get_or keys k 0 ≤ key
    not_above i l e k h = ⊎_elim
        (λ (g : k < i). let r : get_or keys k 0 < get_or keys i 0 = AllPairs-from_increasing keys up k i 0 g l in omega arith)
        (λ (g : i ≤ k). let f : k ≡ i = omega arith in rw f (omega arith))
        (cases_lt k i)

    -- the rank by the keys beside a place
    pub between_at : (n : ℕ) → n ≤ length keys → (0 < n → get_or keys (n - 1) 0 ≤ key) → (n < length keys → key < get_or keys n 0) → rank (key_worths keys) worth ≡ 2 * n
    between_at n l below above = up_to n l
        (λ k h. let last = below (omega arith) in let r : get_or keys k 0 ≤ get_or keys (n - 1) 0 = keys_up keys up k (n - 1) (omega arith) (omega arith) in omega arith)
        (λ k h g. let next = above (omega arith) in let r : get_or keys n 0 ≤ get_or keys k 0 = keys_up keys up n k h g in omega arith)

    pub between_found : (i : ℕ) → i < length keys → get_or keys i 0 ≡ key → rank (key_worths keys) worth ≡ 2 * i + 2
    between_found i l e =
        up_to (i + 1) (omega arith) (λ k h. not_above i l e k h) (λ k h g. let r : get_or keys i 0 < get_or keys k 0 = AllPairs-from_increasing keys up i k 0 (omega arith) g in omega arith)
        ∙ (let s : 2 * (i + 1) ≡ 2 * i + 2 = omega arith in s)

    pub between_not_found : (i : ℕ) → i ≤ length keys → ((k : ℕ) → k < i → get_or keys k 0 < key) → ((k : ℕ) → i ≤ k → k < length keys → key < get_or keys k 0)
        → rank (key_worths keys) worth ≡ 2 * i
    between_not_found i l below above = up_to i l (λ k h. let b = below k h in omega arith) above

-- what is left of doubles in order
pub keys_once : (xs ys : List ℕ) → ys ≡ dedup eqb xs → HaveSame (key_worths ys) (key_worths xs)
keys_once xs ys e = subst (λ zs. HaveSame (key_worths zs) (key_worths xs)) (sym e)
    (same_once key_worth eqb (λ x y h. ap key_worth (let same : x ≡ y = grind (arith, nat_tests) in same)) xs)

-- ---- numbers that no double equals

abbrev pub are_alike : Between → Between → Bool
are_alike a b = is_eq (between_cmp a b)

equal_from : (o : Ordering) → is_eq o ≡ true → o ≡ Equal
equal_from Equal e = refl
equal_from Less e = absurd (let no : false ≡ true = e in cc)
equal_from Greater e = absurd (let no : false ≡ true = e in cc)

pub numbers_once : (xs ys : List Between) → ys ≡ dedup are_alike xs → HaveSame (between_worths ys) (between_worths xs)
numbers_once xs ys e = subst (λ zs. HaveSame (between_worths zs) (between_worths xs)) (sym e)
    (same_once between_worth are_alike (λ x y h. is_same _ _ (equal_from (between_cmp x y) h)) xs)

module _ (bs : List Between) (up : IsStrictlySortedBy between_cmp bs) (key : ℕ) (good : IsKey key) where
  abbrev key_at : ℕ → Between → ℕ
  key_at i d = let b = get_or bs i d in b.key

  -- numbers in order have keys in order
  keys_follow : (i j : ℕ) (d : Between) → i ≤ j → j < length bs → key_at i d ≤ key_at j d
  keys_follow i j d l h =
      let a = get_or bs i d in
      let b = get_or bs j d in
      ⊎_elim
      (λ (g : b.key < a.key). ⊎_elim
      (λ (k : i < j).
      let p : between_worth b <ℤ between_worth a = keys_decide b.key a.key _ _ b.between a.between g in
      let q : between_worth a <ℤ between_worth b = rises between_worth bs up i j d k h in absurd (omega (arith, ints)))
      (λ (k : j ≤ i). let e : i ≡ j = omega arith in let f : a.key ≡ b.key = ap (λ (n : ℕ). key_at n d) e in omega arith)
      (cases_lt i j))
      (λ (g : a.key ≤ b.key). g)
      (cases_lt b.key a.key)

  -- the rank of a double by the keys beside a place
  pub double_at : (n : ℕ) → n ≤ length bs → (0 < n → (d : Between) → key_at (n - 1) d < key) → (n < length bs → (d : Between) → key ≤ key_at n d)
      → rank (between_worths bs) (key_worth key) ≡ 2 * n
  double_at n l below above = position_rank between_worth (key_worth key) bs n l
      (λ k d h. let b = get_or bs k d in let last = below (omega arith) d in let r : key_at k d ≤ key_at (n - 1) d = keys_follow k (n - 1) d (omega arith) (omega arith) in
      less _ _ (below_double b.key (between_worth b) b.between key good (omega arith)))
      (λ k d h g. let b = get_or bs k d in let next = above (omega arith) d in let r : key_at n d ≤ key_at k d = keys_follow n k d h g in
      greater _ _ (above_double b.key (between_worth b) b.between key good (omega arith)))

-- ---- both

apart : (bs : List Between) (key : ℕ) → IsKey key → is_among (between_worths bs) (key_worth key) ≡ false
apart bs key good = not_among between_worth bs (key_worth key) (λ k d l. differs (get_or bs k d))
  where
    differs : (b : Between) → is_eq (int_cmp (between_worth b) (key_worth key)) ≡ false
    differs b = ⊎_elim
        (λ (l : b.key < key). ap is_eq (less _ _ (below_double b.key (between_worth b) b.between key good l)))
        (λ (h : key ≤ b.key). ap is_eq (greater _ _ (above_double b.key (between_worth b) b.between key good h)))
        (cases_lt b.key key)

-- no worth is twice in two rows that rise strictly, one of doubles and one of other numbers
pub rows_distinct : (keys : List ℕ) → All IsKey keys → IsStrictlyIncreasing keys → (bs : List Between) → IsStrictlySortedBy between_cmp bs
    → AreDistinct (key_worths keys ++ between_worths bs)
rows_distinct keys are up bs rise = distinct_with key_worth keys (between_worths bs) (keys_row keys are up)
    (λ k d l. apart bs (get_or keys k d) (are k d l)) (distinct between_worth bs (rises between_worth bs rise))
