-- The steps of the batch function.
use Rattle.std.proofs.Common.{◌≡◌, ◌≢◌, eqb, ◌+◌, ◌<◌, ℕ, Bool, true, false, cond, List, [], ◌∷◌, ◌++◌, length, get_or, inl, inr, sym, ap, ◌∙◌, subst, filter, arith, suc, Option, ◌-◌, ◌≤◌}
use Rattle.std.proofs.Common.{◌&&◌, refl, zero, Some, None}
use Rattle.std.proofs.lemmas.Bool.{eqb-false, eq-eqb, ne_eqb, cases_eq, and_parts, and_from, and_right, cases_lt, le-ltb, lt-ltb}
use Rattle.std.proofs.lemmas.List.Sorted.{ranks_by, sorted_far, Contains-permutation, IsPermutation-sym}
use Rattle.std.proofs.lemmas.Map.Keys.{IsDistinct-IsPermutation, IsDistinct-from_apart, apart_from_distinct}
use Rattle.std.proofs.{lemmas.Cmp.nat_cmp_total, lemmas.Cmp.then_total, lemmas.List.append_assoc, lemmas.List.Elements.All-tail, Math.Bool.and-true}
use Rattle.std.specs.{List.All, List.AllPairs, List.range_with_len, List.Sorted.IsPermutation, List.Sorted.IsSortedBy, Cmp.IsTotalOrder, Cmp.IsStrictWeakOrder, Ordering.ordering_then}
use Rattle.std.specs.{Ordering.nat_cmp, Ordering.is_lt, declared.cmp.Ordering.Ordering, declared.cmp.Ordering.TheVariants.Equal, declared.cmp.Ordering.TheVariants.Greater}
use Rattle.bd_cursor_model.specs.Source.{IsSource, passes, is_after, places_after, scan_law}
use Rattle.bd_cursor_model.specs.{Answer.Selection, Answer.before, Answer.ordered, Laws.IsStrictOrder, Laws.IsAscending}
use Rattle.bd_cursor_model.proofs.OrderLemmas.{in_at, In, Rises, Apart, in_filter, filter_in, filter_apart, filter_rises, other_way, same_rising, filter_all, range_in}
use Rattle.bd_cursor_model.proofs.AnswerLemmas.{before_strict, in_ordered, ordered_in, ordered_rises, contains_in, in_contains, rises_ascending}

pub taken_more : (test : ℕ → Bool) (found old new all : List ℕ) (p : ℕ) → old ≡ p ∷ new → found ++ filter test old ≡ all → test p ≡ true → (found ++ p ∷ []) ++ filter test new ≡ all
taken_more test found old new all p e fact h = append_assoc found (p ∷ []) (filter test new)
    ∙ ap (λ b. found ++ cond b (p ∷ filter test new) (filter test new)) (sym h) ∙ ap (λ ps. found ++ filter test ps) (sym e) ∙ fact

pub omitted_more : (test : ℕ → Bool) (found old new all : List ℕ) (p : ℕ) → old ≡ p ∷ new → found ++ filter test old ≡ all → test p ≡ false → found ++ filter test new ≡ all
omitted_more test found old new all p e fact h = ap (λ b. found ++ cond b (p ∷ filter test new) (filter test new)) (sym h) ∙ ap (λ ps. found ++ filter test ps) (sym e) ∙ fact

-- if all document numbers are below n, so are those after the first
pub below_more : (n : ℕ) (old new : List ℕ) (p : ℕ) → old ≡ p ∷ new → All (λ x. x < n) old → All (λ x. x < n) new
below_more n old new p e h = All-tail (λ x. x < n) p new (subst (λ ps. All (λ x. x < n) ps) e h)

-- lists without repeats
pub pairs_apart : (xs : List ℕ) → AllPairs (λ x y. x ≢ y) xs → Apart xs
pairs_apart [] h = tt
pairs_apart (x ∷ xs) h = (λ i. let r = in_contains xs x i in h 0 (suc r.0) x (omega arith) (omega arith) (sym r.2), pairs_apart xs (λ i j d a b. h (suc i) (suc j) d (omega arith) (omega arith)))

apart_at : (xs : List ℕ) → Apart xs → (i j d : ℕ) → i < j → j < length xs → get_or xs i d ≢ get_or xs j d
apart_at [] h i j d a b e = absurd (omega arith)
apart_at (x ∷ xs) h i zero d a b e = absurd (omega arith)
apart_at (x ∷ xs) h zero (suc j) d a b e = h.0 (subst (λ y. In y xs) (sym e) (in_at xs j d (omega arith)))
apart_at (x ∷ xs) h (suc i) (suc j) d a b e = apart_at xs h.1 i j d (omega arith) (omega arith) e

flips : (x y : ℕ) → eqb x y ≡ eqb y x
flips x y = elim (cases_eq x y) [ inl e ↦ eq-eqb x y e ∙ sym (eq-eqb y x (sym e)) | inr e ↦ ne_eqb x y e ∙ sym (ne_eqb y x (λ k. e (sym k))) ]

-- a list without repeats has none in another order
pub permuted_apart : (xs ys : List ℕ) → IsPermutation xs ys → Apart xs → Apart ys
permuted_apart xs ys p h = pairs_apart ys (λ i j d a b. eqb-false (get_or ys i d) (get_or ys j d) (apart_from_distinct eqb ys i j d
    (IsDistinct-IsPermutation eqb flips xs ys p (IsDistinct-from_apart eqb xs (λ i j d a b. ne_eqb (get_or xs i d) (get_or xs j d) (apart_at xs h i j d a b)))) a b))

pub permuted_in : (xs ys : List ℕ) → IsPermutation xs ys → (x : ℕ) → In x xs → In x ys
permuted_in xs ys p x h = contains_in ys x (Contains-permutation xs ys x p (in_contains xs x h))

-- sorted lists
pub ascending_rises : (lt : ℕ → ℕ → Bool) (xs : List ℕ) → IsAscending lt xs → Rises lt xs
ascending_rises lt [] h = tt
ascending_rises lt (x ∷ xs) h = (
  λ y i. let r = in_contains xs y i in subst (λ z. lt x z ≡ true) r.2 (h 0 (suc r.0) y (omega arith) (omega arith)),
  ascending_rises lt xs (λ i j d a b. h (suc i) (suc j) d (omega arith) (omega arith)),
)

sorted_tail : (lt : ℕ → ℕ → Bool) (x : ℕ) (xs : List ℕ) → IsSortedBy lt (x ∷ xs) → IsSortedBy lt xs
sorted_tail lt x xs h k d a b =
    let e : suc k + 1 ≡ suc (k + 1) = omega arith in
    subst (λ n. lt (get_or (x ∷ xs) n d) (get_or xs k d) ≡ false) e (h (suc k) d (omega arith) (omega arith))

-- a sorted list without repeats is ascending
pub sorted_rises : (lt : ℕ → ℕ → Bool) → IsStrictOrder lt → IsStrictWeakOrder lt → (xs : List ℕ) → IsSortedBy lt xs → Apart xs → Rises lt xs
sorted_rises lt o w [] h a = tt
sorted_rises lt o w (x ∷ xs) h a = (
  λ y i.
      let r = in_contains xs y i in
      let e : lt y x ≡ false = subst (λ z. lt z x ≡ false) r.2 (sorted_far lt w (x ∷ xs) h 0 (suc r.0) y (omega arith) (omega arith)) in
      other_way o y x (λ k. a.0 (subst (λ z. In z xs) k i)) e,
  sorted_rises lt o w xs (sorted_tail lt x xs h) a.1,
)

-- what a source returns, in order, is what the definition says
before_weak : (by : ℕ → ℕ → Ordering) → IsTotalOrder by → IsStrictWeakOrder (before by)
before_weak by o =
    let w : IsTotalOrder (λ i j. ordering_then (by i j) (nat_cmp i j)) = then_total o nat_cmp_total in
    ranks_by w (λ (x : ℕ). x)

after_rises : (a : Selection) → IsTotalOrder a.by → (after : Option ℕ) → Rises (before a.by) (places_after a after)
after_rises a o after = filter_rises (before a.by) (is_after (before a.by) after) (ordered a) (ordered_rises a o)

to_definition : (a : Selection) (ps : List ℕ) → IsSource a.count a.matches_at ps → (after : Option ℕ) (p : ℕ) → In p (filter (passes a.matches_at a.by after) ps) → In p (places_after a after)
to_definition a ps s after p h =
    let r = filter_in (passes a.matches_at a.by after) ps p h in
    let t = and_parts (a.matches_at p) (is_after (before a.by) after p) r.1 in
    let c = in_contains ps p r.0 in
    let below : p < a.count = subst (λ z. z < a.count) c.2 (s.below c.0 p c.1) in
    in_filter (is_after (before a.by) after) (ordered a) p (in_ordered a p below t.0) t.1

from_definition : (a : Selection) (ps : List ℕ) → IsSource a.count a.matches_at ps → (after : Option ℕ) (p : ℕ) → In p (places_after a after) → In p (filter (passes a.matches_at a.by after) ps)
from_definition a ps s after p h =
    let r = filter_in (is_after (before a.by) after) (ordered a) p h in
    let t = ordered_in a p r.0 in
    in_filter (passes a.matches_at a.by after) ps p (contains_in ps p (s.complete p t.0 t.1)) (and_from (a.matches_at p) (is_after (before a.by) after p) t.1 r.1)

-- the matches of a source that is in order, after a document number, are the answer after it
pub batch_in_order : (a : Selection) → IsTotalOrder a.by → (ps : List ℕ) → IsSource a.count a.matches_at ps → IsAscending (before a.by) ps
    → (after : Option ℕ) → filter (passes a.matches_at a.by after) ps ≡ places_after a after
batch_in_order a o ps s up after =
    same_rising (before_strict a.by o) _ _ (filter_rises (before a.by) (passes a.matches_at a.by after) ps (ascending_rises (before a.by) ps up))
    (after_rises a o after) (to_definition a ps s after) (from_definition a ps s after)

pub batch_sorted : (a : Selection) → IsTotalOrder a.by → (ps : List ℕ) → IsSource a.count a.matches_at ps → (after : Option ℕ) (xs : List ℕ)
    → IsPermutation (filter (passes a.matches_at a.by after) ps) xs → IsSortedBy (before a.by) xs → xs ≡ places_after a after
batch_sorted a o ps s after xs moved up =
    let fs = filter (passes a.matches_at a.by after) ps in
    let apart = permuted_apart fs xs moved (filter_apart (passes a.matches_at a.by after) ps (pairs_apart ps s.distinct)) in
    same_rising (before_strict a.by o) _ _ (sorted_rises (before a.by) (before_strict a.by o) (before_weak a.by o) xs up apart) (after_rises a o after)
    (λ p h. to_definition a ps s after p (permuted_in xs fs (IsPermutation-sym fs xs moved) p h))
    (λ p h. permuted_in fs xs moved p (from_definition a ps s after p h))

-- all sort keys are equal
abbrev pub IsUnsorted : Selection → Type 0
IsUnsorted a = (p q : ℕ) → a.by p q ≡ Equal

before_lower : (a : Selection) → IsUnsorted a → (p q : ℕ) → p < q → before a.by p q ≡ true
before_lower a u p q l = rw (u p q, lt-ltb p q l) refl

not_before : (a : Selection) → IsUnsorted a → (p q : ℕ) → q ≤ p → before a.by p q ≡ false
not_before a u p q l = rw (u p q, le-ltb p q l) (elim (eqb p q) as (λ b. is_lt (ordering_then Equal (cond b Equal Greater)) ≡ false) [ true ↦ refl | false ↦ refl ])

range_rises : (a : Selection) → IsUnsorted a → (k n : ℕ) → Rises (before a.by) (range_with_len k n)
range_rises a u k zero = tt
range_rises a u k (suc n) = (λ y h. let r = range_in (k + 1) n y h in before_lower a u k y (omega arith), range_rises a u (k + 1) n)

range_is_source : (a : Selection) → IsSource a.count a.matches_at (range_with_len 0 a.count)
range_is_source a = let e : a.count - 0 ≡ a.count = omega arith in let s = scan_law (record { next = 0; count = a.count }) a.count a.matches_at (refl, refl) in rw e at s

of_range : (a : Selection) → IsTotalOrder a.by → IsUnsorted a → (last : Option ℕ) → filter (passes a.matches_at a.by last) (range_with_len 0 a.count) ≡ places_after a last
of_range a o u last = batch_in_order a o (range_with_len 0 a.count) (range_is_source a) (rises_ascending (before a.by) (range_with_len 0 a.count) (range_rises a u 0 a.count)) last

-- tests that agree on the members
pub filter_same : (f g : ℕ → Bool) (xs : List ℕ) → ((x : ℕ) → In x xs → f x ≡ g x) → filter f xs ≡ filter g xs
filter_same f g [] h = refl
filter_same f g (x ∷ xs) h = rw (h x (inl refl)) (ap (λ ys. cond (g x) (x ∷ ys) ys) (filter_same f g xs (λ y i. h y (inr i))))

-- after None comes the whole answer
pub all_places : (a : Selection) → places_after a None ≡ ordered a
all_places a = filter_all (λ p. true) (ordered a) (λ x h. refl)

-- without a sort the answer is the matches in file order
pub unsorted_ordered : (a : Selection) → IsTotalOrder a.by → IsUnsorted a → ordered a ≡ filter a.matches_at (range_with_len 0 a.count)
unsorted_ordered a o u =
    sym (all_places a) ∙ sym (of_range a o u None) ∙ filter_same (passes a.matches_at a.by None) a.matches_at (range_with_len 0 a.count) (λ x h. and-true (a.matches_at x))

-- the places after another place
later : (a : Selection) → IsUnsorted a → (last k n : ℕ) → last < k → filter (passes a.matches_at a.by (Some last)) (range_with_len k n) ≡ filter a.matches_at (range_with_len k n)
later a u last k n l =
    filter_same (passes a.matches_at a.by (Some last)) a.matches_at (range_with_len k n)
    (λ x h. let r = range_in k n x h in let b = before_lower a u last x (omega arith) in rw b (and-true (a.matches_at x)))

after_last : (a : Selection) → IsUnsorted a → (last k n : ℕ) → k ≤ last + 1
    → filter (passes a.matches_at a.by (Some last)) (range_with_len k n) ≡ filter a.matches_at (range_with_len (last + 1) (k + n - (last + 1)))
after_last a u last k zero l = let e : k + 0 - (last + 1) ≡ 0 = omega arith in rw e refl
after_last a u last k (suc n) l = elim (cases_lt last k) [
  | inl h ↦
      let e : k ≡ last + 1 = omega arith in
      let m : suc n ≡ k + suc n - (last + 1) = omega arith in
      later a u last k (suc n) h ∙ ap (λ i. filter a.matches_at (range_with_len i (suc n))) e ∙ ap (λ i. filter a.matches_at (range_with_len (last + 1) i)) m
  | inr h ↦
      let b : (a.matches_at k && before a.by last k) ≡ false = and_right (a.matches_at k) (before a.by last k) (not_before a u last k h) in
      let e : (k + 1) + n - (last + 1) ≡ k + suc n - (last + 1) = omega arith in
      ap (λ c. cond c (k ∷ filter (passes a.matches_at a.by (Some last)) (range_with_len (k + 1) n)) (filter (passes a.matches_at a.by (Some last)) (range_with_len (k + 1) n))) b
      ∙ after_last a u last (k + 1) n (omega arith) ∙ ap (λ m. filter a.matches_at (range_with_len (last + 1) m)) e
]

pub unsorted_after : (a : Selection) → IsTotalOrder a.by → IsUnsorted a → (last : ℕ) → filter (before a.by last) (ordered a) ≡ filter a.matches_at (range_with_len (last + 1) (a.count - (last + 1)))
unsorted_after a o u last = sym (of_range a o u (Some last)) ∙ after_last a u last 0 a.count (omega arith)
    ∙ ap (λ m. filter a.matches_at (range_with_len (last + 1) m)) (let e : 0 + a.count - (last + 1) ≡ a.count - (last + 1) = omega arith in e)
