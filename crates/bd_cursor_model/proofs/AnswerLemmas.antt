-- The order of places, and the answer in that order.
use Rattle.std.proofs.Common.{◌≡◌, ◌==◌, ◌-◌, ◌<◌, ◌≤◌, ℕ, Bool, true, false, List, [], ◌∷◌, get_or, take, drop, inl, inr, refl, sym, ap, subst, arith, zero, suc, Ordering, nat_cmp, ◌+◌}
use Rattle.std.proofs.Common.{cond, ◌++◌, length, filter, ◌∙◌, min, sum, Option, Some, None}
use Rattle.std.proofs.lemmas.List.{drop-drop, drop-take, take_all, append-nil, get_or-drop, get_or-take, length-take, length-drop}
use Rattle.std.proofs.{lemmas.Bool.cases_lt, lemmas.Bool.cond_both, lemmas.Bool.lt-ltb, lemmas.Cmp.nat_cmp_total, lemmas.Cmp.then_total, lemmas.Cmp.tied_itself, lemmas.List.Sums.sum_by-cons}
use Rattle.std.proofs.{Math.Seq.take-add}
use Rattle.std.specs.{Ordering.ordering_then, Ordering.ordering_reverse, Ordering.is_lt, declared.cmp.Ordering.TheVariants.Less, declared.cmp.Ordering.TheVariants.Equal, Cmp.IsTotalOrder}
use Rattle.std.specs.{List.range_with_len, List.Contains, List.concat}
use Rattle.bd_cursor_model.specs.Answer.{before, Selection, matching, ordered, limited, answer, Position, batches, is_empty, rest}
use Rattle.bd_cursor_model.specs.{Session.PositionedToken, Session.given_by, Session.remaining_after, Laws.IsStrictOrder, Laws.IsAscending, Laws.IsPositionAfter}
use Rattle.bd_cursor_model.proofs.OrderLemmas.{In, Rises, in_filter, filter_in, filter_apart, in_range, range_in, range_apart, in_insert_all, insert_all_in, insert_all_rises, in_at, filter_twice}
use Rattle.bd_cursor_model.proofs.OrderLemmas.{filter_rises, after_member}

lt_less : (o : Ordering) → is_lt o ≡ true → o ≡ Less
lt_less Less e = refl
lt_less _ e = let g : ⊥ = cc in absurd g

not_lower : (x y : ℕ) → is_lt (nat_cmp x y) ≡ false → y ≤ x
not_lower x y a = elim (cases_lt x y) [ inl h ↦ (let g : ⊥ = cc (rw (lt-ltb x y h) at a) in absurd g) | inr h ↦ h ]

tied : (x y : ℕ) (p q : Ordering) → p ≡ ordering_reverse q → is_lt (ordering_then p (nat_cmp x y)) ≡ false → is_lt (ordering_then q (nat_cmp y x)) ≡ false → x ≡ y
tied x y Equal Equal e a b = let h = not_lower x y a in let k = not_lower y x b in omega arith
tied x y Less _ e a b = let g : ⊥ = cc in absurd g
tied x y _ Less e a b = let g : ⊥ = cc in absurd g
tied x y _ _ e a b = let g : ⊥ = cc in absurd g

-- the order of an answer, ties in file order, is a strict total order
pub before_strict : (by : ℕ → ℕ → Ordering) → IsTotalOrder by → IsStrictOrder (before by)
before_strict by o =
    let w : IsTotalOrder (λ i j. ordering_then (by i j) (nat_cmp i j)) = then_total o nat_cmp_total in
    record {
      irreflexive = λ x. ap is_lt (tied_itself w x);
      transitive = λ x y z a b. ap is_lt (w.trans x y z (lt_less _ a) (lt_less _ b));
      connected = λ x y a b. tied x y (by x y) (by y x) (o.antisymm x y) a b;
    }

-- the matches
pub in_matching : (a : Selection) (p : ℕ) → p < a.count → a.matches_at p ≡ true → In p (matching a)
in_matching a p h e = in_filter a.matches_at (range_with_len 0 a.count) p (in_range 0 a.count p (omega arith) (omega arith)) e

pub matching_in : (a : Selection) (p : ℕ) → In p (matching a) → (p < a.count) × (a.matches_at p ≡ true)
matching_in a p h =
    let r = filter_in a.matches_at (range_with_len 0 a.count) p h in
    let s = range_in 0 a.count p r.0 in
    (omega arith, r.1)

-- each document that matches is among the ordered documents
pub in_ordered : (a : Selection) (p : ℕ) → p < a.count → a.matches_at p ≡ true → In p (ordered a)
in_ordered a p h e = in_insert_all (before a.by) [] (matching a) p (inr (in_matching a p h e))

-- each of the ordered documents is one of the dump, and matches
pub ordered_in : (a : Selection) (p : ℕ) → In p (ordered a) → (p < a.count) × (a.matches_at p ≡ true)
ordered_in a p h = elim (insert_all_in (before a.by) [] (matching a) p h) [ inl b ↦ absurd b | inr b ↦ matching_in a p b ]

-- each of the ordered documents comes before all later ones
pub ordered_rises : (a : Selection) → IsTotalOrder a.by → Rises (before a.by) (ordered a)
ordered_rises a o = insert_all_rises (before_strict a.by o) [] (matching a) (filter_apart a.matches_at (range_with_len 0 a.count) (range_apart 0 a.count)) (λ x h g. h) tt

-- membership by index
pub contains_in : (xs : List ℕ) (x : ℕ) → Contains xs x → In x xs
contains_in xs x h = subst (λ y. In y xs) h.2 (in_at xs h.0 x h.1)

-- a list contains its members
pub in_contains : (xs : List ℕ) (x : ℕ) → In x xs → Contains xs x
in_contains [] x h = absurd h
in_contains (y ∷ ys) x (inl e) = (0, omega arith, sym e)
in_contains (y ∷ ys) x (inr h) = let r = in_contains ys x h in (suc r.0, omega arith, r.2)

-- a list in which each member comes before all later ones is ascending
pub rises_ascending : (lt : ℕ → ℕ → Bool) (xs : List ℕ) → Rises lt xs → IsAscending lt xs
rises_ascending lt [] h i j d a b = absurd (omega arith)
rises_ascending lt (x ∷ xs) h i zero d a b = absurd (omega arith)
rises_ascending lt (x ∷ xs) h zero (suc j) d a b = h.0 (get_or xs j d) (in_at xs j d (omega arith))
rises_ascending lt (x ∷ xs) h (suc i) (suc j) d a b = rises_ascending lt xs h.1 i j d (omega arith) (omega arith)

pub drop_rises : (lt : ℕ → ℕ → Bool) (n : ℕ) (xs : List ℕ) → Rises lt xs → Rises lt (drop n xs)
drop_rises lt zero xs h = h
drop_rises lt (suc n) [] h = tt
drop_rises lt (suc n) (x ∷ xs) h = drop_rises lt n xs h.1

take_in : (n : ℕ) (xs : List ℕ) (x : ℕ) → In x (take n xs) → In x xs
take_in zero xs x h = absurd h
take_in (suc n) [] x h = absurd h
take_in (suc n) (y ∷ ys) x (inl e) = inl e
take_in (suc n) (y ∷ ys) x (inr h) = inr (take_in n ys x h)

-- the first n of an ascending list are ascending
pub take_rises : (lt : ℕ → ℕ → Bool) (n : ℕ) (xs : List ℕ) → Rises lt xs → Rises lt (take n xs)
take_rises lt zero xs h = tt
take_rises lt (suc n) [] h = tt
take_rises lt (suc n) (x ∷ xs) h = (λ y e. h.0 y (take_in n xs y e), take_rises lt n xs h.1)

pub limited_rises : (lt : ℕ → ℕ → Bool) (limit old : ℕ) (xs : List ℕ) → Rises lt xs → Rises lt (limited limit old xs)
limited_rises lt limit old xs h = cond_both (limit == 0) xs (take (limit - old) xs) (Rises lt) (λ e. h) (λ e. take_rises lt (limit - old) xs h)

pub answer_rises : (a : Selection) → IsTotalOrder a.by → Rises (before a.by) (answer a)
answer_rises a o = limited_rises (before a.by) a.limit 0 (drop a.skip (ordered a)) (drop_rises (before a.by) a.skip (ordered a) (ordered_rises a o))

sum-cons : (n : ℕ) (ns : List ℕ) → sum (n ∷ ns) ≡ n + sum ns
sum-cons n ns = sum_by-cons (λ x. x) n ns

no_length : (xs : List ℕ) → is_empty xs ≡ true → length xs ≡ 0
no_length [] e = refl
no_length (x ∷ xs) e = let g : ⊥ = cc in absurd g

pub nothing_remaining : (n : ℕ) (xs : List ℕ) → is_empty (drop n xs) ≡ true → length xs ≤ n
nothing_remaining n xs e = let h = no_length (drop n xs) e in omega (arith, length-drop n xs)

pub batches_joined : (ps sizes : List ℕ) → concat (batches ps sizes) ≡ take (sum sizes) ps
batches_joined ps [] = refl
batches_joined ps (n ∷ ns) = rw (sum-cons n ns) (cond_both (is_empty (drop n ps)) [] (batches (drop n ps) ns) (λ zs. take n ps ++ concat zs ≡ take (n + sum ns) ps)
    (λ e. let h = nothing_remaining n ps e in append-nil (take n ps) ∙ take_all n ps (omega arith) ∙ sym (take_all (n + sum ns) ps (omega arith)))
    (λ e. ap (λ zs. take n ps ++ zs) (batches_joined (drop n ps) ns) ∙ sym (take-add n (sum ns) ps)))

-- a limit, applied after some documents were returned
pub limited_length : (limit old : ℕ) (xs : List ℕ) (k : ℕ) → k ≤ length (limited limit old xs) → k ≤ length xs
limited_length limit old xs k h = cond_both (limit == 0) xs (take (limit - old) xs) (λ ys. k ≤ length ys → k ≤ length xs)
    (λ e h. h) (λ e h. omega (arith, length-take (limit - old) xs)) h

pub limited_get : (limit old : ℕ) (xs : List ℕ) (i d : ℕ) → i < length (limited limit old xs) → get_or (limited limit old xs) i d ≡ get_or xs i d
limited_get limit old xs i d h = cond_both (limit == 0) xs (take (limit - old) xs) (λ ys. i < length ys → get_or ys i d ≡ get_or xs i d)
    (λ e h. refl) (λ e h. get_or-take (limit - old) xs i d (omega (arith, length-take (limit - old) xs))) h

pub limited_drop : (limit most old k : ℕ) (xs : List ℕ) → limit ≤ most → k ≤ length (limited limit old xs) → limited limit (min most (old + k)) (drop k xs) ≡ drop k (limited limit old xs)
limited_drop limit most old k xs l h = go (limit == 0) refl h
  where
    go : (b : Bool) → (limit == 0) ≡ b → k ≤ length (cond b xs (take (limit - old) xs))
        → cond b (drop k xs) (take (limit - min most (old + k)) (drop k xs)) ≡ drop k (cond b xs (take (limit - old) xs))
    go true e g = refl
    go false e g =
        let s : k ≤ limit - old = omega (arith, length-take (limit - old) xs) in
        let m : limit - old ≡ k + (limit - min most (old + k)) = omega arith in
        sym (ap (λ n. drop k (take n xs)) m ∙ drop-take k (limit - min most (old + k)) xs)

-- ---- the rest that follows from a position

-- what comes after the i-th member of a list without its first n
after_dropped : {lt : ℕ → ℕ → Bool} → IsStrictOrder lt → (xs : List ℕ) → Rises lt xs → (n i d : ℕ) → i < length (drop n xs) → filter (lt (get_or (drop n xs) i d)) xs ≡ drop (i + 1) (drop n xs)
after_dropped {lt = lt} o xs up n i d l =
    let h : n + i < length xs = omega (arith, length-drop n xs) in
    ap (λ x. filter (lt x) xs) (get_or-drop n xs i d) ∙ after_member o xs up (n + i) d h ∙ ap (λ k. drop k xs) (let e : suc (n + i) ≡ n + (i + 1) = omega arith in e) ∙ sym (drop-drop (i + 1) n xs)

-- what comes after the i-th member of those that follow a place
after_filtered : {lt : ℕ → ℕ → Bool} → IsStrictOrder lt → (xs : List ℕ) → Rises lt xs → (p i d : ℕ) → i < length (filter (lt p) xs)
    → filter (lt (get_or (filter (lt p) xs) i d)) xs ≡ drop (i + 1) (filter (lt p) xs)
after_filtered {lt = lt} o xs up p i d l =
    let ys = filter (lt p) xs in
    let q = get_or ys i d in
    let later : lt p q ≡ true = (filter_in (lt p) xs q (in_at ys i d l)).1 in
    sym (filter_twice (lt p) (lt q) xs (λ x h. o.transitive p q x later h)) ∙ after_member o ys (filter_rises lt (lt p) xs up) i d l ∙ ap (λ k. drop k ys) (let e : suc i ≡ i + 1 = omega arith in e)

-- the rest of a list, from a position in it
from_position : (a : Selection) → (xs : List ℕ) → ((i d : ℕ) → i < length xs → filter (before a.by (get_or xs i d)) (ordered a) ≡ drop (i + 1) xs)
    → (most old k : ℕ) (t : Position) → a.limit ≤ most → IsPositionAfter most old k (limited a.limit old xs) t → rest a t ≡ drop k (limited a.limit old xs)
from_position a xs after most old k t l m =
    let some : 0 < k = m.0 in
    let few : k ≤ length (limited a.limit old xs) = m.1 in
    let one : k - 1 + 1 ≡ k = omega arith in
    let last : t.last ≡ get_or xs (k - 1) 0 = m.3 0 ∙ limited_get a.limit old xs (k - 1) 0 (omega arith) in
    let inside : k - 1 < length xs = let n = limited_length a.limit old xs k few in omega arith in
    let on : filter (before a.by t.last) (ordered a) ≡ drop k xs = ap (λ p. filter (before a.by p) (ordered a)) last ∙ after (k - 1) 0 inside ∙ ap (λ n. drop n xs) one in
    ap (λ n. limited a.limit n (filter (before a.by t.last) (ordered a))) m.2 ∙ ap (λ ys. limited a.limit (min most (old + k)) ys) on ∙ limited_drop a.limit most old k xs l few

-- the rest after a position is what remains after the documents up to it
pub rest_follows : (a : Selection) → IsTotalOrder a.by → (most : ℕ) → a.limit ≤ most → (t : Option PositionedToken) (k : ℕ) (m : Position)
    → IsPositionAfter most (given_by t) k (remaining_after a t) m → rest a m ≡ drop k (remaining_after a t)
rest_follows a o most l None k m =
    from_position a (drop a.skip (ordered a)) (λ i d h. after_dropped (before_strict a.by o) (ordered a) (ordered_rises a o) a.skip i d h) most 0 k m l
rest_follows a o most l (Some t) k m = from_position a (filter (before a.by t.position.last) (ordered a))
    (λ i d h. after_filtered (before_strict a.by o) (ordered a) (ordered_rises a o) t.position.last i d h) most t.position.given k m l
