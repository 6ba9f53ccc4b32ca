-- What is found over documents: the matches in their stable order, from skip on, up to limit; and a collection split into parts.
use Rattle.std.proofs.Common.{◌≡◌, ◌≢◌, ◌==◌, ◌+◌, ◌-◌, ◌<◌, ◌≤◌, ℕ, Bool, true, false, cond, List, [], ◌∷◌, ◌++◌, length, take, drop, map, inl, inr, refl, sym, ap, ◌∙◌, filter, arith, zero}
use Rattle.std.proofs.Common.{suc, Option, Some, Ordering, nat_cmp, add-zero, append_assoc, take-take, subst}
use Rattle.std.proofs.lemmas.List.Elements.{All-cons, All-head, All-nil, All-tail, All-take, filter-append, filter_passes}
use Rattle.std.proofs.{lemmas.Bool.cond_both, lemmas.Bool.le-ltb, lemmas.Bool.ne_eqb, lemmas.List.drop-map, lemmas.List.drop-take, lemmas.List.take-map, lemmas.List.MinMax.ranks_by}
use Rattle.std.proofs.{lemmas.Option.slice_get_cases}
use Rattle.std.specs.{Prelude.slice_get, Cmp.IsTotalOrder, List.All, List.cons_option, List.filter_map, List.flat_map, List.range_with_len, Option.option_cmp, Ordering.ordering_then}
use Rattle.std.specs.{Ordering.is_lt, declared.cmp.Ordering.TheVariants.Less, declared.cmp.Ordering.TheVariants.Equal, declared.cmp.Ordering.TheVariants.Greater}
use Rattle.bd_cursor_model.specs.Laws.{DocumentRequest, IsEnough, found_in, matches_some, part_request, selection_over, IsSelectionOf}
use Rattle.bd_cursor_model.specs.Answer.{insert, insert_all, before, ordered, answer, limited, Selection, matching}
use Rattle.bd_cursor_model.proofs.OrderLemmas.{In, insert_in, filter_in, range_in}
use Rattle.bd_cursor_model.proofs.{StableLemmas.stable, StableLemmas.stretch_all, StableLemmas.stretch_take, SourceLemmas.filter_same}

-- the strict order of an ordering
abbrev earlier : {A : Type 0} → (A → A → Ordering) → A → A → Bool
earlier by x y = is_lt (by x y)

-- from skip on, up to limit
abbrev window : {A : Type 0} → ℕ → ℕ → List A → List A
window limit skip xs = cond (limit == 0) (drop skip xs) (take (limit - 0) (drop skip xs))

-- if p is the higher place, p comes before q by the sort keys alone
after_higher : (by : ℕ → ℕ → Ordering) (p q : ℕ) → q < p → before by p q ≡ is_lt (by p q)
after_higher by p q l =
    let e : nat_cmp p q ≡ Greater = (let n : p ≡ q → ⊥ = λ k. absurd (omega arith) in rw (le-ltb p q (omega arith), ne_eqb p q n) refl) in
    ap (λ o. is_lt (ordering_then (by p q) o)) e ∙ go (by p q)
  where
    go : (o : Ordering) → is_lt (ordering_then o Greater) ≡ is_lt o
    go Less = refl
    go Equal = refl
    go Greater = refl

-- to insert places is to insert the documents there
module _ {B : Type 0} (at : ℕ → B) (by : B → B → Ordering) where
  abbrev lower : ℕ → ℕ → Bool
  lower = before (λ i j. by (at i) (at j))

  map_insert : (p : ℕ) (qs : List ℕ) → ((q : ℕ) → In q qs → q < p) → map at (insert lower p qs) ≡ insert (earlier by) (at p) (map at qs)
  map_insert p [] h = refl
  map_insert p (q ∷ qs) h =
      let e : lower p q ≡ earlier by (at p) (at q) = after_higher (λ i j. by (at i) (at j)) p q (h q (inl refl)) in
      rw e (elim (earlier by (at p) (at q)) as (λ b. map at (cond b (p ∷ q ∷ qs) (q ∷ insert lower p qs)) ≡ cond b (at p ∷ at q ∷ map at qs) (at q ∷ insert (earlier by) (at p) (map at qs))) [
        | true ↦ refl
        | false ↦ ap (λ zs. at q ∷ zs) (map_insert p qs (λ z i. h z (inr i)))
      ])

  map_insert_all : (test : B → Bool) (k n : ℕ) (kept : List ℕ) → ((q : ℕ) → In q kept → q < k)
      → map at (insert_all lower kept (filter (λ i. test (at i)) (range_with_len k n))) ≡ insert_all (earlier by) (map at kept) (filter test (map at (range_with_len k n)))
  map_insert_all test k zero kept h = refl
  map_insert_all test k (suc n) kept h =
      let places = filter (λ i. test (at i)) (range_with_len (k + 1) n) in
      let values = filter test (map at (range_with_len (k + 1) n)) in
      elim (test (at k)) as (λ b. map at (insert_all lower kept (cond b (k ∷ places) places)) ≡ insert_all (earlier by) (map at kept) (cond b (at k ∷ values) values)) [
        | true ↦
            map_insert_all test (k + 1) n (insert lower k kept) (λ q i. elim (insert_in lower k kept q i) [ inl e ↦ omega arith | inr e ↦ (let f = h q e in omega arith) ])
            ∙ ap (λ zs. insert_all (earlier by) zs values) (map_insert k kept h)
        | false ↦ map_insert_all test (k + 1) n kept (λ q i. let f = h q i in omega arith)
      ]

-- the documents of a collection, by their places
map_places : {A : Type 0} (at : ℕ → Option A) (k : ℕ) (ds : List A) → ((i : ℕ) → at (k + i) ≡ slice_get ds i) → map at (range_with_len k (length ds)) ≡ map (λ d. Some d) ds
map_places at k [] h = refl
map_places at k (d ∷ ds) h =
    let first : at k ≡ Some d = ap at (sym (add-zero k)) ∙ h 0 in
    ap (λ o. o ∷ map at (range_with_len (k + 1) (length ds))) first
    ∙ ap (λ zs. Some d ∷ zs) (map_places at (k + 1) ds (λ i. let e : k + 1 + i ≡ k + suc i = omega arith in ap at e ∙ h (suc i)))

filter_somes : {A : Type 0} (test : A → Bool) (ds : List A) → filter (matches_some test) (map (λ d. Some d) ds) ≡ map (λ d. Some d) (filter test ds)
filter_somes test [] = refl
filter_somes test (d ∷ ds) = rw (filter_somes test ds) (elim (test d) as (λ b. cond b (Some d ∷ map (λ d. Some d) (filter test ds)) (map (λ d. Some d) (filter test ds))
    ≡ map (λ d. Some d) (cond b (d ∷ filter test ds) (filter test ds))) [ true ↦ refl | false ↦ refl ])

put_somes : {A : Type 0} (by : A → A → Ordering) (x : A) (ys : List A) → insert (earlier (option_cmp by)) (Some x) (map (λ d. Some d) ys) ≡ map (λ d. Some d) (insert (earlier by) x ys)
put_somes by x [] = refl
put_somes by x (y ∷ ys) = rw (put_somes by x ys) (elim (earlier by x y) as (λ b. cond b (Some x ∷ Some y ∷ map (λ d. Some d) ys) (Some y ∷ map (λ d. Some d) (insert (earlier by) x ys))
    ≡ map (λ d. Some d) (cond b (x ∷ y ∷ ys) (y ∷ insert (earlier by) x ys))) [ true ↦ refl | false ↦ refl ])

put_all_somes : {A : Type 0} (by : A → A → Ordering) (kept xs : List A)
    → insert_all (earlier (option_cmp by)) (map (λ d. Some d) kept) (map (λ d. Some d) xs) ≡ map (λ d. Some d) (insert_all (earlier by) kept xs)
put_all_somes by kept [] = refl
put_all_somes by kept (x ∷ xs) = ap (λ zs. insert_all (earlier (option_cmp by)) zs (map (λ d. Some d) xs)) (put_somes by x kept) ∙ put_all_somes by (insert (earlier by) x kept) xs

map_ordered : {A : Type 0} (r : DocumentRequest A) (ds : List A) → map (slice_get ds) (ordered (selection_over r ds)) ≡ map (λ d. Some d) (stable (earlier r.by) (filter r.matches ds))
map_ordered r ds =
    map_insert_all (slice_get ds) (option_cmp r.by) (matches_some r.matches) 0 (length ds) [] (λ q h. absurd h)
    ∙ ap (λ zs. insert_all (earlier (option_cmp r.by)) [] (filter (matches_some r.matches) zs)) (map_places (slice_get ds) 0 ds (λ i. let e : 0 + i ≡ i = omega arith in ap (slice_get ds) e))
    ∙ ap (insert_all (earlier (option_cmp r.by)) []) (filter_somes r.matches ds)
    ∙ put_all_somes r.by [] (filter r.matches ds)

-- skip and limit, over places and over documents
map_limited : {B : Type 0} (at : ℕ → B) (limit skip : ℕ) (ps : List ℕ) → map at (limited limit 0 (drop skip ps)) ≡ window limit skip (map at ps)
map_limited at limit skip ps = rw (drop-map at skip ps, take-map at (limit - 0) (drop skip ps))
    (elim (limit == 0) as (λ b. map at (cond b (drop skip ps) (take (limit - 0) (drop skip ps))) ≡ cond b (map at (drop skip ps)) (map at (take (limit - 0) (drop skip ps))))
    [ true ↦ refl | false ↦ refl ])

window_map : {A B : Type 0} (f : A → B) (limit skip : ℕ) (xs : List A) → window limit skip (map f xs) ≡ map f (window limit skip xs)
window_map f limit skip xs = rw (drop-map f skip xs, take-map f (limit - 0) (drop skip xs))
    (elim (limit == 0) as (λ b. cond b (map f (drop skip xs)) (map f (take (limit - 0) (drop skip xs))) ≡ map f (cond b (drop skip xs) (take (limit - 0) (drop skip xs))))
    [ true ↦ refl | false ↦ refl ])

filter_map_maps : {A B : Type 0} (at : A → Option B) (ps : List A) → filter_map at ps ≡ filter_map (λ o. o) (map at ps)
filter_map_maps at [] = refl
filter_map_maps at (p ∷ ps) = ap (cons_option (at p)) (filter_map_maps at ps)

filter_map_somes : {A : Type 0} (xs : List A) → filter_map (λ o. o) (map (λ d. Some d) xs) ≡ xs
filter_map_somes [] = refl
filter_map_somes (x ∷ xs) = ap (λ zs. x ∷ zs) (filter_map_somes xs)

found_is : {A : Type 0} (r : DocumentRequest A) (ds : List A) → found_in r ds ≡ window r.limit r.skip (stable (earlier r.by) (filter r.matches ds))
found_is r ds =
    let xs = stable (earlier r.by) (filter r.matches ds) in
    filter_map_maps (slice_get ds) (answer (selection_over r ds))
    ∙ ap (filter_map (λ o. o)) (map_limited (slice_get ds) r.limit r.skip (ordered (selection_over r ds)) ∙ ap (window r.limit r.skip) (map_ordered r ds) ∙ window_map (λ d. Some d) r.limit r.skip xs)
    ∙ filter_map_somes (window r.limit r.skip xs)

-- ---- parts

abbrev Passes : {A : Type 0} → (A → Bool) → A → Type 0
Passes test x = test x ≡ true

put_passes : {A : Type 0} (test : A → Bool) (lt : A → A → Bool) (x : A) (ys : List A) → test x ≡ true → All (Passes test) ys → All (Passes test) (insert lt x ys)
put_passes test lt x [] e h = All-cons (Passes test) x [] e h
put_passes test lt x (y ∷ ys) e h = cond_both (lt x y) (x ∷ y ∷ ys) (y ∷ insert lt x ys) (All (Passes test)) (λ f. All-cons (Passes test) x (y ∷ ys) e h)
    (λ f. All-cons (Passes test) y (insert lt x ys) (All-head (Passes test) y ys h) (put_passes test lt x ys e (All-tail (Passes test) y ys h)))

put_all_passes : {A : Type 0} (test : A → Bool) (lt : A → A → Bool) (kept xs : List A) → All (Passes test) kept → All (Passes test) xs → All (Passes test) (insert_all lt kept xs)
put_all_passes test lt kept [] h g = h
put_all_passes test lt kept (x ∷ xs) h g =
    put_all_passes test lt (insert lt x kept) xs (put_passes test lt x kept (All-head (Passes test) x xs g) h) (All-tail (Passes test) x xs g)

stable_passes : {A : Type 0} (test : A → Bool) (lt : A → A → Bool) (xs : List A) → All (Passes test) (stable lt (filter test xs))
stable_passes test lt xs = put_all_passes test lt [] (filter test xs) (All-nil (Passes test)) (filter_passes test xs)

filter_passing : {A : Type 0} (test : A → Bool) (xs : List A) → All (Passes test) xs → filter test xs ≡ xs
filter_passing test [] h = refl
filter_passing test (x ∷ xs) h =
    let first : test x ≡ true = All-head (Passes test) x xs h in rw first (ap (λ ys. x ∷ ys) (filter_passing test xs (All-tail (Passes test) x xs h)))

-- lists that are equal up to the end of the window
window_same : {A : Type 0} (limit skip n : ℕ) (xs ys : List A) → limit ≢ 0 → skip + limit ≤ n → take n xs ≡ take n ys → window limit skip xs ≡ window limit skip ys
window_same limit skip n xs ys some enough e =
    let l : limit - 0 ≡ limit = omega arith in
    let z = ne_eqb limit 0 some in
    let f : take (skip + limit) xs ≡ take (skip + limit) ys = sym (take-take (skip + limit) n xs enough) ∙ ap (take (skip + limit)) e ∙ take-take (skip + limit) n ys enough in
    rw (z, l) (sym (drop-take skip limit xs) ∙ ap (drop skip) f ∙ drop-take skip limit ys)

filter_three : {A : Type 0} (test : A → Bool) (xs ys zs : List A) → filter test (xs ++ (ys ++ zs)) ≡ filter test xs ++ (filter test ys ++ filter test zs)
filter_three test xs ys zs = filter-append test xs (ys ++ zs) ∙ ap (λ ws. filter test xs ++ ws) (filter-append test ys zs)

-- what is found in three stretches
found_three : {A : Type 0} (r : DocumentRequest A) (xs ys zs : List A)
    → found_in r (xs ++ (ys ++ zs)) ≡ window r.limit r.skip (stable (earlier r.by) (filter r.matches xs ++ (filter r.matches ys ++ filter r.matches zs)))
found_three r xs ys zs = found_is r (xs ++ (ys ++ zs)) ∙ ap (λ ws. window r.limit r.skip (stable (earlier r.by) ws)) (filter_three r.matches xs ys zs)

-- what a part returns
of_part_all : {A : Type 0} (r : DocumentRequest A) (ds : List A) → found_in (part_request r 0) ds ≡ stable (earlier r.by) (filter r.matches ds)
of_part_all r ds = found_is (part_request r 0) ds

window_some : {A : Type 0} (k : ℕ) (xs : List A) → window (suc k) 0 xs ≡ take (suc k) xs
window_some k xs =
    let n = ne_eqb (suc k) 0 (λ e. absurd (omega arith)) in
    let l : suc k - 0 ≡ suc k = omega arith in rw (n, l) refl

of_part_some : {A : Type 0} (r : DocumentRequest A) (k : ℕ) (ds : List A) → found_in (part_request r (suc k)) ds ≡ take (suc k) (stable (earlier r.by) (filter r.matches ds))
of_part_some r k ds = found_is (part_request r (suc k)) ds ∙ window_some k (stable (earlier r.by) (filter r.matches ds))

with_part : {A : Type 0} (r : DocumentRequest A) (xs ys zs given : List A) → All (Passes r.matches) given
    → window r.limit r.skip (stable (earlier r.by) (filter r.matches xs ++ (filter r.matches ys ++ filter r.matches zs)))
    ≡ window r.limit r.skip (stable (earlier r.by) (filter r.matches xs ++ (given ++ filter r.matches zs)))
    → found_in r (xs ++ (ys ++ zs)) ≡ found_in r (xs ++ (given ++ zs))
with_part r xs ys zs given h e =
    found_three r xs ys zs ∙ e
    ∙ ap (λ ws. window r.limit r.skip (stable (earlier r.by) (filter r.matches xs ++ (ws ++ filter r.matches zs)))) (sym (filter_passing r.matches given h))
    ∙ sym (found_three r xs given zs)

pub stretch_gives : {A : Type 0} (r : DocumentRequest A) → IsTotalOrder r.by → (limit : ℕ) → IsEnough r limit → (xs ys zs : List A)
    → found_in r (xs ++ (ys ++ zs)) ≡ found_in r (xs ++ (found_in (part_request r limit) ys ++ zs))
stretch_gives r o zero enough xs ys zs =
    let lt = earlier r.by in
    let w = ranks_by o (λ d. d) in
    let bs = filter r.matches ys in
    with_part r xs ys zs (stable lt bs) (stable_passes r.matches lt ys)
    (ap (window r.limit r.skip) (stretch_all w (filter r.matches xs) bs (filter r.matches zs)))
    ∙ ap (λ ws. found_in r (xs ++ (ws ++ zs))) (sym (of_part_all r ys))
stretch_gives r o (suc k) enough xs ys zs =
    let lt = earlier r.by in
    let w = ranks_by o (λ d. d) in
    let bs = filter r.matches ys in
    let n = enough (λ e. absurd (omega arith)) in
    with_part r xs ys zs (take (suc k) (stable lt bs)) (All-take (Passes r.matches) (suc k) (stable lt bs) (stable_passes r.matches lt ys))
    (window_same r.limit r.skip (suc k) _ _ n.0 n.1 (stretch_take w (suc k) (filter r.matches xs) bs (filter r.matches zs)))
    ∙ ap (λ ws. found_in r (xs ++ (ws ++ zs))) (sym (of_part_some r k ys))

parts_after : {A : Type 0} (r : DocumentRequest A) → IsTotalOrder r.by → (limit : ℕ) → IsEnough r limit → (prefix : List A) (parts : List (List A))
    → found_in r (prefix ++ flat_map (λ ds. ds) parts) ≡ found_in r (prefix ++ flat_map (found_in (part_request r limit)) parts)
parts_after r o limit enough prefix [] = refl
parts_after r o limit enough prefix (p ∷ ps) =
    let given = found_in (part_request r limit) p in
    stretch_gives r o limit enough prefix p (flat_map (λ ds. ds) ps)
    ∙ ap (found_in r) (sym (append_assoc prefix given (flat_map (λ ds. ds) ps)))
    ∙ parts_after r o limit enough (prefix ++ given) ps
    ∙ ap (found_in r) (append_assoc prefix given (flat_map (found_in (part_request r limit)) ps))

-- a request over the results of parts has the answer of the whole
pub parts_give : {A : Type 0} (r : DocumentRequest A) → IsTotalOrder r.by → (limit : ℕ) → IsEnough r limit → (parts : List (List A))
    → found_in r (flat_map (λ ds. ds) parts) ≡ found_in r (flat_map (found_in (part_request r limit)) parts)
parts_give r o limit enough parts = parts_after r o limit enough [] parts

-- tests that agree on the places below n
abbrev Alike : ℕ → (ℕ → ℕ → Bool) → (ℕ → ℕ → Bool) → Type 0
Alike n lt less = (p q : ℕ) → p < n → q < n → lt p q ≡ less p q

abbrev Below : ℕ → List ℕ → Type 0
Below n ps = (p : ℕ) → In p ps → p < n

insert_alike : (n : ℕ) (lt less : ℕ → ℕ → Bool) → Alike n lt less → (p : ℕ) (qs : List ℕ) → p < n → Below n qs → insert lt p qs ≡ insert less p qs
insert_alike n lt less same p [] l h = refl
insert_alike n lt less same p (q ∷ qs) l h =
    let e = same p q l (h q (inl refl)) in
    rw e (ap (λ zs. cond (less p q) (p ∷ q ∷ qs) (q ∷ zs)) (insert_alike n lt less same p qs l (λ z i. h z (inr i))))

insert_all_alike : (n : ℕ) (lt less : ℕ → ℕ → Bool) → Alike n lt less → (kept ps : List ℕ) → Below n kept → Below n ps → insert_all lt kept ps ≡ insert_all less kept ps
insert_all_alike n lt less same kept [] h g = refl
insert_all_alike n lt less same kept (p ∷ ps) h g =
    let l = g p (inl refl) in
    insert_all_alike n lt less same (insert lt p kept) ps
    (λ z i. elim (insert_in lt p kept z i) [ inl e ↦ subst (λ y. y < n) (sym e) l | inr e ↦ h z e ]) (λ z i. g z (inr i))
    ∙ ap (λ zs. insert_all less zs ps) (insert_alike n lt less same p kept l h)

pub ordered_alike : (a b : Selection) → a.count ≡ b.count → ((p : ℕ) → p < b.count → a.matches_at p ≡ b.matches_at p) → ((p q : ℕ) → p < b.count → q < b.count → a.by p q ≡ b.by p q) → ordered a ≡ ordered b
ordered_alike a b count matches_at by =
    let there : filter a.matches_at (range_with_len 0 a.count) ≡ matching b =
    ap (λ n. filter a.matches_at (range_with_len 0 n)) count
    ∙ filter_same a.matches_at b.matches_at (range_with_len 0 b.count) (λ p i. let r = range_in 0 b.count p i in matches_at p (omega arith)) in
    ap (insert_all (before a.by) []) there
    ∙ insert_all_alike b.count (before a.by) (before b.by) (λ p q l m. ap (λ o. is_lt (ordering_then o (nat_cmp p q))) (by p q l m)) [] (matching b) (λ p i. absurd i)
    (λ p i. let r = range_in 0 b.count p (filter_in b.matches_at (range_with_len 0 b.count) p i).0 in omega arith)

document_at : {A : Type 0} (ds : List A) (i : ℕ) → i < length ds → (d : A) × (slice_get ds i ≡ Some d)
document_at ds i l = elim (slice_get_cases ds i).1 [ inl x ↦ (x.0, x.2) | inr beyond ↦ absurd (omega (arith, beyond.0)) ]

answer_alike : (a b : Selection) → ordered a ≡ ordered b → a.skip ≡ b.skip → a.limit ≡ b.limit → answer a ≡ answer b
answer_alike a b e s l = rw (e, s, l) refl

pub answer_gives : {A : Type 0} (r : DocumentRequest A) (ds : List A) (a : Selection) → IsSelectionOf r ds a → filter_map (slice_get ds) (answer a) ≡ found_in r ds
answer_gives r ds a h =
    ap (filter_map (slice_get ds))
    (answer_alike a (selection_over r ds)
    (ordered_alike a (selection_over r ds) h.count
    (λ p l. let x = document_at ds p l in h.matches_at p x.0 x.1 ∙ ap (matches_some r.matches) (sym x.1))
    (λ p q l m. let x = document_at ds p l in let y = document_at ds q m in h.by p q x.0 y.0 x.1 y.1
    ∙ ap (λ o. option_cmp r.by o (Some y.0)) (sym x.1) ∙ ap (option_cmp r.by (slice_get ds p)) (sym y.1)))
    h.skip h.limit)
