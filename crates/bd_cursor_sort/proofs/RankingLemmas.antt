-- Ranks order documents as their sort keys do.
use Rattle.std.proofs.Common.{◌≡◌, ◌+◌, ◌<◌, ◌≤◌, ℕ, false, cond, List, [], ◌∷◌, ◌++◌, length, map, get_or, drop, take, refl, sym, ap, ap₂, ◌∙◌, subst, arith, zero, suc, Option, Some, None}
use Rattle.std.proofs.Common.{Ordering, add-one, append_assoc, drop-cons}
use Rattle.std.proofs.lemmas.List.Sorted.{All-permutation, Contains-permutation, IsPermutation-map, IsPermutation-sym, IsPermutation-trans, length_permutation, ranks_by}
use Rattle.std.proofs.{lemmas.Bool.cond_both, lemmas.Bool.Decides.nat_tests, lemmas.Cmp.alike_right, lemmas.Cmp.nat_cmp_total, lemmas.Cmp.on_total, lemmas.Cmp.then_total}
use Rattle.std.proofs.{lemmas.Cmp.tied_itself, lemmas.List.get_or-map, lemmas.List.length-map, lemmas.List.take-map, lemmas.List.Elements.Contains-get_or, lemmas.Simd.map-map}
use Rattle.std.specs.Ordering.{is_lt, nat_cmp, ordering_reverse, ordering_then}
use Rattle.std.specs.{Cmp.IsStrictWeakOrder, Cmp.IsTotalOrder, List.All, List.Sorted.IsPermutation, List.Sorted.IsSortedBy, declared.cmp.Ordering.TheVariants.Equal}
use Rattle.bd_value.specs.Tree.{Doc, leaf}
use Rattle.bd_path.specs.{Sort.SortPath, Sort.dir_cmp, Sort.sort_key, declared.sort.Dir.Dir}
use Rattle.bd_path.proofs.SortLemmas.{dir_total}
use Rattle.bd_cursor_model.specs.Answer.{before}
use Rattle.bd_bson_dump.specs.Collection.{document_at}
use Rattle.bd_cursor_sort.specs.inside.Ranking.{AreRanked, Keyed, keyed, keyed_cmp, keyed_row, next_rank, place_of, ranks_from, rows_cmp}
use Rattle.bd_cursor_sort.specs.{inside.Sorting.AreFirst, Selection.order_of_keys, declared.ranking.Ranked.Ranked, declared.ranking.Row.Row}
use Rattle.bd_cursor_sort.proofs.PivotLemmas.{keys_total}
use Rattle.bd_value.specs.Tree as trees

-- the ranks of two documents compare as the documents do, and the first rank is no higher
abbrev Agree : (ℕ → ℕ → Ordering) → Ranked → Ranked → Type 0
Agree by a b = (nat_cmp a.rank b.rank ≡ by a.place b.place) × (a.rank ≤ b.rank)

-- the same for a document and each one after it; and `InOrder` for any two
abbrev Each : (ℕ → ℕ → Ordering) → Ranked → List Ranked → Type 0
Each by a [] = Unit {0}
Each by a (b ∷ rs) = Agree by a b × Each by a rs

abbrev InOrder : (ℕ → ℕ → Ordering) → List Ranked → Type 0
InOrder by [] = Unit {0}
InOrder by (a ∷ rs) = Each by a rs × InOrder by rs

agree_on : {by : ℕ → ℕ → Ordering} → IsTotalOrder by → (a b c : Ranked) → Agree by a b → Agree by b c → nat_cmp a.rank c.rank ≡ by a.place c.place
agree_on o a b c ab bc = grind (arith, nat_tests, o.trans a.place b.place c.place, o.congr a.place b.place c.place, alike_right o b.place c.place a.place)

each_on : {by : ℕ → ℕ → Ordering} → IsTotalOrder by → (a b : Ranked) (rs : List Ranked) → Agree by a b → Each by b rs → Each by a rs
each_on o a b [] ab h = tt
each_on o a b (c ∷ rs) ab h = ((agree_on o a b c ab h.0, omega (arith, ab.1, h.0.1)), each_on o a b rs ab h.1)

step_agrees : {by : ℕ → ℕ → Ordering} → IsTotalOrder by → (rank x y : ℕ) (r : Ordering) → r ≡ by x y → is_lt (by y x) ≡ false → nat_cmp rank (cond (is_lt r) (rank + 1) rank) ≡ by x y
step_agrees o rank x y r e f = grind (arith, nat_tests, o.antisymm y x)

each_at : (by : ℕ → ℕ → Ordering) (a : Ranked) (rs : List Ranked) → Each by a rs → (j : ℕ) (d : Ranked) → j < length rs → nat_cmp a.rank (get_or rs j d).rank ≡ by a.place (get_or rs j d).place
each_at by a [] h j d l = absurd (omega arith)
each_at by a (b ∷ rs) h zero d l = h.0.0
each_at by a (b ∷ rs) h (suc j) d l = each_at by a rs h.1 j d (omega arith)

in_order_at : {by : ℕ → ℕ → Ordering} → IsTotalOrder by → (rs : List Ranked) → InOrder by rs → (i j : ℕ) (d : Ranked) → i < length rs → j < length rs
    → nat_cmp (get_or rs i d).rank (get_or rs j d).rank ≡ by (get_or rs i d).place (get_or rs j d).place
in_order_at o [] h i j d a b = absurd (omega arith)
in_order_at o (r ∷ rs) h zero zero d a b = tied_itself nat_cmp_total r.rank ∙ sym (tied_itself o r.place)
in_order_at {by = by} o (r ∷ rs) h zero (suc j) d a b = each_at by r rs h.0 j d (omega arith)
in_order_at {by = by} o (r ∷ rs) h (suc i) zero d a b =
    nat_cmp_total.antisymm (get_or rs i d).rank r.rank ∙ ap ordering_reverse (each_at by r rs h.0 i d (omega arith)) ∙ sym (o.antisymm (get_or rs i d).place r.place)
in_order_at o (r ∷ rs) h (suc i) (suc j) d a b = in_order_at o rs h.1 i j d (omega arith) (omega arith)

all_places : (dir : Dir) (rank : ℕ) (last : Option Keyed) (ys : List Keyed) → map place_of (ranks_from dir rank last ys) ≡ map (λ (k : Keyed). k.place) ys
all_places dir rank last [] = refl
all_places dir rank last (y ∷ ys) = ap (λ ps. y.place ∷ ps) (all_places dir (next_rank dir rank last y) (Some y) ys)

-- one more path
then_equal : (o : Ordering) → ordering_then o Equal ≡ o
then_equal o = grind arith

then_assoc : (a b c : Ordering) → ordering_then a (ordering_then b c) ≡ ordering_then (ordering_then a b) c
then_assoc a b c = grind arith

order_append : (ds : List Doc) (ss : List SortPath) (s : SortPath) (p q : ℕ)
    → order_of_keys ds (ss ++ s ∷ []) p q ≡ ordering_then (order_of_keys ds ss p q)
    (dir_cmp s.dir (sort_key s.dir (document_at ds p) s.path) (sort_key s.dir (document_at ds q) s.path))
order_append ds [] s p q = then_equal (dir_cmp s.dir (sort_key s.dir (document_at ds p) s.path) (sort_key s.dir (document_at ds q) s.path))
order_append ds (r ∷ ss) s p q =
    let one = dir_cmp r.dir (sort_key r.dir (document_at ds p) r.path) (sort_key r.dir (document_at ds q) r.path) in
    ap (ordering_then one) (order_append ds ss s p q)
    ∙ then_assoc one (order_of_keys ds ss p q) (dir_cmp s.dir (sort_key s.dir (document_at ds p) s.path) (sort_key s.dir (document_at ds q) s.path))

keyed_in_order : (ds : List Doc) (ss : List SortPath) (s : SortPath) (a b : Ranked) → nat_cmp a.rank b.rank ≡ order_of_keys ds ss a.place b.place
    → keyed_cmp s.dir (keyed ds s a) (keyed ds s b) ≡ order_of_keys ds (ss ++ s ∷ []) a.place b.place
keyed_in_order ds ss s a b e =
    ap (λ o. ordering_then o (dir_cmp s.dir (sort_key s.dir (document_at ds a.place) s.path) (sort_key s.dir (document_at ds b.place) s.path))) e
    ∙ sym (order_append ds ss s a.place b.place)

-- each row is that of some document
no_one : Ranked
no_one = record { rank = 0; place = 0 }

of_some : (ds : List Doc) (s : SortPath) (rs : List Ranked) (rows : List Keyed) → IsPermutation (map (keyed ds s) rs) rows → (i : ℕ) (d : Keyed)
    → i < length rows → (k : ℕ) × (k < length rs) × (keyed ds s (get_or rs k no_one) ≡ get_or rows i d)
of_some ds s rs rows moved i d l =
    let x = get_or rows i d in
    let c = Contains-permutation rows (map (keyed ds s) rs) x (IsPermutation-sym (map (keyed ds s) rs) rows moved) (Contains-get_or rows i d l) in
    let m : c.0 < length rs = rw length-map at c.1 in
    (c.0, m, sym (get_or-map (keyed ds s) rs c.0 no_one x m) ∙ c.2)

-- the keys compare as the documents do; no row comes before an earlier one
abbrev KeysInOrder : (ℕ → ℕ → Ordering) → Dir → List Keyed → Type 0
KeysInOrder by dir ys = (i j : ℕ) (d : Keyed) → i < length ys → j < length ys → keyed_cmp dir (get_or ys i d) (get_or ys j d) ≡ by (get_or ys i d).place (get_or ys j d).place

abbrev RowsRise : Dir → List Keyed → Type 0
RowsRise dir ys = (k : ℕ) (d : Keyed) → k + 1 < length ys → is_lt (rows_cmp dir (get_or ys (suc k) d) (get_or ys k d)) ≡ false

rows_in_order : (ds : List Doc) (ss : List SortPath) (s : SortPath) (ps : List ℕ) (rs : List Ranked) (rows : List Keyed) → AreRanked ds ss ps rs → IsPermutation (map (keyed ds s) rs) rows
    → KeysInOrder (order_of_keys ds (ss ++ s ∷ [])) s.dir rows
rows_in_order ds ss s ps rs rows are moved i j d a b =
    let k = of_some ds s rs rows moved i d a in
    let m = of_some ds s rs rows moved j d b in
    let by = order_of_keys ds (ss ++ s ∷ []) in
    let x = keyed ds s (get_or rs k.0 no_one) in
    let y = keyed ds s (get_or rs m.0 no_one) in
    let e : keyed_cmp s.dir x y ≡ by x.place y.place = keyed_in_order ds ss s (get_or rs k.0 no_one) (get_or rs m.0 no_one) (are.in_order k.0 m.0 no_one k.1 m.1) in
    subst (λ z. keyed_cmp s.dir (get_or rows i d) z ≡ by (get_or rows i d).place z.place) m.2 (subst (λ z. keyed_cmp s.dir z y ≡ by z.place y.place) k.2 e)

less_stays : (o p : Ordering) → is_lt (ordering_then o p) ≡ false → is_lt o ≡ false
less_stays o p e = grind arith

meaning : {by : ℕ → ℕ → Ordering} → IsTotalOrder by → (dir : Dir) (rank : ℕ) (x : Keyed) (ys : List Keyed) → KeysInOrder by dir (x ∷ ys) → RowsRise dir (x ∷ ys)
    → InOrder by (record { rank = rank; place = x.place } ∷ ranks_from dir rank (Some x) ys)
meaning o dir rank x [] in_order up = (tt, tt)
meaning {by = by} o dir rank x (y ∷ ys) in_order up =
    let a : Ranked = record { rank = rank; place = x.place } in
    let b : Ranked = record { rank = next_rank dir rank (Some x) y; place = y.place } in
    let rest = meaning o dir b.rank y ys (λ i j d k l. in_order (suc i) (suc j) d (omega arith) (omega arith)) (λ k d l. up (suc k) d (omega arith)) in
    let back : is_lt (by y.place x.place) ≡ false = ap is_lt (sym (in_order (suc zero) zero x (omega arith) (omega arith)))
    ∙ less_stays (keyed_cmp dir y x) (nat_cmp y.place x.place) (up zero x (omega arith)) in
    let low : rank ≤ b.rank = cond_both (is_lt (keyed_cmp dir x y)) (rank + 1) rank (λ n. rank ≤ n) (λ e. omega arith) (λ e. omega arith) in
    let agree : Agree by a b = (step_agrees o rank x.place y.place (keyed_cmp dir x y) (in_order zero (suc zero) x (omega arith) (omega arith)) back, low) in
    ((agree, each_on o a b (ranks_from dir b.rank (Some y) ys) agree rest.0), rest)

in_order_all : {by : ℕ → ℕ → Ordering} → IsTotalOrder by → (dir : Dir) (ys : List Keyed) → KeysInOrder by dir ys → RowsRise dir ys → InOrder by (ranks_from dir 0 None ys)
in_order_all o dir [] in_order up = tt
in_order_all o dir (y ∷ ys) in_order up = meaning o dir 0 y ys in_order up

pub ranked_more : (ds : List Doc) (ss : List SortPath) (s : SortPath) (ps : List ℕ) (rs : List Ranked) (rows : List Keyed) → AreRanked ds ss ps rs
    → IsPermutation (map (keyed ds s) rs) rows → IsSortedBy (λ a b. is_lt (rows_cmp s.dir a b)) rows
    → AreRanked ds (ss ++ s ∷ []) ps (ranks_from s.dir 0 None rows)
ranked_more ds ss s ps rs rows are moved up =
    let dir = s.dir in
    let by = order_of_keys ds (ss ++ s ∷ []) in
    let in_order = rows_in_order ds ss s ps rs rows are moved in
    let next : RowsRise dir rows = λ k d a. rw add-one at (up k d (omega arith) a) in
    record {
      same = rw (all_places dir 0 None rows) (IsPermutation-trans ps (map place_of rs) (map (λ (k : Keyed). k.place) rows) are.same
          (rw map-map at (IsPermutation-map (λ (k : Keyed). k.place) (map (keyed ds s) rs) rows moved)));
      rises = rw (all_places dir 0 None rows) (sorted_places by dir rows in_order next);
      in_order = in_order_at (keys_total ds (ss ++ s ∷ [])) (ranks_from dir 0 None rows) (in_order_all (keys_total ds (ss ++ s ∷ [])) dir rows in_order next);
    }
  where
    sorted_places : (by : ℕ → ℕ → Ordering) (dir : Dir) (rows : List Keyed) → KeysInOrder by dir rows → RowsRise dir rows → IsSortedBy (before by) (map (λ (k : Keyed). k.place) rows)
    sorted_places by dir rows in_order next k d a b =
        let none : Keyed = record { rank = 0; place = 0; key = leaf trees.null } in
        let long : length (map (λ (k : Keyed). k.place) rows) ≡ length rows = length-map rows (λ (k : Keyed). k.place) in
        let one : k < length rows = omega arith in
        let two : suc k < length rows = omega arith in
        rw (add-one, get_or-map (λ (k : Keyed). k.place) rows (suc k) none d two, get_or-map (λ (k : Keyed). k.place) rows k none d one, ← in_order (suc k) k none two one)
        (next k none (omega arith))

-- before the first path: every rank is 0
abbrev pub of_rank_0 : ℕ → Ranked
of_rank_0 p = record { rank = 0; place = p }

pub none_ranked : (ds : List Doc) (ps sorted : List ℕ) (rs : List Ranked) → IsPermutation ps sorted → IsSortedBy (λ x y. is_lt (nat_cmp x y)) sorted → rs ≡ map of_rank_0 sorted → AreRanked ds [] ps rs
none_ranked ds ps sorted rs moved up e = rw e (record {
  same = rw (places sorted) moved;
  rises = rw (places sorted) up;
  in_order = λ i j d a b. ap₂ (λ (x y : Ranked). nat_cmp x.rank y.rank) (at sorted i d a) (at sorted j d b);
})
  where
    places : (xs : List ℕ) → map place_of (map of_rank_0 xs) ≡ xs
    places [] = refl
    places (x ∷ xs) = ap (λ ys. x ∷ ys) (places xs)

    at : (xs : List ℕ) (i : ℕ) (d : Ranked) → i < length (map of_rank_0 xs) → get_or (map of_rank_0 xs) i d ≡ of_rank_0 (get_or xs i 0)
    at xs i d l = get_or-map of_rank_0 xs i 0 d (rw length-map at l)

-- after the last path
pub first_of_ranked : {ds : List Doc} {ss : List SortPath} {ps : List ℕ} {rs : List Ranked} → AreRanked ds ss ps rs → (most : ℕ) (new : List ℕ)
    → new ≡ map place_of (take most rs) → AreFirst (before (order_of_keys ds ss)) most ps new
first_of_ranked {rs = rs} are most new e = record {
  sorted = map place_of rs;
  same = are.same;
  rises = are.rises;
  is = e ∙ sym (take-map place_of most rs);
}

pub ranked_below : {ds : List Doc} {ss : List SortPath} {ps : List ℕ} {rs : List Ranked} (n : ℕ) → AreRanked ds ss ps rs → All (λ p. p < n) ps → All (λ (r : Ranked). r.place < n) rs
ranked_below {ps = ps} {rs = rs} n are h i d l = rw (get_or-map place_of rs i d 0 l) at (All-permutation (λ p. p < n) ps (map place_of rs) are.same h i 0 (rw length-map l))

pub ranked_long : {ds : List Doc} {ss : List SortPath} {ps : List ℕ} {rs : List Ranked} → AreRanked ds ss ps rs → length rs ≡ length ps
ranked_long {ps = ps} {rs = rs} are = sym (length-map rs place_of) ∙ length_permutation ps (map place_of rs) are.same

-- the orders of rows are total
keyed_total : (dir : Dir) → IsTotalOrder (keyed_cmp dir)
keyed_total dir = then_total (on_total (λ (k : Keyed). k.rank) nat_cmp_total) (on_total (λ (k : Keyed). k.key) (dir_total dir))

rows_total : (dir : Dir) → IsTotalOrder (rows_cmp dir)
rows_total dir = then_total (keyed_total dir) (on_total (λ (k : Keyed). k.place) nat_cmp_total)

pub rows_weak : (dir : Dir) → IsStrictWeakOrder (λ (a b : Row). is_lt (rows_cmp dir (keyed_row a) (keyed_row b)))
rows_weak dir = ranks_by (rows_total dir) keyed_row

sorted_keyed : (dir : Dir) (rows : List Row) → IsSortedBy (λ a b. is_lt (rows_cmp dir (keyed_row a) (keyed_row b))) rows → IsSortedBy (λ a b. is_lt (rows_cmp dir a b)) (map keyed_row rows)
sorted_keyed dir [] up k d a b = absurd (omega arith)
sorted_keyed dir (x ∷ xs) up k d a b =
    let l : k + 1 < length (x ∷ xs) = rw length-map at b in
    let m : k < length (x ∷ xs) = omega arith in
    rw (get_or-map keyed_row (x ∷ xs) (k + 1) x d l, get_or-map keyed_row (x ∷ xs) k x d m) (up k x a l)

pub rows_long : (ds : List Doc) (s : SortPath) (rs : List Ranked) (rows new : List Row) → map keyed_row rows ≡ map (keyed ds s) rs → IsPermutation rows new → length new ≡ length rs
rows_long ds s rs rows new e moved = length_permutation rows new moved ∙ sym (length-map rows keyed_row) ∙ ap length e ∙ length-map rs (keyed ds s)

pub ranked_in_hand : (ds : List Doc) (ss : List SortPath) (s : SortPath) (ps : List ℕ) (rs : List Ranked) (rows new : List Row)
    → AreRanked ds ss ps rs → map keyed_row rows ≡ map (keyed ds s) rs → IsPermutation rows new
    → IsSortedBy (λ a b. is_lt (rows_cmp s.dir (keyed_row a) (keyed_row b))) new → AreRanked ds (ss ++ s ∷ []) ps (ranks_from s.dir 0 None (map keyed_row new))
ranked_in_hand ds ss s ps rs rows new are e moved up =
    ranked_more ds ss s ps rs (map keyed_row new) are (rw e at (IsPermutation-map keyed_row rows new moved)) (sorted_keyed s.dir new up)

pub rank_more : (dir : Dir) (ranked new : List Ranked) (rank q : ℕ) (last : Option Keyed) (x : Row) (rows : List Row) (i : ℕ) (all : List Ranked)
    → i < length rows → x ≡ get_or rows i x → q ≡ next_rank dir rank last (keyed_row x) → new ≡ ranked ++ record { rank = q; place = x.place } ∷ []
    → ranked ++ ranks_from dir rank last (map keyed_row (drop i rows)) ≡ all → new ++ ranks_from dir q (Some (keyed_row x)) (map keyed_row (drop (i + 1) rows)) ≡ all
rank_more dir ranked new rank q last x rows i all l is next e fact =
    let step : drop i rows ≡ x ∷ drop (suc i) rows = drop-cons rows i x l ∙ ap (λ (y : Row). y ∷ drop (suc i) rows) (sym is) in
    rw (add-one, e, append_assoc, next) (rw step at fact)

pub next_low : (dir : Dir) (rank : ℕ) (last : Option Keyed) (y : Keyed) → next_rank dir rank last y ≤ rank + 1
next_low dir rank None y = omega arith
next_low dir rank (Some x) y = cond_both (is_lt (keyed_cmp dir x y)) (rank + 1) rank (λ n. n ≤ rank + 1) (λ e. omega arith) (λ e. omega arith)
