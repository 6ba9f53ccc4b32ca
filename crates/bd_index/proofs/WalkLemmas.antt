-- Entries in the order of a direction give the walk: from the greatest key down, run by run, with the places in turn.
use Rattle.std.proofs.Common.{◌≡◌, ◌≢◌, ◌+◌, ◌-◌, ◌<◌, ◌≤◌, ℕ, zero, suc, Bool, true, false, cond, List, [], ◌∷◌, ◌++◌, length, get_or, map, filter, take, drop}
use Rattle.std.proofs.Common.{inl, inr, refl, sym, ap, ap₂, ◌∙◌, subst, add-zero, append-nil, eq-eqb, arith}
use Rattle.std.specs.Prelude.{◌==◌, ◌&&◌, ◌||◌, nat_lt, not, slice_range, unwrap_or}
use Rattle.std.specs.{Cmp.IsStrictWeakOrder, Cmp.IsTotalOrder, List.All, List.AllByRecursion, List.AllPairs, List.count_by, List.fold, List.list_any, List.reduce, List.Sorted.IsSortedBy}
use Rattle.std.specs.{declared.cmp.Ordering.Ordering, declared.cmp.Ordering.TheVariants.Equal, declared.cmp.Ordering.TheVariants.Less}
use Rattle.std.specs.Ordering.{is_eq, is_lt, nat_cmp, on, ordering_reverse, ordering_then}
use Rattle.std.proofs.{Math.ListN.set, Math.ListN.length-set, Math.Seq.take-add, lemmas.Bool.Decides.nat_tests, lemmas.List.Sorted.ranks_by, lemmas.List.Sums.sum_by-cons}
use Rattle.std.proofs.lemmas.Bool.{and_parts, cases_eq, cases_lt, false_from_ne_true, ltb-true, not-true, or_from, or_left, or_parts, or_right, true_from_ne_false}
use Rattle.std.proofs.lemmas.Cmp.{alike_right, tied_back, tied_itself}
use Rattle.std.proofs.lemmas.List.{drop_more, get_or_default, get_or-map, get_or-set_other, get_or-set_same, get_or-take, length-map, length-take, take_all}
use Rattle.std.proofs.lemmas.List.Elements.{All-cons, All-filter, All-from_recursion, All-head, All-map, All-nil, All-tail, filter_agree, filter_passes}
use Rattle.std.proofs.lemmas.List.Folds.{Any-from_list_any, list_any-append, list_any_at, list_any_none}
use Rattle.std.proofs.lemmas.List.Kept.{AllPairs-cons, AllPairs-filter}
use Rattle.bd_value.specs.{Order.cmp, Order.equal, Tree.Tree, Tree.Doc, Tree.doc, Tree.fields_of, Tree.leaf, Tree.null}
use Rattle.bd_value.proofs.OrderLemmas.{cmp_total}
use Rattle.bd_bson_dump.specs.{Collection.bytes_of, Collection.document_at, declared.collection.Dump.Dump}
use Rattle.bd_path.specs.{Key.keys, Reach.Names, declared.sort.Dir.Dir, declared.sort.Dir.TheVariants.Down, declared.sort.Dir.TheVariants.Up}
use Rattle.bd_path.specs.Sort.{dir_cmp, earlier, sort_key}
use Rattle.bd_path.proofs.SortLemmas.{dir_total, equal_is, equal_itself, has_a_key}
use Rattle.bd_path.proofs.DistinctLemmas.{filter_both}
use Rattle.bd_index.specs.Entries.{AreEntries, KeyAt, downward, entries_from, entries_of, entry_cmp, keys_at, put_down}
use Rattle.bd_index.specs.inside.Entries.{IsRun}
use Rattle.bd_index.specs.IndexView.{IsIndexOf, IsIndexOf-prop, KeepsEntry}
use Rattle.bd_index.specs.{Walk.WalksAll, Walk.fresh_places, declared.entry.Entry.Entry, declared.index.Index.Index}
use Rattle.bd_index.proofs.EntryLemmas.{Rises, all_pass, any_as_counts, any_map, ascends, by_total, count_stored, entry_by, entry_total, first_not_less, keys_rise, neither_less, zip_at}
use Rattle.bd_index.proofs.PlacesLemmas.{in_piece}
use Rattle.bd_index.proofs.RepeatLemmas.{all_firsts, any_firsts, firsts, firsts_map}

-- ---- a run comes before the entries with lesser keys

run_alone : (run : List KeyAt) → AllPairs (λ x y. is_lt (cmp x.0 y.0) ≡ false) run → downward run ≡ run
run_alone [] tied = refl
run_alone (x ∷ xs) tied =
    ap (put_down x) (run_alone xs (λ i j d a b. tied (suc i) (suc j) d (omega arith) (omega arith)))
    ∙ go xs (λ j d lt. tied 0 (suc j) d (omega arith) (omega arith))
  where
    go : (ys : List KeyAt) → All (λ y. is_lt (cmp x.0 y.0) ≡ false) ys → put_down x ys ≡ x ∷ ys
    go [] n = refl
    go (y ∷ ys) n = rw (n 0 y (omega arith)) refl

put_after : (x : KeyAt) (run ys : List KeyAt) → All (λ y. is_lt (cmp x.0 y.0) ≡ true) run → put_down x (run ++ ys) ≡ run ++ put_down x ys
put_after x [] ys h = refl
put_after x (r ∷ run) ys h = rw (h 0 r (omega arith)) (ap (λ (l : List KeyAt). r ∷ l) (put_after x run ys (All-tail (λ y. is_lt (cmp x.0 y.0) ≡ true) r run h)))

run_first : (xs run : List KeyAt) → All (λ x. All (λ y. is_lt (cmp x.0 y.0) ≡ true) run) xs → AllPairs (λ x y. is_lt (cmp x.0 y.0) ≡ false) run → downward (xs ++ run) ≡ run ++ downward xs
run_first [] run less tied = run_alone run tied ∙ sym (append-nil run)
run_first (x ∷ xs) run less tied =
    ap (put_down x) (run_first xs run (All-tail (λ y. All (λ z. is_lt (cmp y.0 z.0) ≡ true) run) x xs less) tied)
    ∙ put_after x run (downward xs) (All-head (λ y. All (λ z. is_lt (cmp y.0 z.0) ≡ true) run) x xs less)

module _ (es : List KeyAt) (start end : ℕ) (run : IsRun es start end) (le : end ≤ length es) where
  with_last : (k : ℕ) (d : KeyAt) → k < length (slice_range es start end) → cmp (get_or (slice_range es start end) k d).0 (get_or es (end - 1) d).0 ≡ Equal
  with_last k d lt =
      let at = in_piece es start end k d lt in
      subst (λ (e : KeyAt). cmp e.0 (get_or es (end - 1) d).0 ≡ Equal) (sym at.is) (equal_is _ (run.equals (start + k) d (omega arith) at.below))

  prefix_below : All (λ x. All (λ y. is_lt (cmp x.0 y.0) ≡ true) (slice_range es start end)) (take start es)
  prefix_below k d lt j e low =
      let n = length-take start es in
      let there : get_or (take start es) k d ≡ get_or es k e = get_or-take start es k d (omega arith) ∙ get_or_default es k d e (omega arith) in
      let y = (get_or (slice_range es start end) j e).0 in
      subst (λ (x : KeyAt). is_lt (cmp x.0 y) ≡ true) (sym there)
      (ap is_lt (alike_right cmp_total y (get_or es (end - 1) e).0 (get_or es k e).0 (with_last j e low)) ∙ run.below k e (omega arith))

  tied : AllPairs (λ x y. is_lt (cmp x.0 y.0) ≡ false) (slice_range es start end)
  tied i j d before inside =
      let x = (get_or (slice_range es start end) i d).0 in
      let y = (get_or (slice_range es start end) j d).0 in
      let l = (get_or es (end - 1) d).0 in
      ap is_lt (cmp_total.congr x l y (with_last i d (omega arith)) ∙ tied_back cmp_total y l (with_last j d inside))

  pub run_taken : downward (take end es) ≡ slice_range es start end ++ downward (take start es)
  run_taken =
      let some = run.some in
      let n : start + (end - start) ≡ end = omega arith in
      let cutoff : take end es ≡ take start es ++ slice_range es start end = ap (λ (m : ℕ). take m es) (sym n) ∙ take-add start (end - start) es in
      ap downward cutoff ∙ run_first (take start es) (slice_range es start end) prefix_below tied

-- ---- all entries are present

count_put : (test : KeyAt → Bool) (e : KeyAt) (xs : List KeyAt) → count_by test (put_down e xs) ≡ cond (test e) 1 0 + count_by test xs
count_put test e [] = sum_by-cons (λ (y : KeyAt). cond (test y) 1 0) e []
count_put test e (x ∷ xs) = go (is_lt (cmp e.0 x.0)) (count_put test e xs)
  where
    go : (b : Bool) → count_by test (put_down e xs) ≡ cond (test e) 1 0 + count_by test xs → count_by test (cond b (x ∷ put_down e xs) (e ∷ (x ∷ xs))) ≡ cond (test e) 1 0 + count_by test (x ∷ xs)
    go true h = let f : KeyAt → ℕ = λ y. cond (test y) 1 0 in omega (arith, sum_by-cons f x (put_down e xs), sum_by-cons f x xs, h)
    go false h = sum_by-cons (λ (y : KeyAt). cond (test y) 1 0) e (x ∷ xs)

pub count_downward : (test : KeyAt → Bool) (es : List KeyAt) → count_by test (downward es) ≡ count_by test es
count_downward test [] = refl
count_downward test (e ∷ es) =
    count_put test e (downward es) ∙ ap (λ (n : ℕ). cond (test e) 1 0 + n) (count_downward test es) ∙ sym (sum_by-cons (λ (y : KeyAt). cond (test y) 1 0) e es)

-- ---- in the order of the direction

all_with : {A : Type 0} {P Q S : A → Type 0} → ((x : A) → P x → Q x → S x) → (xs : List A) → AllByRecursion P xs → AllByRecursion Q xs → AllByRecursion S xs
all_with f [] p q = tt
all_with f (x ∷ xs) p q = (f x p.0 q.0, all_with f xs p.1 q.1)

all_put : (P : KeyAt → Type 0) (e : KeyAt) (xs : List KeyAt) → P e → AllByRecursion P xs → AllByRecursion P (put_down e xs)
all_put P e [] here all = (here, tt)
all_put P e (x ∷ xs) here all = go (is_lt (cmp e.0 x.0)) (all_put P e xs here all.1)
  where
    go : (b : Bool) → AllByRecursion P (put_down e xs) → AllByRecursion P (cond b (x ∷ put_down e xs) (e ∷ (x ∷ xs)))
    go true h = (all.0, h)
    go false h = (here, all)

all_downward : (P : KeyAt → Type 0) (es : List KeyAt) → AllByRecursion P es → AllByRecursion P (downward es)
all_downward P [] all = tt
all_downward P (e ∷ es) all = all_put P e (downward es) all.0 (all_downward P es all.1)

-- a lesser key is after a greater one
greater_first : (o r : Ordering) → is_lt o ≡ true → is_lt (ordering_then (ordering_reverse o) r) ≡ false
greater_first o r h = grind arith

-- o compares x and e, p compares e and x: x is not before e in their order, and its key is not greater
alike_after : (o p r : Ordering) → p ≡ ordering_reverse o → is_lt (ordering_then o r) ≡ false → is_lt p ≡ false → is_lt (ordering_then (ordering_reverse o) r) ≡ false
alike_after o p r e h n = grind arith

not_before : (x e : KeyAt) → is_lt (entry_cmp x e) ≡ false → is_lt (cmp e.0 x.0) ≡ false → is_lt (entry_by (dir_cmp Down) x e) ≡ false
not_before x e up n = alike_after (cmp x.0 e.0) (cmp e.0 x.0) (nat_cmp x.1 e.1) (cmp_total.antisymm e.0 x.0) up n

put_rises : (e : KeyAt) (xs : List KeyAt) → AllByRecursion (λ x. is_lt (entry_cmp x e) ≡ false) xs → Rises (dir_cmp Down) xs → Rises (dir_cmp Down) (put_down e xs)
put_rises e [] up h = (tt, tt)
put_rises e (x ∷ xs) up h = go (is_lt (cmp e.0 x.0)) refl (put_rises e xs up.1 h.1)
  where
    -- what is after x downward has no greater key
    lower : (y : KeyAt) → is_lt (entry_by (dir_cmp Down) y x) ≡ false → is_lt (cmp x.0 y.0) ≡ false
    lower y d = ap is_lt (cmp_total.antisymm x.0 y.0) ∙ first_not_less (ordering_reverse (cmp y.0 x.0)) (nat_cmp y.1 x.1) d

    go : (b : Bool) → is_lt (cmp e.0 x.0) ≡ b → Rises (dir_cmp Down) (put_down e xs) → Rises (dir_cmp Down) (cond b (x ∷ put_down e xs) (e ∷ (x ∷ xs)))
    go true less rest = (all_put (λ y. is_lt (entry_by (dir_cmp Down) y x) ≡ false) e xs (greater_first (cmp e.0 x.0) (nat_cmp e.1 x.1) less) h.0, rest)
    go false n rest = (
      (not_before x e up.0 n, all_with (λ y u d. not_before y e u ((ranks_by cmp_total (λ k. k)).chain e.0 x.0 y.0 n (lower y d))) xs up.1 h.0),
      h,
    )

pub downward_rises : (es : List KeyAt) → Rises cmp es → Rises (dir_cmp Down) (downward es)
downward_rises [] h = tt
downward_rises (e ∷ es) h = put_rises e (downward es) (all_downward (λ x. is_lt (entry_cmp x e) ≡ false) es h.0) (downward_rises es h.1)

-- ---- a run, found from its end

pub run_begins : (es : List KeyAt) (end k : ℕ) (d : KeyAt) → end - 1 ≤ k → k < end → equal (get_or es k d).0 (get_or es (end - 1) d).0 ≡ true
run_begins es end k d low high = let same : k ≡ end - 1 = omega arith in rw same (equal_itself (get_or es (end - 1) d).0)

pub run_goes_on : (es : List KeyAt) (start end : ℕ) (a b : Tree) (d : KeyAt) → a ≡ (get_or es (start - 1) d).0 → b ≡ (get_or es (end - 1) d).0 → is_eq (cmp a b) ≡ true
    → ((j : ℕ) → start ≤ j → j < end → equal (get_or es j d).0 (get_or es (end - 1) d).0 ≡ true) → (k : ℕ) → start - 1 ≤ k → k < end → equal (get_or es k d).0 (get_or es (end - 1) d).0 ≡ true
run_goes_on es start end a b d first last same so_far k low high =
    elim (cases_lt k start) [
      | inl lt ↦ (let is : k ≡ start - 1 = omega arith in rw (is, ← first, ← last) same)
      | inr le ↦ so_far k le high
    ]

pub run_is_whole : (es : List KeyAt) (start end : ℕ) (a b : Tree) (d : KeyAt) → IsSortedBy (λ x y. is_lt (entry_cmp x y)) es → 0 < start → start < end → end ≤ length es
    → a ≡ (get_or es (start - 1) d).0 → b ≡ (get_or es (end - 1) d).0 → is_eq (cmp a b) ≡ false → (k : ℕ) → k < start → is_lt (cmp (get_or es k d).0 (get_or es (end - 1) d).0) ≡ true
run_is_whole es start end a b d sorted some lt le first last other k low =
    let s = (get_or es (start - 1) d).0 in
    let l = (get_or es (end - 1) d).0 in
    let x = (get_or es k d).0 in
    true_from_ne_false (is_lt (cmp x l)) (λ no.
    let before = (ranks_by cmp_total (λ y. y)).chain s x l (keys_rise es sorted k (start - 1) d (omega arith) (omega arith)) no in
    let same = neither_less (cmp s l) (cmp l s) (cmp_total.antisymm s l) before (keys_rise es sorted (start - 1) (end - 1) d (omega arith) (omega arith)) in
    let differ : is_eq (cmp s l) ≡ false = sym (ap₂ (λ (y z : Tree). is_eq (cmp y z)) first last) ∙ other in
    let tied : is_eq (cmp s l) ≡ true = ap is_eq same in cc)

-- ---- the entries ahead, one after the other

module _ (dump : Dump) (index : Index) (i h : IsIndexOf dump index) where
  same_stored : i.keeps.entries ≡ h.keeps.entries
  same_stored = ap (λ (x : IsIndexOf dump index). x.keeps.entries) (IsIndexOf-prop dump index i h)

  pub upward_ahead : (n : ℕ) → n ≡ length index.entries.items → slice_range i.keeps.entries 0 n ++ downward (take 0 i.keeps.entries) ≡ h.keeps.entries
  upward_ahead n is = append-nil (slice_range i.keeps.entries 0 n) ∙ take_all (n - 0) i.keeps.entries (omega (arith, count_stored dump index i)) ∙ same_stored

  pub downward_ahead : (n : ℕ) → n ≡ length index.entries.items → slice_range i.keeps.entries 0 0 ++ downward (take n i.keeps.entries) ≡ downward h.keeps.entries
  downward_ahead n is = ap downward (take_all n i.keeps.entries (omega (arith, count_stored dump index i)) ∙ same_stored)

  pub run_ahead : (next end start below : ℕ) → end ≤ next → below ≤ length index.entries.items → IsRun h.keeps.entries start below
      → slice_range i.keeps.entries start below ++ downward (take start i.keeps.entries) ≡ slice_range h.keeps.entries next end ++ downward (take below h.keeps.entries)
  run_ahead next end start below done le run =
      let none : end - next ≡ 0 = omega arith in
      ap (λ (es : List KeyAt). slice_range es start below ++ downward (take start es)) same_stored
      ∙ sym (run_taken h.keeps.entries start below run (omega (arith, count_stored dump index h)))
      ∙ ap (λ (n : ℕ). take n (drop next h.keeps.entries) ++ downward (take below h.keeps.entries)) (sym none)

  -- the next entry of a run
  pub entry_taken : (next end below : ℕ) (k : Entry) → next < end → end ≤ length index.entries.items → k ≡ get_or index.entries.items next k
      → map (λ e. e.1) (slice_range h.keeps.entries next end ++ downward (take below h.keeps.entries)) ≡ k.place
      ∷ map (λ e. e.1) (slice_range i.keeps.entries (next + 1) end ++ downward (take below i.keeps.entries))
  entry_taken next end below k lt le is =
      let es = h.keeps.entries in
      let d : KeyAt = (leaf null, 0) in
      let size = count_stored dump index h in
      let n : end - next ≡ suc (end - (next + 1)) = omega arith in
      let there = (zip_at (KeepsEntry (bytes_of dump)) index.entries.items es next k d h.keeps.entries_are_at (omega arith)).1 in
      ap₂ (λ (m : ℕ) (l : List KeyAt). map (λ e. e.1) (take m l ++ downward (take below es))) n (drop_more es next d (omega arith))
      ∙ ap₂ (λ (p : ℕ) (fs : List KeyAt). p ∷ map (λ e. e.1) (slice_range fs (next + 1) end ++ downward (take below fs))) (sym there ∙ ap (λ (e : Entry). e.place) (sym is)) (sym same_stored)

-- ---- the sort key of a document among its keys

-- some key is equal to it, and none is before it
pub record IsBest (dir : Dir) (ks : List Tree) (best : Tree) : Type 0 where
  pub low : list_any (λ k. is_lt (dir_cmp dir k best)) ks ≡ false
  pub there : list_any (λ k. is_eq (dir_cmp dir k best)) ks ≡ true

weak : (dir : Dir) → IsStrictWeakOrder (λ x y. is_lt (dir_cmp dir x y))
weak dir = ranks_by (dir_total dir) (λ x. x)

-- a fold from the first key on finds the best of all
folded_best : (dir : Dir) (a : Tree) (ks : List Tree) → IsBest dir (a ∷ ks) (fold (earlier dir) a ks)
folded_best dir a [] = let tied = tied_itself (dir_total dir) a in record { low = or_from _ _ (ap is_lt tied) refl; there = or_left _ _ (ap is_eq tied) }
folded_best dir a (k ∷ ks) = go (is_lt (dir_cmp dir k a)) refl (folded_best dir (earlier dir a k) ks)
  where
    skipped : (x y z : Bool) → (x || z) ≡ true → (x || (y || z)) ≡ true
    skipped x y z h = grind arith

    go : (less : Bool) → is_lt (dir_cmp dir k a) ≡ less → IsBest dir (cond less k a ∷ ks) (fold (earlier dir) (cond less k a) ks) → IsBest dir (a ∷ k ∷ ks) (fold (earlier dir) (cond less k a) ks)
    go true less best =
        let low = or_parts _ _ best.low in
        record { low = or_from _ _ ((weak dir).chain a k (fold (earlier dir) k ks) ((weak dir).one_way k a less) low.0) best.low; there = or_right _ _ best.there }
    go false less best =
        let e = fold (earlier dir) a ks in
        let low = or_parts _ _ best.low in
        record {
          low = or_from _ _ low.0 (or_from _ _ ((weak dir).chain k a e less low.0) low.1);
          there = skipped (is_eq (dir_cmp dir a e)) (is_eq (dir_cmp dir k e)) (list_any (λ x. is_eq (dir_cmp dir x e)) ks) best.there;
        }

sort_key_best : (dir : Dir) (t : Tree) (path : Names) → IsBest dir (keys t path) (sort_key dir t path)
sort_key_best dir t path = go (keys t path) (has_a_key t path)
  where
    go : (ks : List Tree) → ks ≢ [] → IsBest dir ks (unwrap_or (reduce (earlier dir) ks) (leaf null))
    go [] n = absurd (n refl)
    go (k ∷ ks) n = folded_best dir k ks

-- ---- whether some entry of the documents passes

pub any_in : {A : Type 0} (t : A → Bool) (xs ys : List A) → list_any t (xs ++ ys) ≡ (list_any t xs || list_any t ys)
any_in t xs ys = list_any-append t xs ys

any_entry : (t : KeyAt → Bool) (path : Names) (n : ℕ) (d : Doc) (ds : List Doc)
    → list_any t (entries_from false path n (d ∷ ds)) ≡ (list_any (λ k. t (k, n)) (keys (doc (fields_of d)) path) || list_any t (entries_from false path (n + 1) ds))
any_entry t path n d ds =
    let ks = keys (doc (fields_of d)) path in
    let rest = entries_from false path (n + 1) ds in
    list_any-append t (keys_at n ks) rest ∙ ap (λ (b : Bool). b || list_any t rest) (sym (any_map t (λ k. (k, n)) ks))

module _ (t : KeyAt → Bool) (path : Names) where
  abbrev passes : List Doc → ℕ → ℕ → Bool
  passes ds n i = list_any (λ k. t (k, n)) (keys (document_at ds i) path)

  some_entry : (n : ℕ) (ds : List Doc) (i : ℕ) → i < length ds → passes ds (n + i) i ≡ true → list_any t (entries_from false path n ds) ≡ true
  some_entry n [] i lt h = absurd (omega arith)
  some_entry n (d ∷ ds) zero lt h = any_entry t path n d ds ∙ or_left _ _ (subst (λ (m : ℕ). passes (d ∷ ds) m 0 ≡ true) (add-zero n) h)
  some_entry n (d ∷ ds) (suc i) lt h =
      let e : n + suc i ≡ n + 1 + i = omega arith in
      any_entry t path n d ds ∙ or_right _ _ (some_entry (n + 1) ds i (omega arith) (subst (λ (m : ℕ). passes ds m i ≡ true) e h))

  no_entry : (n : ℕ) (ds : List Doc) → ((i : ℕ) → i < length ds → passes ds (n + i) i ≡ false) → list_any t (entries_from false path n ds) ≡ false
  no_entry n [] h = refl
  no_entry n (d ∷ ds) h =
      any_entry t path n d ds
      ∙ or_from _ _ (subst (λ (m : ℕ). passes (d ∷ ds) m 0 ≡ false) (add-zero n) (h 0 (omega arith)))
      (no_entry (n + 1) ds (λ i lt. let e : n + suc i ≡ n + 1 + i = omega arith in subst (λ (m : ℕ). passes ds m i ≡ false) e (h (suc i) (omega arith))))

-- each document has an entry
place_there : (path : Names) (n : ℕ) (ds : List Doc) (p : ℕ) → list_any (λ e. e.1 == p) (entries_from false path n ds) ≡ (not (nat_lt p n) && nat_lt p (n + length ds))
place_there path n [] p = grind (arith, nat_tests)
place_there path n (d ∷ ds) p =
    let rest = list_any (λ e. e.1 == p) (entries_from false path (n + 1) ds) in
    let here = every (n == p) (keys (doc (fields_of d)) path) (has_a_key (doc (fields_of d)) path) in
    joined rest (length ds) (place_there path (n + 1) ds p) (any_entry (λ e. e.1 == p) path n d ds ∙ ap (λ (b : Bool). b || rest) here)
  where
    every : (b : Bool) (ks : List Tree) → ks ≢ [] → list_any (λ k. b) ks ≡ b
    every b [] some = absurd (some refl)
    every true (k ∷ ks) some = refl
    every false (k ∷ ks) some = list_any_none (λ k. false) ks (λ i d lt. refl)

    joined : {b : Bool} (r : Bool) (l : ℕ) → r ≡ (not (nat_lt p (n + 1)) && nat_lt p (n + 1 + l)) → b ≡ ((n == p) || r) → b ≡ (not (nat_lt p n) && nat_lt p (n + suc l))
    joined r l h e = grind (arith, nat_tests)

-- ---- the first entry of each document

abbrev at_one : KeyAt → KeyAt → Bool
at_one = on (λ e. e.1) (λ n m. n == m)

other_place : (n m p : ℕ) → (n == p) ≡ false → (not (n == m) && (m == p)) ≡ (m == p)
other_place n m p h = grind (arith, nat_tests)

-- places by their keys, then by number
abbrev place_by : (Tree → Tree → Ordering) → (ℕ → Tree) → ℕ → ℕ → Ordering
place_by by key i j = ordering_then (by (key i) (key j)) (nat_cmp i j)

sorted_pair : (o p : Ordering) (n m : ℕ) → p ≡ ordering_reverse o → is_lt (ordering_then p (nat_cmp m n)) ≡ false → not (n == m) ≡ true → ordering_then o (nat_cmp n m) ≡ Less
sorted_pair o p n m e later other = grind (arith, nat_tests)

module _ (R : Tree → Tree → Ordering) (total : IsTotalOrder R) (key : ℕ → Tree) where
  -- some entry of the same place has the sort key of this place
  abbrev There : List KeyAt → KeyAt → Type 0
  There es e = list_any (λ x. (x.1 == e.1) && is_eq (R x.0 (key e.1))) es ≡ true

  -- if an entry is the first of its document, its key is the sort key
  first_is : (e : KeyAt) (es : List KeyAt) → is_lt (R e.0 (key e.1)) ≡ false → AllByRecursion (λ x. is_lt (entry_by R x e) ≡ false) es → There (e ∷ es) e → R e.0 (key e.1) ≡ Equal
  first_is e es low up there =
      let a = Any-from_list_any (λ x. (x.1 == e.1) && is_eq (R x.0 (key e.1))) (e ∷ es) there in
      let x : KeyAt = a.1 in
      let all : All (λ y. is_lt (entry_by R y e) ≡ false) (e ∷ es) = All-from_recursion _ (e ∷ es) (ap is_lt (tied_itself (by_total total) e), up) in
      let later : is_lt (entry_by R x e) ≡ false = subst (λ (y : KeyAt). is_lt (entry_by R y e) ≡ false) a.3 (all a.0 x a.2) in
      let tied : R x.0 (key e.1) ≡ Equal = equal_is (R x.0 (key e.1)) (and_parts (x.1 == e.1) _ a.4).1 in
      neither_less (R e.0 (key e.1)) (R (key e.1) e.0) (total.antisymm e.0 (key e.1)) low
      (sym (ap is_lt (total.congr x.0 (key e.1) e.0 tied)) ∙ first_not_less (R x.0 e.0) (nat_cmp x.1 e.1) later)

  keyed : (es : List KeyAt) → Rises R es → All (λ e. is_lt (R e.0 (key e.1)) ≡ false) es → All (λ f. There es f → R f.0 (key f.1) ≡ Equal) (firsts at_one es)
  keyed [] up low = All-nil _
  keyed (e ∷ es) up low =
      let low_after = All-tail (λ x. is_lt (R x.0 (key x.1)) ≡ false) e es low in
      All-cons (λ f. There (e ∷ es) f → R f.0 (key f.1) ≡ Equal) e (filter (λ x. not (at_one e x)) (firsts at_one es))
      (first_is e es (All-head (λ x. is_lt (R x.0 (key x.1)) ≡ false) e es low) up.0)
      (λ i d lt there. All-filter (λ x. not (at_one e x)) (λ f. There es f → R f.0 (key f.1) ≡ Equal) (firsts at_one es) (keyed es up.1 low_after) i d lt
      (rw (not-true _ (filter_passes (λ x. not (at_one e x)) (firsts at_one es) i d lt)) at there))

  -- f is not before e, and of another place
  abbrev After : KeyAt → KeyAt → Type 0
  After e f = (is_lt (entry_by R f e) ≡ false) × (not (e.1 == f.1) ≡ true)

  ordered : (es : List KeyAt) → Rises R es → AllPairs After (firsts at_one es)
  ordered [] up = λ i j d a b. absurd (omega arith)
  ordered (e ∷ es) up =
      let rest = firsts at_one es in
      let above = all_firsts at_one (λ f. is_lt (entry_by R f e) ≡ false) es (All-from_recursion (λ f. is_lt (entry_by R f e) ≡ false) es up.0) in
      AllPairs-cons After e (filter (λ x. not (at_one e x)) rest)
      (λ i d lt. (All-filter (λ x. not (at_one e x)) (λ f. is_lt (entry_by R f e) ≡ false) rest above i d lt, filter_passes (λ x. not (at_one e x)) rest i d lt))
      (AllPairs-filter After (λ x. not (at_one e x)) rest (ordered es up.1))

  placed : (x y : KeyAt) → After x y → R x.0 (key x.1) ≡ Equal → R y.0 (key y.1) ≡ Equal → place_by R key x.1 y.1 ≡ Less
  placed x y later ex ey =
      let keys = total.congr x.0 (key x.1) y.0 ex ∙ alike_right total y.0 (key y.1) (key x.1) ey in
      sorted_pair (R (key x.1) (key y.1)) (R y.0 x.0) x.1 y.1 (total.antisymm y.0 x.0 ∙ ap ordering_reverse keys) later.0 later.1

-- ---- the places, one after the other

pub record AreOrdered (dir : Dir) (path : Names) (ds : List Doc) (es : List KeyAt) : Type 0 where
  pub same : (test : KeyAt → Bool) → count_by test es ≡ count_by test (entries_of false path ds)
  pub rises : Rises (dir_cmp dir) es

pub upward : (path : Names) (ds : List Doc) (es : List KeyAt) → AreEntries false path ds es → AreOrdered Up path ds es
upward path ds es a = record { same = a.same; rises = ascends (λ x y. is_lt (entry_cmp x y)) (ranks_by entry_total (λ x. x)) es a.sorted }

pub from_above : (path : Names) (ds : List Doc) (es : List KeyAt) → AreEntries false path ds es → AreOrdered Down path ds (downward es)
from_above path ds es a = record { same = λ test. count_downward test es ∙ a.same test; rises = downward_rises es (ascends (λ x y. is_lt (entry_cmp x y)) (ranks_by entry_total (λ x. x)) es a.sorted) }

module _ (dir : Dir) (path : Names) (ds : List Doc) (es : List KeyAt) (a : AreOrdered dir path ds es) where
  abbrev key : ℕ → Tree
  key n = sort_key dir (document_at ds n) path

  any_same : (t : KeyAt → Bool) → list_any t es ≡ list_any t (entries_of false path ds)
  any_same t = any_as_counts t es (entries_of false path ds) (a.same t)

  places_are : (p : ℕ) → list_any (λ e. e.1 == p) es ≡ nat_lt p (length ds)
  places_are p = any_same (λ e. e.1 == p) ∙ place_there path 0 ds p ∙ grind (arith, nat_tests)

  places_below : All (λ e. e.1 < length ds) es
  places_below i d lt = let p = (get_or es i d).1 in ltb-true p (length ds) (sym (places_are p) ∙ list_any_at (λ e. e.1 == p) es i d lt (eq-eqb p p refl))

  low : All (λ e. is_lt (dir_cmp dir e.0 (key e.1)) ≡ false) es
  low i d lt = false_from_ne_true _ (λ h.
      let t : KeyAt → Bool = λ e. is_lt (dir_cmp dir e.0 (key e.1)) in
      let some : list_any t (entries_of false path ds) ≡ true = sym (any_same t) ∙ list_any_at t es i d lt h in
      let none : list_any t (entries_of false path ds) ≡ false = no_entry t path 0 ds (λ n below. let z : n ≡ 0 + n = omega arith in
      subst (λ (m : ℕ). list_any (λ k. t (k, m)) (keys (document_at ds n) path) ≡ false) z (sort_key_best dir (document_at ds n) path).low) in cc)

  there : (p : ℕ) → p < length ds → list_any (λ e. (e.1 == p) && is_eq (dir_cmp dir e.0 (key p))) es ≡ true
  there p lt =
      let z : 0 + p ≡ p = omega arith in
      any_same (λ e. (e.1 == p) && is_eq (dir_cmp dir e.0 (key p)))
      ∙ some_entry (λ e. (e.1 == p) && is_eq (dir_cmp dir e.0 (key p))) path 0 ds p lt
      (ap (λ (b : Bool). list_any (λ k. b && is_eq (dir_cmp dir k (key p))) (keys (document_at ds p) path)) (eq-eqb (0 + p) p z) ∙ (sort_key_best dir (document_at ds p) path).there)

  -- a sort by one path
  one_path : (o r : Ordering) → ordering_then o r ≡ Less → is_lt (ordering_then (ordering_then o Equal) r) ≡ true
  one_path o r h = grind arith

  walks : WalksAll dir path ds (map (λ e. e.1) (firsts at_one es))
  walks = record {
    order = λ i j d before inside.
        let fs = firsts at_one es in
        let n = length-map fs (λ e. e.1) in
        let none : KeyAt = (leaf null, 0) in
        let x = get_or fs i none in
        let y = get_or fs j none in
        let below = all_firsts at_one (λ e. e.1 < length ds) es places_below in
        let first = keyed (dir_cmp dir) (dir_total dir) key es a.rises low in
        rw (get_or-map (λ e. e.1) fs i none d (omega arith), get_or-map (λ e. e.1) fs j none d (omega arith))
        (one_path (dir_cmp dir (key x.1) (key y.1)) (nat_cmp x.1 y.1)
        (placed (dir_cmp dir) (dir_total dir) key x y (ordered (dir_cmp dir) (dir_total dir) key es a.rises i j none before (omega arith))
        (first i none (omega arith) (there x.1 (below i none (omega arith)))) (first j none (omega arith) (there y.1 (below j none (omega arith))))));
    all = λ p. sym (any_map (λ q. q == p) (λ e. e.1) (firsts at_one es)) ∙ any_firsts at_one (λ e. e.1 == p) (λ x y h. other_place x.1 y.1 p h) es ∙ places_are p;
  }

  pub in_range_for : (n : ℕ) → n ≡ length ds → All (λ p. p < n) (map (λ e. e.1) es)
  in_range_for n size = All-map (λ p. p < n) (λ e. e.1) es (λ i d lt. let low = places_below i d lt in omega arith)

-- ---- flags of visited places instead of a list of them

fresh_firsts : (visited : List Bool) (ps : List ℕ) → All (λ p. p < length visited) ps → fresh_places visited ps ≡ filter (λ p. not (get_or visited p true)) (firsts (λ n m. n == m) ps)
fresh_firsts visited [] below = refl
fresh_firsts visited (p ∷ ps) below =
    let n = length-set visited p true in
    let lt : p < length visited = All-head (λ q. q < length visited) p ps below in
    let rest = All-tail (λ q. q < length visited) p ps below in
    go (get_or visited p true) refl lt (fresh_firsts visited ps rest) (fresh_firsts (set visited p true) ps (λ k d low. let r = rest k d low in omega arith))
  where
    new : List Bool → ℕ → Bool
    new s q = not (get_or s q true)

    all : List ℕ
    all = firsts (λ n m. n == m) ps

    others : List ℕ
    others = filter (λ q. not (p == q)) all

    visited_after : (q : ℕ) → p < length visited → new (set visited p true) q ≡ (not (p == q) && new visited q)
    visited_after q lt = elim (cases_eq q p) [
      | inl e ↦ (let s = get_or-set_same visited p true true lt in grind (arith, nat_tests))
      | inr n ↦ (let s = get_or-set_other visited p q true true n in grind (arith, nat_tests))
    ]

    passed : (q : ℕ) → get_or visited p true ≡ true → (not (p == q) && new visited q) ≡ new visited q
    passed q e = grind (arith, nat_tests)

    go : (b : Bool) → get_or visited p true ≡ b → p < length visited → fresh_places visited ps ≡ filter (new visited) all → fresh_places (set visited p true) ps ≡ filter (new (set visited p true)) all
        → cond b (fresh_places visited ps) (p ∷ fresh_places (set visited p true) ps) ≡ cond (not b) (p ∷ filter (new visited) others) (filter (new visited) others)
    go true e lt on after = on ∙ sym (filter_both (new visited) (λ q. not (p == q)) all ∙ filter_agree _ (new visited) (λ q. passed q e) all)
    go false e lt on after = ap (λ (l : List ℕ). p ∷ l) (after ∙ filter_agree (new (set visited p true)) _ (λ q. visited_after q lt) all ∙ sym (filter_both (new visited) (λ q. not (p == q)) all))

-- a walk from its start
pub walks_fresh : (dir : Dir) (path : Names) (ds : List Doc) (es : List KeyAt) (visited : List Bool) → AreOrdered dir path ds es
    → length visited ≡ length ds → ((k : ℕ) (d : Bool) → k < length ds → get_or visited k d ≡ false)
    → WalksAll dir path ds (fresh_places visited (map (λ e. e.1) es))
walks_fresh dir path ds es visited a size none =
    let ps = map (λ e. e.1) es in
    let below : All (λ p. p < length visited) ps = in_range_for dir path ds es a (length visited) size in
    let all = firsts (λ n m. n == m) ps in
    let fresh = all_pass (λ p. not (get_or visited p true)) all (λ i d lt.
    let low = all_firsts (λ n m. n == m) (λ p. p < length visited) ps below i d lt in ap not (none (get_or all i d) true (omega arith))) in
    subst (WalksAll dir path ds) (firsts_map (λ e. e.1) (λ n m. n == m) es ∙ sym fresh ∙ sym (fresh_firsts visited ps below)) (walks dir path ds es a)
