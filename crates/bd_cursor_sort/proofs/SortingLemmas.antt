-- The matching places that are kept while a source is read.
use Rattle.std.proofs.Common.{◌≡◌, ◌-◌, ◌<◌, ◌≤◌, ℕ, Bool, true, false, List, [], ◌∷◌, ◌++◌, length, get_or, take, inl, inr, refl, sym, ap, ◌∙◌, subst, arith, zero, suc, append_assoc, ◌&&◌}
use Rattle.std.proofs.Common.{cond, not, filter, Option, Some, None, IfSome, ◌+◌}
use Rattle.std.proofs.lemmas.Bool.{cond_both, false_from_ne_true, ltb-false, ltb-true, not-false, not-true}
use Rattle.std.proofs.lemmas.List.Elements.{All-head, All-nil, All-push, All-take}
use Rattle.std.proofs.{lemmas.List.FromFn.length-range_with_len, lemmas.List.Sorted.All-permutation, lemmas.List.Sorted.length_permutation, lemmas.List.Filters.length-filter_both}
use Rattle.std.proofs.{lemmas.Option.IfSome_then, lemmas.List.append-nil, lemmas.List.length-append, lemmas.List.take_all, Math.Seq.take-append_seam, lemmas.Cmp.on_total}
use Rattle.std.specs.{Cmp.IsStrictWeakOrder, Cmp.IsTotalOrder, List.All, List.range_with_len}
use Rattle.bd_cursor_model.specs.Answer.{insert, insert_all, Selection, before, matching, ordered, at_most}
use Rattle.bd_cursor_model.specs.{Laws.IsStrictOrder, Laws.IsAscending, Source.IsSource, Source.is_after, Source.passes, Source.places_after}
use Rattle.bd_cursor_model.proofs.AnswerLemmas.{take_rises, before_strict}
use Rattle.bd_cursor_model.proofs.StableLemmas.{apart_left, insert_all_append, rising_is_inserted, apart_on, firsts_end, firsts_on, same_firsts, inserted_permutes, inserted_sorted}
use Rattle.bd_cursor_model.proofs.OrderLemmas.{Apart, In, Rises, in_at, not_both, filter_apart}
use Rattle.bd_cursor_model.proofs.SourceLemmas.{permuted_apart, sorted_rises, batch_sorted, below_more, pairs_apart, batch_in_order}
use Rattle.bd_path.proofs.SortLemmas.{sort_total}
use Rattle.bd_cursor_sort.specs.{inside.Sorting.AreFirst, inside.Sorting.IsEnd, inside.Sorting.is_before_pivot, inside.Sorting.has_enough, inside.Sorting.IsPivot, inside.Sorting.pivot_place, Selection.matches_at_of, Selection.order_of_keys}
use Rattle.bd_cursor_sort.specs.{Selection.selection_for, Selection.selection_of, declared.pivot.Pivot.Pivot}
use Rattle.bd_path.specs.{Sort.SortPath, Sort.sort_paths}
use Rattle.bd_value.specs.Tree.{Doc}
use Rattle.bd_query_filter.specs.{Filter.Filter, Filter.filter_tree}
use Rattle.bd_cursor_sort.proofs.PivotLemmas.{keys_strict, keys_total, keys_weak}
use Rattle.bd_cursor_request.specs.declared.request.Request.{Request}
use Rattle.bd_bson_dump.specs.Collection.{document_at}

-- the first k places of a list, none of which e comes before
abbrev pub Stays : (ℕ → ℕ → Bool) → ℕ → ℕ → List ℕ → Type 0
Stays lt zero e xs = Unit {0}
Stays lt (suc k) e [] = ⊥
Stays lt (suc k) e (x ∷ xs) = (lt e x ≡ false) × Stays lt k e xs

stays_less : (lt : ℕ → ℕ → Bool) (k e : ℕ) (xs : List ℕ) → Stays lt (suc k) e xs → Stays lt k e xs
stays_less lt zero e xs h = tt
stays_less lt (suc k) e [] h = absurd h
stays_less lt (suc k) e (x ∷ xs) h = (h.0, stays_less lt k e xs h.1)

not_after : {lt : ℕ → ℕ → Bool} → IsStrictOrder lt → (e q x : ℕ) → lt q x ≡ true → lt e x ≡ false → lt e q ≡ false
not_after {lt = lt} o e q x a b = false_from_ne_true (lt e q) (λ f. cc (o.transitive e q x f a, b))

stays_insert : {lt : ℕ → ℕ → Bool} → IsStrictOrder lt → (k e q : ℕ) (xs : List ℕ) → Stays lt k e xs → Stays lt k e (insert lt q xs)
stays_insert o zero e q xs h = tt
stays_insert o (suc k) e q [] h = absurd h
stays_insert {lt = lt} o (suc k) e q (x ∷ xs) h = cond_both (lt q x) (q ∷ x ∷ xs) (x ∷ insert lt q xs) (λ ys. Stays lt (suc k) e ys)
    (λ f. (not_after o e q x f h.0, stays_less lt k e (x ∷ xs) h)) (λ f. (h.0, stays_insert o k e q xs h.1))

-- a place that does not come before e is inserted after them
refused_insert : {lt : ℕ → ℕ → Bool} → IsStrictWeakOrder lt → (k e p : ℕ) (xs : List ℕ) → Stays lt k e xs → lt p e ≡ false → take k (insert lt p xs) ≡ take k xs
refused_insert w zero e p xs h f = refl
refused_insert w (suc k) e p [] h f = absurd h
refused_insert {lt = lt} w (suc k) e p (x ∷ xs) h f =
    rw (w.chain p e x f h.0) (ap (λ ys. x ∷ ys) (refused_insert w k e p xs h.1 f))

-- the member at i is the last of the first i + 1 of a rising list
rises_stays : {lt : ℕ → ℕ → Bool} → IsStrictOrder lt → (xs : List ℕ) (i d : ℕ) → Rises lt xs → i < length xs → Stays lt (suc i) (get_or xs i d) xs
rises_stays o [] i d up l = absurd (omega arith)
rises_stays o (x ∷ xs) zero d up l = (o.irreflexive x, tt)
rises_stays {lt = lt} o (x ∷ xs) (suc i) d up l = (not_both o x (get_or xs i d) (up.0 (get_or xs i d) (in_at xs i d (omega arith))), rises_stays o xs i d up.1 (omega arith))

-- lists without repeats
in_with : (xs ys : List ℕ) (p x : ℕ) → In x (xs ++ ys) → In x (xs ++ p ∷ ys)
in_with [] ys p x h = inr h
in_with (z ∷ xs) ys p x (inl e) = inl e
in_with (z ∷ xs) ys p x (inr h) = inr (in_with xs ys p x h)

apart_without : (xs ys : List ℕ) (p : ℕ) → Apart (xs ++ p ∷ ys) → Apart (xs ++ ys)
apart_without [] ys p h = h.1
apart_without (x ∷ xs) ys p h = (λ i. h.0 (in_with xs ys p x i), apart_without xs ys p h.1)

-- the kept places and those still to come have the same first ones as all
pub record AreKept (lt : ℕ → ℕ → Bool) (most : ℕ) (kept rest all : List ℕ) : Type 0 where
  pub firsts : take most (insert_all lt [] (kept ++ rest)) ≡ take most (insert_all lt [] all)
  pub apart : Apart (kept ++ rest)

-- a place gets among the first of the kept ones only if it comes before e
abbrev pub EndsAt : (ℕ → ℕ → Bool) → ℕ → List ℕ → ℕ → Type 0
EndsAt lt most kept e = Stays lt most e (insert_all lt [] kept)

pub kept_none : (lt : ℕ → ℕ → Bool) (most : ℕ) (all : List ℕ) → Apart all → AreKept lt most [] all all
kept_none lt most all apart = record { firsts = refl; apart = apart }

pub kept_refused : {lt : ℕ → ℕ → Bool} → IsStrictWeakOrder lt → (most e p : ℕ) (kept rest all : List ℕ) → EndsAt lt most kept e → lt p e ≡ false
    → AreKept lt most kept (p ∷ rest) all → AreKept lt most kept rest all
kept_refused {lt = lt} w most e p kept rest all ends late h = record {
  firsts = ap (take most) (insert_all_append lt [] kept rest)
      ∙ same_firsts lt most (insert_all lt [] kept) (insert lt p (insert_all lt [] kept)) rest (sym (refused_insert w most e p (insert_all lt [] kept) ends late))
      ∙ ap (take most) (sym (insert_all_append lt [] kept (p ∷ rest)))
      ∙ h.firsts;
  apart = apart_without kept rest p h.apart;
}

pub kept_taken : (lt : ℕ → ℕ → Bool) (most p : ℕ) (kept rest all : List ℕ) → AreKept lt most kept (p ∷ rest) all → AreKept lt most (kept ++ p ∷ []) rest all
kept_taken lt most p kept rest all h = record { firsts = rw append_assoc h.firsts; apart = rw append_assoc h.apart }

pub ends_on : {lt : ℕ → ℕ → Bool} → IsStrictOrder lt → (most p e : ℕ) (kept : List ℕ) → EndsAt lt most kept e → EndsAt lt most (kept ++ p ∷ []) e
ends_on {lt = lt} o most p e kept h = rw (insert_all_append lt [] kept (p ∷ [])) (stays_insert o most e p (insert_all lt [] kept) h)

-- after the kept places are sorted and limited to the first ones
pub kept_first : {lt : ℕ → ℕ → Bool} → IsStrictOrder lt → IsStrictWeakOrder lt → (most : ℕ) (kept first rest all : List ℕ)
    → AreFirst lt most kept first → AreKept lt most kept rest all → AreKept lt most first rest all
kept_first {lt = lt} o w most kept first rest all are h =
    rw are.is (record {
      firsts = firsts_on o w most kept are.sorted rest are.same are.rises h.apart ∙ h.firsts;
      apart = apart_on most kept are.sorted rest are.same h.apart;
    })

pub ends_first : {lt : ℕ → ℕ → Bool} → IsStrictOrder lt → IsStrictWeakOrder lt → (most : ℕ) (kept first rest : List ℕ) → AreFirst lt most kept first
    → Apart (kept ++ rest) → 0 < most → most ≤ length first → EndsAt lt most first (get_or first (most - 1) 0)
ends_first {lt = lt} o w most kept first rest are apart some long =
    let last = get_or first (most - 1) 0 in
    let alone : Apart are.sorted = permuted_apart kept are.sorted are.same (apart_left kept rest apart) in
    let up : Rises lt first = rw are.is (take_rises lt most are.sorted (sorted_rises lt o w are.sorted are.rises alone)) in
    let each : Apart first = apart_left first rest (rw are.is (apart_on most kept are.sorted rest are.same apart)) in
    let e : suc (most - 1) ≡ most = omega arith in
    rw (rising_is_inserted o first first each up (λ x i. i) (λ x i. i)) (subst (λ k. Stays lt k last first) e (rises_stays o first (most - 1) 0 up (omega arith)))

pub kept_end : {lt : ℕ → ℕ → Bool} → IsStrictOrder lt → IsStrictWeakOrder lt → (most : ℕ) (kept first all : List ℕ) → AreFirst lt most kept first
    → AreKept lt most kept [] all → first ≡ take most (insert_all lt [] all)
kept_end {lt = lt} o w most kept first all are h =
    are.is ∙ firsts_end o w most kept are.sorted are.same are.rises h.apart ∙ h.firsts

-- a place may be omitted if it does not match, or is not before the end of the first ones
pub omitted : {lt : ℕ → ℕ → Bool} → IsStrictWeakOrder lt → (most : ℕ) (pass : ℕ → Bool) (end : Option ℕ) (kept old new all : List ℕ) (p : ℕ)
    → old ≡ p ∷ new → IfSome end (EndsAt lt most kept) → (pass p && is_before_pivot lt end p) ≡ false
    → AreKept lt most kept (filter pass old) all → AreKept lt most kept (filter pass new) all
omitted {lt = lt} w most pass end kept old new all p e ends late h = go (pass p) end ends late (rw e at h)
  where
    go : (b : Bool) (end : Option ℕ) → IfSome end (EndsAt lt most kept) → (b && is_before_pivot lt end p) ≡ false
        → AreKept lt most kept (cond b (p ∷ filter pass new) (filter pass new)) all → AreKept lt most kept (filter pass new) all
    go false end ends late h = h
    go true None ends late h = absurd cc
    go true (Some q) ends late h = kept_refused w most q p kept (filter pass new) all ends late h

-- each place is that of a document
pub first_below : {lt : ℕ → ℕ → Bool} {most : ℕ} {old new : List ℕ} (n : ℕ) → AreFirst lt most old new → All (λ x. x < n) old → All (λ x. x < n) new
first_below {most = most} {old = old} n are h = rw are.is (All-take (λ x. x < n) most are.sorted (All-permutation (λ x. x < n) old are.sorted are.same h))

-- the state of a loop over a source: the kept places, and the pivot at the end of the first ones
pub record IsState (ds : List Doc) (ss : List SortPath) (most : ℕ) (pass : ℕ → Bool) (rest all : List ℕ) (places : List ℕ) (end : Option Pivot) : Type 0 where
  pub kept : AreKept (before (order_of_keys ds ss)) most places (filter pass rest) (filter pass all)
  pub below : All (λ p. p < length ds) places
  pub remaining : All (λ p. p < length ds) rest
  pub pivot : IfSome end (IsPivot ds ss)
  pub ends : IfSome (pivot_place end) (EndsAt (before (order_of_keys ds ss)) most places)

module _ {ds : List Doc} {ss : List SortPath} {most : ℕ} {pass : ℕ → Bool} {all : List ℕ} where
  pub state_none : {matches_at : ℕ → Bool} → IsSource (length ds) matches_at all → IsState ds ss most pass all all [] None
  state_none source = record {
    kept = kept_none (before (order_of_keys ds ss)) most (filter pass all) (filter_apart pass all (pairs_apart all source.distinct));
    below = All-nil (λ p. p < length ds);
    remaining = source.below;
    pivot = tt;
    ends = tt;
  }

  pub state_omitted : {old new kept : List ℕ} {end : Option Pivot} {p : ℕ} → old ≡ p ∷ new → (pass p && is_before_pivot (before (order_of_keys ds ss)) (pivot_place end) p) ≡ false
      → IsState ds ss most pass old all kept end → IsState ds ss most pass new all kept end
  state_omitted {old = old} {new = new} {kept = kept} {end = end} {p = p} e late h = record {
    kept = omitted (keys_weak ds ss) most pass (pivot_place end) kept old new (filter pass all) p e h.ends late h.kept;
    below = h.below;
    remaining = below_more (length ds) old new p e h.remaining;
    pivot = h.pivot;
    ends = h.ends;
  }

  pub state_taken : {old new kept : List ℕ} {end : Option Pivot} {p : ℕ} → old ≡ p ∷ new → pass p ≡ true
      → IsState ds ss most pass old all kept end → IsState ds ss most pass new all (kept ++ p ∷ []) end
  state_taken {old = old} {new = new} {kept = kept} {end = end} {p = p} e is h = record {
    kept = kept_taken (before (order_of_keys ds ss)) most p kept (filter pass new) (filter pass all) (rw (e, is) at h.kept);
    below = All-push (λ x. x < length ds) kept p h.below (All-head (λ x. x < length ds) p new (rw e at h.remaining));
    remaining = below_more (length ds) old new p e h.remaining;
    pivot = h.pivot;
    ends = IfSome_then (pivot_place end) h.ends (λ q f. ends_on (keys_strict ds ss) most p q kept f);
  }

  pub state_limited : {remaining kept first : List ℕ} {old end : Option Pivot} → 0 < most → AreFirst (before (order_of_keys ds ss)) most kept first
      → IfSome end (IsPivot ds ss) → IsEnd most first (pivot_place end) → IsState ds ss most pass remaining all kept old → IsState ds ss most pass remaining all first end
  state_limited {remaining = remaining} {kept = kept} {first = first} {end = end} some are pivot is h = record {
    kept = kept_first (keys_strict ds ss) (keys_weak ds ss) most kept first (filter pass remaining) (filter pass all) are h.kept;
    below = first_below (length ds) are h.below;
    remaining = h.remaining;
    pivot = pivot;
    ends = go (pivot_place end) is;
  }
    where
      go : (q : Option ℕ) → IsEnd most first q → IfSome q (EndsAt (before (order_of_keys ds ss)) most first)
      go None f = tt
      go (Some q) f = rw f.1 (ends_first (keys_strict ds ss) (keys_weak ds ss) most kept first (filter pass remaining) are h.kept.apart some f.0)

-- all places that come after another, in order
pub all_in_order : (a : Selection) → IsTotalOrder a.by → (remaining : List ℕ) → IsSource a.count a.matches_at remaining → (last : Option ℕ)
    → insert_all (before a.by) [] (filter (passes a.matches_at a.by last) remaining) ≡ places_after a last
all_in_order a o remaining source last =
    let ws = filter (passes a.matches_at a.by last) remaining in
    batch_sorted a o remaining source last (insert_all (before a.by) [] ws) (inserted_permutes (before a.by) ws)
    (inserted_sorted (before_strict a.by o) ws (filter_apart (passes a.matches_at a.by last) remaining (pairs_apart remaining source.distinct)))

filter_fewer : (g : ℕ → Bool) (xs : List ℕ) → length (filter g xs) ≤ length xs
filter_fewer g xs = omega (arith, length-filter_both g (λ x. not (g x)) (λ x. refl) xs)

-- there are at most as many places as documents
pub places_few : (a : Selection) (last : Option ℕ) → length (places_after a last) ≤ a.count
places_few a last =
    let fewer : length (places_after a last) ≤ length (ordered a) = filter_fewer (is_after (before a.by) last) (ordered a) in
    let moved : length (ordered a) ≡ length (matching a) = length_permutation (matching a) (ordered a) (inserted_permutes (before a.by) (matching a)) in
    let matches_at : length (matching a) ≤ length (range_with_len 0 a.count) = filter_fewer a.matches_at (range_with_len 0 a.count) in
    omega (arith, length-range_with_len 0 a.count)

-- once nothing remains
pub state_end : {ds : List Doc} {ss : List SortPath} {most : ℕ} {remaining all kept first : List ℕ} {end : Option Pivot} (f : Filter) (skip limit : ℕ) (last : Option ℕ)
    → IsSource (length ds) (matches_at_of ds f) all → remaining ≡ [] → AreFirst (before (order_of_keys ds ss)) most kept first
    → IsState ds ss most (passes (matches_at_of ds f) (order_of_keys ds ss) last) remaining all kept end → first ≡ take most (places_after (selection_for ds f ss skip limit) last)
state_end {ds = ds} {ss = ss} {most = most} {all = all} {kept = kept} {first = first} f skip limit last source none are h =
    kept_end (keys_strict ds ss) (keys_weak ds ss) most kept first (filter (passes (matches_at_of ds f) (order_of_keys ds ss) last) all) are (rw none at h.kept)
    ∙ ap (take most) (all_in_order (selection_for ds f ss skip limit) (keys_total ds ss) all source last)

pub wanted_in_order : (ds : List Doc) (r : Request) (remaining : List ℕ) (last : Option ℕ) → IsSource (length ds) (matches_at_of ds (filter_tree r.filter)) remaining
    → IsAscending (before (order_of_keys ds (sort_paths r.sort.items))) remaining
    → filter (passes (matches_at_of ds (filter_tree r.filter)) (order_of_keys ds (sort_paths r.sort.items)) last) remaining ≡ places_after (selection_of ds r) last
wanted_in_order ds r remaining last source up = batch_in_order (selection_of ds r) (on_total (document_at ds) (sort_total (sort_paths r.sort.items))) remaining source up last

-- if nothing remains, all was taken
pub all_taken : (test : ℕ → Bool) (most : Option ℕ) (ps remaining all : List ℕ) → ps ++ filter test remaining ≡ all → remaining ≡ [] → IfSome most (λ n. length ps ≤ n) → ps ≡ at_most most all
all_taken test None ps remaining all fact none few = sym (append-nil ps) ∙ rw none at fact
all_taken test (Some n) ps remaining all fact none few = sym (take_all n ps few) ∙ ap (take n) (sym (append-nil ps) ∙ rw none at fact)

-- if as many were taken as are requested, they are the first
pub first_taken : (most : Option ℕ) (ps xs all : List ℕ) (count : ℕ) → count ≡ length ps → ps ++ xs ≡ all → has_enough most count ≡ true → IfSome most (λ n. length ps ≤ n) → ps ≡ at_most most all
first_taken None ps xs all count long fact full few = absurd cc
first_taken (Some n) ps xs all count long fact full few =
    let e : length ps ≡ n = omega (arith, few, ltb-false count n (not-true _ full)) in
    rw (← e, ← fact) (sym (take-append_seam ps xs))

-- if fewer were taken than are requested, one more may be taken
pub few_more : (most : Option ℕ) (ps qs : List ℕ) (p count : ℕ) → count ≡ length ps → qs ≡ ps ++ p ∷ [] → has_enough most count ≡ false → IfSome most (λ n. length qs ≤ n)
few_more None ps qs p count long e h = tt
few_more (Some n) ps qs p count long e h = let l : length qs ≡ length ps + 1 = ap length e ∙ length-append ps (p ∷ []) in omega (arith, ltb-true count n (not-false _ h))
