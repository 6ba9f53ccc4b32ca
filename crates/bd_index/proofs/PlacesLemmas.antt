-- The places of the entries inside bounds: the search for spans, their order, the gaps between them, and what they cover.
use Rattle.std.proofs.Common.{◌≡◌, ◌+◌, ◌-◌, ◌<◌, ◌≤◌, ℕ, zero, suc, Bool, true, false, cond, List, [], ◌∷◌, ◌++◌, length, get_or, map, filter, take, drop, max, All, eqb}
use Rattle.std.proofs.Common.{refl, sym, ap, ap₂, ◌∙◌, arith, rules}
use Rattle.std.specs.Prelude.{◌==◌, ◌&&◌, ◌||◌, not, nat_lt, slice_range}
use Rattle.std.specs.{List.AllWithin, List.count_by, List.dedup, List.dedup_from, List.list_any, Ordering.is_lt}
use Rattle.std.specs.List.Sorted.{IsNonDecreasingBy, IsSortedBy, IsPartitionedBy, IsPartitionPoint}
use Rattle.std.proofs.{lemmas.Bool.false_from_ne_true, lemmas.Bool.Decides.nat_tests, lemmas.List.Elements.All-push, lemmas.List.Elements.filter-append}
use Rattle.std.proofs.{lemmas.List.Folds.drop_split, lemmas.List.Folds.list_any-append, lemmas.List.Sums.length-filter}
use Rattle.std.proofs.lemmas.List.{at_drop_more, drop_all, drop-map, get_or_default, get_or-drop, get_or-take, length-drop, length-map, length-take, map-append, take_all, take-map}
use Rattle.bd_value.specs.Tree.{Tree}
use Rattle.bd_bson_dump.specs.{Collection.bytes_of, Collection.documents, declared.collection.Dump.Dump}
use Rattle.bd_path.specs.PathNames.{names_of}
use Rattle.bd_index_bounds.specs.{Bounds.KeyBounds, Bounds.KeySet, Bounds.intersection, Bounds.is_among, Bounds.union, BoundsView.keys_between, BoundsView.keys_within}
use Rattle.bd_index_bounds.specs.{BoundsView.is_before, declared.bounds.Bounds.Bounds, declared.bounds.Bounds.TheVariants.Range, declared.bounds.Cutoff.Cutoff}
use Rattle.bd_index_bounds.specs.declared.bounds.Bounds.TheFolds as folds
use Rattle.bd_index_bounds.proofs.{FilterBoundsLemmas.falls_once, FilterBoundsLemmas.one_off}
use Rattle.bd_index.specs.Entries.{KeyAt, entries_of, entry_cmp}
use Rattle.bd_index.specs.{IndexView.IsIndexOf, IndexView.KeepsEntries, declared.entry.Entry.Entry, declared.index.Index.Index, declared.places.Span.Span}
use Rattle.bd_index.specs.Places.{has_key_in}
use Rattle.bd_index.specs.inside.Places.{AreInOrder, CoverKeys, is_covered, is_in_span, pieces}
use Rattle.bd_index.proofs.EntryLemmas.{all_pass, any_as_counts, any_filter, any_map, keys_rise, none_pass}

-- ---- the search for a cutoff

-- the entries before a cutoff come before those that are not
pub parted : (cutoff : Cutoff) (es : List KeyAt) → IsSortedBy (λ a b. is_lt (entry_cmp a b)) es → IsPartitionedBy (λ e. is_before cutoff e.0) es
parted cutoff es sorted i j d le lt h = falls_once cutoff (get_or es i d).0 (get_or es j d).0 (keys_rise es sorted i j d le lt) h

pub below_next : {A : Type 0} (p : A → Bool) (es : List A) (m : ℕ) → IsPartitionedBy p es → m < length es → ((d : A) → p (get_or es m d) ≡ true)
    → AllWithin (λ e. p e ≡ true) es 0 (m + 1)
below_next p es m up lt here k d low high = up k m d (omega arith) lt (here d)

pub above_next : {A : Type 0} (p : A → Bool) (es : List A) (m : ℕ) → IsPartitionedBy p es → ((d : A) → p (get_or es m d) ≡ false)
    → AllWithin (λ e. p e ≡ false) es m (length es)
above_next p es m up here k d low high = false_from_ne_true (p (get_or es k d)) (λ e. let f = up m k d low high e in let g = here d in cc)

-- what the test of an entry says
pub fact : (cutoff : Cutoff) (t : Tree) (e : KeyAt) (r b : Bool) → t ≡ e.0 → r ≡ is_before cutoff t → r ≡ b → is_before cutoff e.0 ≡ b
fact cutoff t e r b key is was = sym (ap (is_before cutoff) key) ∙ sym is ∙ was

pub between : (from to : Cutoff) (es : List KeyAt) (start until : ℕ) (s : Span) → s.from ≡ start → s.to ≡ max until start
    → IsPartitionPoint (λ e. is_before from e.0 ≡ true) (λ e. is_before from e.0 ≡ false) es start → IsPartitionPoint (λ e. is_before to e.0 ≡ true) (λ e. is_before to e.0 ≡ false) es until
    → (k : ℕ) (d : KeyAt) → k < length es → is_in_span k s ≡ keys_between from to (get_or es k d).0
between from to es start until s begin end a b k d lt = grind (arith, nat_tests, a.0 k d, a.1 k d, b.0 k d, b.1 k d)

-- ---- spans in order

pub covered_push : (xs : List Span) (s : Span) (k : ℕ) → is_covered (xs ++ s ∷ []) k ≡ (is_covered xs k || is_in_span k s)
covered_push xs s k = let both = list_any-append (is_in_span k) xs (s ∷ []) in grind arith

order_push : (low mid : ℕ) (xs : List Span) (s : Span) → AreInOrder low mid xs → mid ≤ s.from → s.from ≤ s.to → AreInOrder low s.to (xs ++ s ∷ [])
order_push low mid [] s h le size = ((omega arith, size, omega arith))
order_push low mid (x ∷ xs) s h le size = (h.0, h.1, order_push x.to mid xs s h.2 le size)

pub order_to : (low mid high : ℕ) (xs : List Span) → AreInOrder low mid xs → mid ≤ high → AreInOrder low high xs
order_to low mid high [] h le = omega arith
order_to low mid high (x ∷ xs) h le = (h.0, h.1, order_to x.to mid high xs h.2 le)

order_ends : (low high : ℕ) (xs : List Span) → AreInOrder low high xs → low ≤ high
order_ends low high [] h = h
order_ends low high (x ∷ xs) h = omega (arith, h.0, h.1, order_ends x.to high xs h.2)

-- each is a span below the end
pub order_within : (low high : ℕ) (xs : List Span) → AreInOrder low high xs → All (λ s. (s.from ≤ s.to) × (s.to ≤ high)) xs
order_within low high [] h k d lt = absurd (omega arith)
order_within low high (x ∷ xs) h zero d lt = (h.1, order_ends x.to high xs h.2)
order_within low high (x ∷ xs) h (suc k) d lt = order_within x.to high xs h.2 k d (omega arith)

none_before : (low high : ℕ) (xs : List Span) (k : ℕ) → AreInOrder low high xs → k < low → is_covered xs k ≡ false
none_before low high [] k h lt = refl
none_before low high (x ∷ xs) k h lt =
    let a = h.0 in
    let b = h.1 in
    grind (arith, nat_tests, none_before x.to high xs k h.2 (omega arith))

-- ---- the loop that puts spans in order

-- the state after i of the sorted spans: what was put in order so far
pub record Orders (spans ordered : List Span) (i end : ℕ) : Type 0 where
  pub order : AreInOrder 0 end ordered
  pub same : (k : ℕ) → (is_covered ordered k || is_covered (drop i spans) k) ≡ is_covered spans k
  pub last : ℕ
  pub reach : (k : ℕ) → last ≤ k → k < end → is_covered ordered k ≡ true
  pub later : (j : ℕ) (d : Span) → i ≤ j → j < length spans → last ≤ (get_or spans j d).from

module _ (spans ordered : List Span) (i end : ℕ) (s : Span) (lt : i < length spans) (is : s ≡ get_or spans i s) (o : Orders spans ordered i end) where
  next_span : (k : ℕ) → is_covered (drop i spans) k ≡ (is_in_span k s || is_covered (drop (i + 1) spans) k)
  next_span k = at_drop_more (λ l. is_covered l k) spans i s lt ∙ ap (λ (x : Span). is_in_span k x || is_covered (drop (i + 1) spans) k) (sym is)

  from_last : o.last ≤ s.from
  from_last = let h = o.later i s (omega arith) lt in let e = ap (λ (x : Span). x.from) is in omega arith

  -- a span that ends before the end of what was put in order adds nothing
  pub orders_passed : s.to ≤ max s.from end → Orders spans ordered (i + 1) end
  orders_passed short = record {
    order = o.order;
    same = λ k. grind (arith, nat_tests, next_span k, o.same k, o.reach k, from_last);
    last = o.last;
    reach = o.reach;
    later = λ j d low high. o.later j d (omega arith) high;
  }

  -- one more span, without the part that earlier spans cover
  pub orders_one : (new : List Span) (t : Span) → IsNonDecreasingBy (λ x. x.from) spans → t.from ≡ max s.from end → t.to ≡ s.to → t.from < t.to
      → new ≡ ordered ++ t ∷ [] → Orders spans new (i + 1) s.to
  orders_one new t sorted begin until some pushed = record {
    order = rw (pushed, ← until) (order_push 0 end ordered t o.order (omega arith) (omega arith));
    same = λ k. grind (arith, nat_tests, covered_push ordered t k, next_span k, o.same k, o.reach k, from_last);
    last = s.from;
    reach = λ k low high. grind (arith, nat_tests, covered_push ordered t k, o.reach k, from_last);
    later = λ j d low high. let e = ap (λ (x : Span). x.from) (is ∙ get_or_default spans i s d lt) in let h = sorted i j d (omega arith) high in omega arith;
  }

-- ---- the loop that finds the gaps

-- the gaps so far, and those after an end
pub record Gaps (count : ℕ) (old gaps spans remaining : List Span) (end : ℕ) : Type 0 where
  pub order : AreInOrder end count remaining
  pub below : All (λ s. s.to ≤ count) gaps
  pub added : (k : ℕ) → k < count → (is_covered gaps k || (not (nat_lt k end) && not (is_covered remaining k))) ≡ (is_covered old k || not (is_covered spans k))

pub gaps_one : (count : ℕ) (old gaps new spans remaining : List Span) (end : ℕ) (s t : Span) → t.from ≡ end → t.to ≡ s.from → new ≡ gaps ++ t ∷ []
    → Gaps count old gaps spans (s ∷ remaining) end → Gaps count old new spans remaining s.to
gaps_one count old gaps new spans remaining end s t begin until pushed g =
    let a = g.order.0 in
    let b = g.order.1 in
    let c = order_ends s.to count remaining g.order.2 in
    record {
      order = g.order.2;
      below = rw pushed (All-push (λ x. x.to ≤ count) gaps t g.below (omega arith));
      added = λ k lt. grind (arith, nat_tests, covered_push gaps t k, none_before s.to count remaining k g.order.2, g.added k lt);
    }

-- ---- the members in the spans are those that pass

pub record InPiece {A : Type 0} (xs : List A) (from to k : ℕ) (d : A) : Type 0 where
  pub below : from + k < to
  pub inside : from + k < length xs
  pub is : get_or (slice_range xs from to) k d ≡ get_or xs (from + k) d

pub in_piece : {A : Type 0} (xs : List A) (from to k : ℕ) (d : A) → k < length (slice_range xs from to) → InPiece xs from to k d
in_piece xs from to k d lt =
    let n = length-take (to - from) (drop from xs) in
    let m = length-drop from xs in
    record { below = omega arith; inside = omega arith; is = get_or-take (to - from) (drop from xs) k d (omega arith) ∙ get_or-drop from xs k d }

-- if spans in order cover exactly the positions that pass, the members in them are those that pass
pub pieces_pass : {A : Type 0} (p : A → Bool) (es : List A) (low : ℕ) (spans : List Span) → AreInOrder low (length es) spans
    → ((k : ℕ) (d : A) → low ≤ k → k < length es → is_covered spans k ≡ p (get_or es k d)) → pieces es spans ≡ filter p (drop low es)
pieces_pass p es low [] order cover = sym (none_pass p (drop low es) (λ k d lt.
    let n = length-drop low es in ap p (get_or-drop low es k d) ∙ sym (cover (low + k) d (omega arith) (omega arith))))
pieces_pass {A} p es low (s ∷ spans) order cover =
    let a = order.0 in
    let b = order.1 in
    let f = slice_range es low s.from in
    let m = slice_range es s.from s.to in
    let prefix : filter p f ≡ [] = none_pass p f (λ k d lt. let at = in_piece es low s.from k d lt in
    ap p at.is ∙ sym (cover (low + k) d (omega arith) at.inside) ∙ none_before s.from (length es) (s ∷ spans) (low + k) (omega arith, b, order.2) at.below) in
    let middle : filter p m ≡ m = all_pass p m (λ k d lt. let at = in_piece es s.from s.to k d lt in
    ap p at.is ∙ sym (cover (s.from + k) d (omega arith) at.inside) ∙ grind (arith, nat_tests)) in
    let rest = pieces_pass p es s.to spans order.2 (λ k d le lt. let c = cover k d (omega arith) lt in grind (arith, nat_tests)) in
    sym (ap (filter p) (drop_split es low s.from a) ∙ filter-append p f (drop s.from es)
    ∙ ap₂ (λ (x y : List A). x ++ y) prefix (ap (filter p) (drop_split es s.from s.to b) ∙ filter-append p m (drop s.to es) ∙ ap₂ (λ (x y : List A). x ++ y) middle (sym rest)))

-- the images of the members in spans
pub pieces_map : {A B : Type 0} (f : A → B) (xs : List A) (spans : List Span) → map f (pieces xs spans) ≡ pieces (map f xs) spans
pieces_map f xs [] = refl
pieces_map {A} {B} f xs (s ∷ spans) =
    map-append f (slice_range xs s.from s.to) (pieces xs spans)
    ∙ ap₂ (λ (l m : List B). l ++ m) (sym (take-map f (s.to - s.from) (drop s.from xs)) ∙ ap (take (s.to - s.from)) (sym (drop-map f s.from xs))) (pieces_map f xs spans)

-- ---- spans that cover the keys of bounds, part by part

-- what is covered, together with the keys in the remaining parts, is the union of all parts
abbrev pub UnionSoFar : List KeyAt → List Span → List Bounds → ℕ → Type 0
UnionSoFar es all parts i = (k : ℕ) (d : KeyAt) → k < length es → (is_covered all k
    || union (map keys_within (drop i parts)) (get_or es k d).0) ≡ union (map keys_within parts) (get_or es k d).0

abbrev pub GapsSoFar : List KeyAt → List Span → List Bounds → ℕ → Type 0
GapsSoFar es gaps parts i = (k : ℕ) (d : KeyAt) → k < length es → (is_covered gaps k
    || not (intersection (map keys_within (drop i parts)) (get_or es k d).0)) ≡ not (intersection (map keys_within parts) (get_or es k d).0)

pub union_on : (es : List KeyAt) (all new spans : List Span) (parts : List Bounds) (i : ℕ) (part : Bounds) → i < length parts
    → part ≡ get_or parts i part → new ≡ all ++ spans → CoverKeys es (keys_within part) spans
    → UnionSoFar es all parts i → UnionSoFar es new parts (i + 1)
union_on es all new spans parts i part lt is added cover so_far k d low =
    let next = one_off (λ sets. union sets (get_or es k d).0) keys_within parts i part lt is in
    rw added (grind (arith, list_any-append (is_in_span k) all spans, cover.cover k d low, next, so_far k d low))

pub gaps_on : (es : List KeyAt) (gaps new spans : List Span) (parts : List Bounds) (i : ℕ) (part : Bounds) (n : ℕ) → n ≡ length es → i < length parts → part ≡ get_or parts i part
    → ((k : ℕ) → k < n → is_covered new k ≡ (is_covered gaps k || not (is_covered spans k))) → CoverKeys es (keys_within part) spans
    → GapsSoFar es gaps parts i → GapsSoFar es new parts (i + 1)
gaps_on es gaps new spans parts i part n size lt is added cover so_far k d low =
    let next = one_off (λ sets. intersection sets (get_or es k d).0) keys_within parts i part lt is in
    grind (arith, added k (omega arith), cover.cover k d low, next, so_far k d low)

pub union_whole : (es : List KeyAt) (all ordered : List Span) (parts : List Bounds) (i n : ℕ) → n ≡ length es → length parts ≤ i
    → AreInOrder 0 n ordered → ((k : ℕ) → is_covered ordered k ≡ is_covered all k)
    → UnionSoFar es all parts i → CoverKeys es (union (map keys_within parts)) ordered
union_whole es all ordered parts i n size le order same so_far = record {
  order = rw (← size) order;
  cover = λ k d lt. let old = rw (drop_all i parts le) at (so_far k d lt) in grind (arith, same k);
}

pub gaps_whole : (es : List KeyAt) (gaps spans : List Span) (parts : List Bounds) (i n : ℕ) → n ≡ length es → length parts ≤ i → AreInOrder 0 n spans
    → ((k : ℕ) → k < n → is_covered spans k ≡ not (is_covered gaps k))
    → GapsSoFar es gaps parts i → CoverKeys es (intersection (map keys_within parts)) spans
gaps_whole es gaps spans parts i n size le order others so_far = record {
  order = rw (← size) order;
  cover = λ k d lt. let old = rw (drop_all i parts le) at (so_far k d lt) in grind (arith, others k (omega arith));
}

-- a single span
pub covers_one : (es : List KeyAt) (keys : KeySet) (spans : List Span) (s : Span) → spans ≡ s ∷ [] → s.from ≤ s.to → s.to ≤ length es
    → ((k : ℕ) (d : KeyAt) → k < length es → is_in_span k s ≡ keys (get_or es k d).0) → CoverKeys es keys spans
covers_one es keys spans s is size le inside = rw is (record { order = (omega arith, size, le); cover = λ k d lt. let e = inside k d lt in grind arith })

pub keys_within-Range : (from to : Cutoff) → keys_within (Range from to) ≡ keys_between from to
keys_within-Range from to = search (rules, folds.the_lemmas)

-- ---- the places of the entries in the spans

places_stored : (bytes : List ℕ) (stored : List Entry) (es : List KeyAt) → KeepsEntries bytes stored es → map (λ e. e.place) stored ≡ map (λ e. e.1) es
places_stored bytes [] [] h = refl
places_stored bytes (k ∷ ks) (e ∷ es) h = ap₂ (λ (x : ℕ) (xs : List ℕ). x ∷ xs) h.0.1 (places_stored bytes ks es h.1)
places_stored bytes _ _ h = absurd h

-- a place among those of the entries that pass
place_among : (p : KeyAt → Bool) (n : ℕ) (es : List KeyAt) → list_any (λ m. m == n) (map (λ e. e.1) (filter p es)) ≡ list_any (λ e. p e && (e.1 == n)) es
place_among p n es = sym (any_map (λ m. m == n) (λ e. e.1) (filter p es)) ∙ any_filter (λ e. e.1 == n) p es

among_from : (n k : ℕ) (xs : List ℕ) → list_any (λ m. m == n) (dedup_from eqb k xs) ≡ list_any (λ m. m == n) (k ∷ xs)
among_from n k [] = refl
among_from n k (x ∷ xs) = next (dedup_from eqb k xs) (dedup_from eqb x xs) (list_any (λ m. m == n) xs) (among_from n k xs) (among_from n x xs)
  where
    next : (ks ls : List ℕ) (r : Bool) → list_any (λ m. m == n) ks ≡ ((k == n) || r) → list_any (λ m. m == n) ls ≡ ((x == n) || r)
        → list_any (λ m. m == n) (cond (eqb x k) ks (k ∷ ls)) ≡ ((k == n) || ((x == n) || r))
    next ks ls r h g = grind (arith, nat_tests)

-- `dedup` drops no number
pub among_once : (n : ℕ) (xs : List ℕ) → list_any (λ m. m == n) (dedup eqb xs) ≡ list_any (λ m. m == n) xs
among_once n [] = refl
among_once n (x ∷ xs) = among_from n x xs

-- what is in the spans: the places of the entries whose keys are inside
module _ (dump : Dump) (index : Index) (h : IsIndexOf dump index) (bounds : KeyBounds) (spans : List Span) (c : CoverKeys h.keeps.entries (is_among bounds) spans) where
  inside : pieces (map (λ e. e.place) index.entries.items) spans ≡ map (λ e. e.1) (filter (has_key_in bounds) h.keeps.entries)
  inside =
      ap (λ (l : List ℕ). pieces l spans) (places_stored (bytes_of dump) index.entries.items h.keeps.entries h.keeps.entries_are_at)
      ∙ sym (pieces_map (λ e. e.1) h.keeps.entries spans)
      ∙ ap (map (λ e. e.1)) (pieces_pass (has_key_in bounds) h.keeps.entries 0 spans c.order (λ k d low lt. c.cover k d lt))

  pub members_within : (n : ℕ) → list_any (λ m. m == n) (pieces (map (λ e. e.place) index.entries.items) spans)
      ≡ list_any (λ e. has_key_in bounds e && (e.1 == n)) (entries_of index.sparse (names_of index.path) (documents dump))
  members_within n =
      ap (list_any (λ m. m == n)) inside ∙ place_among (has_key_in bounds) n h.keeps.entries
      ∙ any_as_counts (λ e. has_key_in bounds e && (e.1 == n)) h.keeps.entries _ (h.keeps.are.same (λ e. has_key_in bounds e && (e.1 == n)))

  pub counted_within : length (pieces (map (λ e. e.place) index.entries.items) spans) ≡ count_by (has_key_in bounds) (entries_of index.sparse (names_of index.path) (documents dump))
  counted_within = ap (λ (l : List ℕ). length l) inside ∙ length-map (filter (has_key_in bounds) h.keeps.entries) (λ e. e.1)
      ∙ length-filter (has_key_in bounds) h.keeps.entries ∙ h.keeps.are.same (has_key_in bounds)

pub piece_added : (stored : List Entry) (from to i : ℕ) (items : List Entry) (old new : List ℕ) → new ≡ old ++ map (λ e. e.place) (take i items)
    → items ≡ slice_range stored from to → length items ≤ i → new ≡ old ++ slice_range (map (λ e. e.place) stored) from to
piece_added stored from to i items old new added is whole =
    added
    ∙ ap (λ (l : List Entry). old ++ map (λ e. e.place) l) (take_all i items whole ∙ is)
    ∙ ap (λ (l : List ℕ). old ++ l) (sym (take-map (λ e. e.place) (to - from) (drop from stored)) ∙ ap (take (to - from)) (sym (drop-map (λ e. e.place) from stored)))
