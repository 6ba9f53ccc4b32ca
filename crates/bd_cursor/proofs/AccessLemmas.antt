-- Which index is used, that it leads to the documents that match, and what is read on an access path.
use Rattle.std.proofs.Common.{◌≡◌, ◌≢◌, ◌+◌, ◌<◌, ℕ, zero, suc, Bool, true, false, cond, List, [], ◌∷◌, length, get_or, Option, Some, None, refl, sym, ap, ap₂, ◌∙◌, subst, arith, eq-eqb}
use Rattle.std.proofs.Common.{drop, filter, map}
use Rattle.std.proofs.lemmas.Bool.{and_parts, and_right, eqb-true, le-ltb, lt-ltb, ltb-true, ne_eqb, or_parts, true≢false, not-true}
use Rattle.std.proofs.{Math.Bool.and-or_distrib_right, Math.Bool.and-true, Math.Bool.or-false, lemmas.List.FromFn.get_or-range_with_len, lemmas.List.FromFn.length-range_with_len}
use Rattle.std.proofs.{lemmas.List.FromFn.sum_by-map-range_with_len_more, lemmas.List.Folds.Any-from_list_any, lemmas.List.Folds.list_any_at, lemmas.List.Kept.AllPairs-from_increasing}
use Rattle.std.proofs.{lemmas.Cmp.on_total, lemmas.List.map-id, lemmas.List.get_or-map, lemmas.List.length-map, lemmas.List.Elements.filter_agree, lemmas.List.Sums.length-filter}
use Rattle.std.proofs.{lemmas.List.Splits.join_with_byte-slice_split, lemmas.Slice.Eq.bytes_eq-Decides, lemmas.Slice.Eq.slice_eq-Decides, lemmas.List.Quantifiers.position-Some}
use Rattle.std.proofs.{lemmas.Bool.Decides.same_from_decides, lemmas.Option.cond_some}
use Rattle.std.specs.Prelude.{◌==◌, ◌&&◌, ◌||◌, nat_lt, Contains, count_by, not, option_map, string_bytes, is_some, unwrap_or}
use Rattle.std.specs.List.{find, list_any, range_with_len, join_with_byte, position, prefix_len, position_or_len}
use Rattle.std.specs.declared.cmp.Ordering.TheVariants.{Less, Equal, Greater}
use Rattle.std.specs.{Bool.Decides, Cmp.Lexicographic.pointwise, Borrow.Bor, Option.option_copied, Option.option_or, List.Sorted.IsStrictlyIncreasing, Ordering.is_lt, Cmp.IsTotalOrder, Str.bytes_eq}
use Rattle.bd_value.specs.Tree.{Doc, Tree, doc, fields_of, leaf}
use Rattle.bd_cursor_model.specs.Session.{IndexKey, is_on}
use Rattle.bd_cursor_model.specs.{Answer.before, Answer.Selection, Answer.matching, Laws.IsAscending, Source.IsSource, Source.passes}
use Rattle.bd_bson_dump.specs.{Collection.documents, declared.collection.Dump.Dump, Collection.document_at}
use Rattle.bd_path.specs.Key.{indexed_keys, keys, sparse_keys}
use Rattle.bd_path.specs.{Sort.SortPath, Reach.Names, Path.components_of, PathNames.names_of, Sort.sort_paths, declared.sort.Dir.Dir, declared.path.Path.Path}
use Rattle.bd_path.proofs.SortLemmas.{has_a_key, sort_total}
use Rattle.bd_query_filter.specs.{Filter.Filter, FilterMatch.matches, Filter.filter_tree}
use Rattle.bd_cursor_request.specs.declared.request.Request.{Request}
use Rattle.bd_cursor_sort.specs.Selection.{matches_at_of, order_of_keys, selection_of}
use Rattle.bd_index_bounds.specs.{Bounds.KeyBounds, Bounds.bounds, Bounds.is_among, BoundsView.bounds_view, declared.bounds.Bounds.Bounds}
use Rattle.bd_index_bounds.proofs.FilterBoundsLemmas.{one_off}
use Rattle.bd_index_bounds.proofs.SoundLemmas.{is_fit, loses_no_match, sparse_loses_no_match}
use Rattle.bd_index.specs.Entries.{KeyAt, entries_from, has_two_keys, is_multikey, keys_at, entries_of}
use Rattle.bd_index.specs.{Places.AreWithin, Places.lent_bounds, declared.index.Index.Index, IndexView.IsIndexOf}
use Rattle.bd_index.proofs.WalkLemmas.{any_in}
use Rattle.bd_cursor.specs.Access.{HasMatchesWithin, ServesFilter, index_key_names, index_key, HasSortOrder, walk_dir, bounded, index_key_bounds, named_access, scanned, serving_bounds, walked}
use Rattle.bd_cursor.specs.Access.{by_order, find_map}
use Rattle.bd_cursor.specs.Explanation.{entries_within, index_counts, places_within}
use Rattle.bd_cursor_model.proofs.{OrderLemmas.filter_all, AnswerLemmas.in_contains, SourceLemmas.batch_in_order, SourceLemmas.all_places, SourceLemmas.unsorted_ordered}
use Rattle.bd_value.specs.Tree as trees

-- ---- ascending places

pub range_increases : (a n : ℕ) → IsStrictlyIncreasing (range_with_len a n)
range_increases a n k lt =
    let m : k + 1 < n = omega (arith, length-range_with_len a n) in
    let x = get_or-range_with_len a n k 0 (omega arith) in
    let y = get_or-range_with_len a n (k + 1) 0 m in
    rw (x, y) (omega arith)

pub unsorted_ascends : (ds : List Doc) (ps : List ℕ) → IsStrictlyIncreasing ps → IsAscending (before (order_of_keys ds [])) ps
unsorted_ascends ds ps h i j d low high =
    ap (λ b. is_lt (cond b Less (cond (get_or ps i d == get_or ps j d) Equal Greater))) (lt-ltb (get_or ps i d) (get_or ps j d) (AllPairs-from_increasing ps h i j d low high))

pub ascends_unsorted : (ds : List Doc) (ss : List SortPath) (ps : List ℕ) → ss ≡ [] → IsStrictlyIncreasing ps → IsAscending (before (order_of_keys ds ss)) ps
ascends_unsorted ds ss ps none h = subst (λ ss. IsAscending (before (order_of_keys ds ss)) ps) (sym none) (unsorted_ascends ds ps h)

-- ---- the entries of each document

any_at : (test : Tree → Bool) (s p : ℕ) (ks : List Tree) → list_any (λ (e : KeyAt). test e.0 && (e.1 == p)) (keys_at s ks) ≡ (list_any test ks && (s == p))
any_at test s p [] = refl
any_at test s p (k ∷ ks) = ap (λ (b : Bool). (test k && (s == p)) || b) (any_at test s p ks) ∙ sym (and-or_distrib_right (test k) (list_any test ks) (s == p))

early : (sparse : Bool) (path : Names) (test : Tree → Bool) (ds : List Doc) (s p : ℕ) → p < s → list_any (λ (e : KeyAt). test e.0 && (e.1 == p)) (entries_from sparse path s ds) ≡ false
early sparse path test [] s p lt = refl
early sparse path test (d ∷ ds) s p lt =
    let ks = indexed_keys sparse (doc (fields_of d)) path in
    let other : s ≢ p = omega arith in
    any_in (λ (e : KeyAt). test e.0 && (e.1 == p)) (keys_at s ks) (entries_from sparse path (s + 1) ds)
    ∙ ap₂ (λ (a b : Bool). a || b) (any_at test s p ks ∙ and_right (list_any test ks) (s == p) (ne_eqb s p other)) (early sparse path test ds (s + 1) p (omega arith))

next_lt : (n m : ℕ) → nat_lt n m ≡ nat_lt (suc n) (suc m)
next_lt n m = grind arith

-- a document has an entry that passes if one of its keys does
from_place : (sparse : Bool) (path : Names) (test : Tree → Bool) (ds : List Doc) (s k p : ℕ) → s + k ≡ p
    → list_any (λ (e : KeyAt). test e.0 && (e.1 == p)) (entries_from sparse path s ds) ≡ (nat_lt k (length ds) && list_any test (indexed_keys sparse (document_at ds k) path))
from_place sparse path test [] s k p e = ap (λ (b : Bool). b && list_any test (indexed_keys sparse (document_at [] k) path)) (sym (le-ltb k 0 (omega arith)))
from_place sparse path test (d ∷ ds) s zero p e =
    let ks = indexed_keys sparse (doc (fields_of d)) path in
    let same : s ≡ p = omega arith in
    any_in (λ (x : KeyAt). test x.0 && (x.1 == p)) (keys_at s ks) (entries_from sparse path (s + 1) ds)
    ∙ ap₂ (λ (a b : Bool). a || b) (any_at test s p ks ∙ ap (λ (b : Bool). list_any test ks && b) (eq-eqb s p same) ∙ and-true (list_any test ks)) (early sparse path test ds (s + 1) p (omega arith))
    ∙ or-false (list_any test ks)
    ∙ ap (λ (b : Bool). b && list_any test ks) (sym (lt-ltb 0 (suc (length ds)) (omega arith)))
from_place sparse path test (d ∷ ds) s (suc k) p e =
    let ks = indexed_keys sparse (doc (fields_of d)) path in
    let other : s ≢ p = omega arith in
    any_in (λ (x : KeyAt). test x.0 && (x.1 == p)) (keys_at s ks) (entries_from sparse path (s + 1) ds)
    ∙ ap₂ (λ (a b : Bool). a || b) (any_at test s p ks ∙ and_right (list_any test ks) (s == p) (ne_eqb s p other))
    (from_place sparse path test ds (s + 1) k p (omega arith))
    ∙ ap (λ (b : Bool). b && list_any test (indexed_keys sparse (document_at ds k) path)) (next_lt k (length ds))

-- ---- the keys of a document that matches

one_key : (path : Names) (ds : List Doc) (k : ℕ) → k < length ds → is_multikey path ds ≡ false → has_two_keys path (document_at ds k) ≡ false
one_key path [] k lt h = absurd (omega arith)
one_key path (d ∷ ds) zero lt h = (or_parts (has_two_keys path (doc (fields_of d))) (is_multikey path ds) h).0
one_key path (d ∷ ds) (suc k) lt h = one_key path ds k (omega arith) (or_parts (has_two_keys path (doc (fields_of d))) (is_multikey path ds) h).1

counted_one : (ks : List Tree) → ks ≢ [] → nat_lt 1 (length ks) ≡ false → (length ks == 1) ≡ true
counted_one [] some h = absurd (some refl)
counted_one (k ∷ []) some h = refl
counted_one (k ∷ (j ∷ ks)) some h = absurd (true≢false (sym (lt-ltb 1 (suc (suc (length ks))) (omega arith)) ∙ h))

fits : (path : Names) (ds : List Doc) (k : ℕ) (m : Bool) → k < length ds → m ≡ is_multikey path ds → is_fit m path (document_at ds k) ≡ true
fits path ds k true lt e = refl
fits path ds k false lt e = counted_one (keys (document_at ds k) path) (has_a_key (document_at ds k) path) (one_key path ds k lt (sym e))

every_key : (ks : List Tree) → ks ≢ [] → list_any (is_among None) ks ≡ true
every_key [] some = absurd (some refl)
every_key (k ∷ ks) some = refl

has_key : (f : Filter) (path : Names) (m sparse : Bool) (b : KeyBounds) (t : Tree) → ServesFilter f path m sparse b → is_fit m path t ≡ true → matches f t ≡ true
    → list_any (is_among b) (indexed_keys sparse t path) ≡ true
has_key f path m true None t h fit hit = absurd (let z : true ≡ false = h in cc)
has_key f path m false None t h fit hit = every_key (keys t path) (has_a_key t path)
has_key f path m false (Some set) t h fit hit = subst (λ (b : KeyBounds). list_any (is_among b) (keys t path) ≡ true) h.0 (loses_no_match f path m t fit hit)
has_key f path m true (Some set) t h fit hit =
    subst (λ (b : KeyBounds). list_any (is_among b) (sparse_keys t path) ≡ true) h.0
    (sparse_loses_no_match f path m t fit hit (ap (λ (b : KeyBounds). is_among b (leaf trees.null)) h.0 ∙ h.1))

-- ---- the places

contained : (ps : List ℕ) (q : ℕ) → list_any (λ m. m == q) ps ≡ true → Contains ps q
contained ps q h = let a = Any-from_list_any (λ m. m == q) ps h in (a.0, a.2, subst (λ z. get_or ps a.0 z ≡ z) (eqb-true a.1 q a.4) a.3)

-- the documents with a key inside
abbrev pub has_key_at : Bool → Names → List Doc → KeyBounds → ℕ → Bool
has_key_at sparse path ds b p = list_any (is_among b) (indexed_keys sparse (document_at ds p) path)

-- a test without an order
abbrev plainly : List Doc → (ℕ → Bool) → Selection
plainly ds matches_at = record { count = length ds; matches_at = matches_at; by = order_of_keys ds []; skip = 0; limit = 0 }

plain_total : (ds : List Doc) → IsTotalOrder (order_of_keys ds [])
plain_total ds = on_total (document_at ds) (sort_total [])

-- the matches in an ascending source are all matches
source_passes : (ds : List Doc) (matches_at : ℕ → Bool) (ps : List ℕ) → IsSource (length ds) matches_at ps → IsStrictlyIncreasing ps → filter matches_at ps ≡ filter matches_at (range_with_len 0 (length ds))
source_passes ds matches_at ps s up =
    let a = plainly ds matches_at in
    filter_agree matches_at (passes matches_at (order_of_keys ds []) None) (λ x. sym (and-true (matches_at x))) ps
    ∙ batch_in_order a (plain_total ds) ps s (unsorted_ascends ds ps up) None
    ∙ all_places a
    ∙ unsorted_ordered a (plain_total ds) (λ p q. refl)

pub as_many : (ds : List Doc) (matches_at : ℕ → Bool) (ps : List ℕ) → IsSource (length ds) matches_at ps → IsStrictlyIncreasing ps → count_by matches_at ps ≡ length (filter matches_at (range_with_len 0 (length ds)))
as_many ds matches_at ps s up = sym (length-filter matches_at ps) ∙ ap (λ (l : List ℕ). length l) (source_passes ds matches_at ps s up)

module _ {sparse : Bool} {path : Names} {ds : List Doc} {b : KeyBounds} {ps : List ℕ} {entries : ℕ} (w : AreWithin sparse path ds b ps entries) where
  among_places : (p : ℕ) → list_any (λ q. q == p) ps ≡ (nat_lt p (length ds) && has_key_at sparse path ds b p)
  among_places p = w.members p ∙ from_place sparse path (is_among b) ds 0 p p (omega arith)

  places_inside : (k d : ℕ) → k < length ps → (nat_lt (get_or ps k d) (length ds) ≡ true) × (has_key_at sparse path ds b (get_or ps k d) ≡ true)
  places_inside k d lt =
      and_parts (nat_lt (get_or ps k d) (length ds)) (has_key_at sparse path ds b (get_or ps k d))
      (sym (among_places (get_or ps k d)) ∙ list_any_at (λ m. m == get_or ps k d) ps k d lt (eq-eqb (get_or ps k d) (get_or ps k d) refl))

  -- they are a source for each test that is passed only if a key is inside
  within_source : (matches_at : ℕ → Bool) → ((p : ℕ) → p < length ds → matches_at p ≡ true → has_key_at sparse path ds b p ≡ true) → IsSource (length ds) matches_at ps
  within_source matches_at inside = record {
    below = λ k d lt. ltb-true (get_or ps k d) (length ds) (places_inside k d lt).0;
    distinct = λ i j d low high same. let l = AllPairs-from_increasing ps w.ascend i j d low high in absurd (omega arith);
    complete = λ p lt hit. contained ps p (among_places p ∙ ap₂ (λ (x y : Bool). x && y) (lt-ltb p (length ds) lt) (inside p lt hit));
  }

  -- they are those of the documents with a key inside
  all_within : ps ≡ filter (has_key_at sparse path ds b) (range_with_len 0 (length ds))
  all_within =
      let test = has_key_at sparse path ds b in
      sym (filter_all test ps (λ x i. let r = in_contains ps x i in subst (λ z. test z ≡ true) r.2 (places_inside r.0 x r.1).1))
      ∙ source_passes ds test ps (within_source test (λ p lt hit. hit)) w.ascend

-- ---- bounds of an index in memory

-- the documents with an entry inside the bounds of an index are a source: each match is among them, once
pub index_source : {dump : Dump} {r : Request} {i : Index} {b : KeyBounds} {ps : List ℕ} {entries : ℕ} → HasMatchesWithin dump r i b
    → AreWithin i.sparse (names_of i.path) (documents dump) b ps entries → IsSource (length (documents dump)) (matches_at_of (documents dump) (filter_tree r.filter)) ps
index_source {dump} {r} {i} {b} h w =
    let f = filter_tree r.filter in
    within_source w (matches_at_of (documents dump) f) (λ p lt hit. has_key f (names_of i.path) i.multikey i.sparse b (document_at (documents dump) p)
    h.serves (fits (names_of i.path) (documents dump) p i.multikey lt h.of_dump.many) hit)

-- ---- the arguments of a call

pub not_sorted : (sort : List (Path × Dir)) → length sort ≡ 0 → sort_paths sort ≡ []
not_sorted [] h = refl
not_sorted (s ∷ ss) h = absurd (omega arith)

lent_as : (r : Option (Bor Bounds)) → lent_bounds r ≡ bounds_view (option_copied r)
lent_as None = refl
lent_as (Some b) = refl

-- what is within borrowed bounds is within the bounds themselves
pub lent_within : {sparse : Bool} {path : Names} {ds : List Doc} {b : Option Bounds} {ps : List ℕ} {entries : ℕ} (r : Option (Bor Bounds)) → option_copied r ≡ b
    → AreWithin sparse path ds (lent_bounds r) ps entries → AreWithin sparse path ds (bounds_view b) ps entries
lent_within {sparse} {path} {ds} {b} {ps} {entries} r e w = subst (λ k. AreWithin sparse path ds k ps entries) (lent_as r ∙ ap bounds_view e) w

-- ---- what is read on an access path

pub count_more : (matches_at : ℕ → Bool) (n : ℕ) → count_by matches_at (range_with_len 0 (n + 1)) ≡ count_by matches_at (range_with_len 0 n) + cond (matches_at n) 1 0
count_more matches_at n = simp map-id at (sum_by-map-range_with_len_more (λ (y : ℕ). cond (matches_at y) 1 0) (λ (y : ℕ). y) 0 n n (omega arith))

pub matches_of_all : (ds : List Doc) (r : Request) (n : ℕ) → n ≡ count_by (matches_at_of ds (filter_tree r.filter)) (range_with_len 0 (length ds)) → n ≡ length (matching (selection_of ds r))
matches_of_all ds r n h = h ∙ sym (length-filter (matches_at_of ds (filter_tree r.filter)) (range_with_len 0 (length ds)))

module _ (i : Index) {ds : List Doc} {b : KeyBounds} {ps : List ℕ} {entries : ℕ} (w : AreWithin i.sparse (names_of i.path) ds b ps entries) where
  named : AreWithin i.sparse (index_key_names (index_key i)) ds b ps entries
  named = subst (λ (n : Names). AreWithin i.sparse n ds b ps entries) i.path.split_path w

  pub entries_read : entries ≡ entries_within ds (index_key i) b
  entries_read = named.counted

  pub places_read : length ps ≡ length (places_within ds (index_key i) b)
  places_read = ap (λ (l : List ℕ). length l) (all_within named)

pub entries_walked : (i : Index) (ds : List Doc) (n : ℕ) → n ≡ length (entries_of i.sparse (names_of i.path) ds) → n ≡ (index_counts ds (index_key i)).entries
entries_walked i ds n h = h ∙ ap (λ (p : Names). length (entries_of i.sparse p ds)) i.path.split_path

-- ---- the same path

names_equal : (a b : Names) → Decides (pointwise bytes_eq a b) (a ≡ b)
names_equal a b = slice_eq-Decides bytes_eq-Decides a b (pointwise bytes_eq a b) refl

-- two texts with the same names are equal
text_is : (a b : List ℕ) → components_of a ≡ components_of b → a ≡ b
text_is a b h = sym (join_with_byte-slice_split 46 a) ∙ ap (join_with_byte 46) h ∙ join_with_byte-slice_split 46 b

pub same_text : (a b : List ℕ) → pointwise bytes_eq (components_of a) (components_of b) ≡ bytes_eq a b
same_text a b = same_from_decides {P = a ≡ b} (pointwise bytes_eq (components_of a) (components_of b)) (bytes_eq a b) (
  λ h. text_is a b ((names_equal (components_of a) (components_of b)).0 h),
  λ e. (names_equal (components_of a) (components_of b)).1 (ap components_of e),
) (bytes_eq-Decides a b)

-- ---- the order of a sort

abbrev pub dir_if : Bool → Dir → Option Dir
dir_if b dir = cond b (Some dir) None

walk_of_one : (i : Index) (s : Path × Dir) → walk_dir (index_key i) (sort_paths (s ∷ [])) ≡ dir_if (not i.sparse && bytes_eq (string_bytes s.0.text) (string_bytes i.path.text)) s.1
walk_of_one i s =
    let names : names_of s.0 ≡ components_of (string_bytes s.0.text) = s.0.split_path in
    ap (λ (b : Bool). dir_if (not i.sparse && b) s.1)
    (ap (λ (n : Names). pointwise bytes_eq n (components_of (string_bytes i.path.text))) names ∙ same_text (string_bytes s.0.text) (string_bytes i.path.text))

-- by the first pair, and whether there are others
pub walk_of : (i : Index) (sort : List (Path × Dir)) (s : Path × Dir) (others : List (Path × Dir)) → sort ≡ s ∷ others
    → walk_dir (index_key i) (sort_paths sort) ≡ dir_if ((length others == 0) && (not i.sparse && bytes_eq (string_bytes s.0.text) (string_bytes i.path.text))) s.1
walk_of i sort s others e = ap (λ (l : List (Path × Dir)). walk_dir (index_key i) (sort_paths l)) e ∙ go others
  where
    go : (others : List (Path × Dir)) → walk_dir (index_key i) (sort_paths (s ∷ others))
        ≡ dir_if ((length others == 0) && (not i.sparse && bytes_eq (string_bytes s.0.text) (string_bytes i.path.text))) s.1
    go [] = walk_of_one i s
    go (t ∷ ts) = ap (λ (b : Bool). dir_if (b && (not i.sparse && bytes_eq (string_bytes s.0.text) (string_bytes i.path.text))) s.1) (sym (ne_eqb (suc (length ts)) 0 (λ e. absurd (omega arith))))

pub walk_is : (i : Index) (ss : List SortPath) (dir : Dir) → Some dir ≡ walk_dir (index_key i) ss
    → (i.sparse ≡ false) × (ss ≡ record { path = names_of i.path; dir = dir } ∷ [])
walk_is i (s ∷ []) dir e =
    let components = components_of (string_bytes i.path.text) in
    let one = cond_some (not i.sparse && pointwise bytes_eq s.path components) s.dir dir (sym e) in
    let both = and_parts (not i.sparse) (pointwise bytes_eq s.path components) one.0 in
    (not-true i.sparse both.0, ap₂ (λ (n : Names) (d : Dir). record { path = n; dir = d } ∷ []) ((names_equal s.path components).0 both.1 ∙ sym i.path.split_path) one.1)
walk_is i _ dir e = absurd (let z : Some dir ≡ None = e in cc)

-- ---- the named index, and the first in order

-- an index that serves a sort by a walk in a direction has the order of the sort
pub walk_leads : (dump : Dump) (r : Request) (i : Index) (dir : Dir) → IsIndexOf dump i → Some dir ≡ walk_dir (index_key i) (sort_paths r.sort.items) → HasSortOrder dump r i dir
walk_leads dump r i dir h e = let w = walk_is i (sort_paths r.sort.items) dir e in record { of_dump = h; whole = w.0; order = w.1 }

-- of an index that does not serve by its bounds
pub named_other : (ds : List Doc) (f : Filter) (ss : List SortPath) (m : IndexKey) → None ≡ serving_bounds m (index_key_bounds ds f m)
    → named_access ds f ss m ≡ unwrap_or (by_order ss m) (cond m.is_sparse scanned (bounded m None))
named_other ds f ss m h = ap (λ b. unwrap_or (option_or (option_map (λ keys. bounded m (Some keys)) b) (by_order ss m)) (cond m.is_sparse scanned (bounded m None))) (sym h)

-- of an index that does not serve in either way
pub named_whole : (ds : List Doc) (f : Filter) (ss : List SortPath) (m : IndexKey) → None ≡ serving_bounds m (index_key_bounds ds f m) → None ≡ walk_dir m ss
    → named_access ds f ss m ≡ cond m.is_sparse scanned (bounded m None)
named_whole ds f ss m h k = named_other ds f ss m h ∙ ap (λ d. unwrap_or (option_map (walked m) d) (cond m.is_sparse scanned (bounded m None))) (sym k)

-- the first that is found among those that remain is that of the next, otherwise of those after it
pub found_next : {A B C : Type 0} (g : B → Option C) (f : A → B) (xs : List A) (i : ℕ) (x : A) → i < length xs → x ≡ get_or xs i x
    → find_map g (map f (drop i xs)) ≡ find_map g (map f xs) → find_map g (map f xs) ≡ option_or (g (f x)) (find_map g (map f (drop (i + 1) xs)))
found_next g f xs i x lt is so_far = sym so_far ∙ one_off (find_map g) f xs i x lt is

-- its bounds are those of the filter
bounds_of_index : (dump : Dump) (i : Index) (f : Filter) → IsIndexOf dump i → index_key_bounds (documents dump) f (index_key i) ≡ bounds f (names_of i.path) i.multikey
bounds_of_index dump i f h =
    let names : index_key_names (index_key i) ≡ names_of i.path = sym i.path.split_path in
    ap (λ (n : Names). bounds f n (is_multikey n (documents dump))) names ∙ ap (bounds f (names_of i.path)) (sym h.many)

-- if the bounds of an index serve a filter, each match is within them
pub bounds_lead : (dump : Dump) (r : Request) (i : Index) (keys : Tree → Bool) → IsIndexOf dump i
    → Some keys ≡ serving_bounds (index_key i) (index_key_bounds (documents dump) (filter_tree r.filter) (index_key i)) → HasMatchesWithin dump r i (Some keys)
bounds_lead dump r i keys h e =
    let s = serves (index_key_bounds (documents dump) (filter_tree r.filter) (index_key i)) e in
    record { of_dump = h; serves = (sym (bounds_of_index dump i (filter_tree r.filter) h) ∙ s.0, s.1) }
  where
    by_test : (t : Bool) (set : Tree → Bool) → (i.sparse && set (leaf trees.null)) ≡ t → Some keys ≡ cond t None (Some set)
        → (Some set ≡ Some keys) × ((i.sparse && keys (leaf trees.null)) ≡ false)
    by_test true set is e = absurd (let z : Some keys ≡ None = e in cc)
    by_test false set is e =
        let same : set ≡ keys = cc in
        (ap Some same, ap (λ (k : Tree → Bool). i.sparse && k (leaf trees.null)) (sym same) ∙ is)

    serves : (b : KeyBounds) → Some keys ≡ serving_bounds (index_key i) b → (b ≡ Some keys) × ((i.sparse && keys (leaf trees.null)) ≡ false)
    serves None e = absurd (let z : Some keys ≡ None = e in cc)
    serves (Some set) e = by_test (i.sparse && set (leaf trees.null)) set refl e

-- ---- the first index on a path

prefix_found : {A B : Type 0} (p : B → Bool) (f : A → B) (xs : List A) → prefix_len p (map f xs) ≡ prefix_len (λ x. p (f x)) xs
prefix_found p f [] = refl
prefix_found p f (x ∷ xs) = ap (λ n. cond (p (f x)) (1 + n) 0) (prefix_found p f xs)

pub position_found : {A B : Type 0} (p : B → Bool) (f : A → B) (xs : List A) → position p (map f xs) ≡ position (λ x. p (f x)) xs
position_found p f xs = ap₂ (λ (n m : ℕ). cond (nat_lt n m) (Some n) None) (prefix_found (λ x. not (p x)) f xs) (length-map xs f)

later_lt : (n m : ℕ) (b : Bool) → nat_lt n m ≡ b → nat_lt (1 + n) (suc m) ≡ b
later_lt n m b h = grind arith

passes_before_end : {A : Type 0} (p : A → Bool) (xs : List A) → nat_lt (position_or_len p xs) (length xs) ≡ list_any p xs
passes_before_end p [] = refl
passes_before_end p (x ∷ xs) = elim (p x) as (λ b. nat_lt (cond (not b) (1 + position_or_len p xs) 0) (suc (length xs)) ≡ (b || list_any p xs)) [
  | true ↦ lt-ltb 0 (suc (length xs)) (omega arith)
  | false ↦ later_lt (position_or_len p xs) (length xs) (list_any p xs) (passes_before_end p xs)
]

pub found_if_there : {A : Type 0} (p : A → Bool) (xs : List A) → is_some (position p xs) ≡ list_any p xs
found_if_there p xs =
    (elim (nat_lt (position_or_len p xs) (length xs)) as (λ b. is_some (cond b (Some (position_or_len p xs)) None) ≡ b) [ true ↦ refl | false ↦ refl ]) ∙ passes_before_end p xs

-- ---- the access path that the first index on a path has

-- the index on a path, by its place
pub found_at : {A : Type 0} (p : A → Bool) (xs : List A) (i : ℕ) (d : A) → i < length xs → p (get_or xs i d) ≡ true → ((k : ℕ) → k < i → p (get_or xs k d) ≡ false)
    → find p xs ≡ Some (get_or xs i d)
found_at p [] i d lt on before = absurd (omega arith)
found_at p (x ∷ xs) zero d lt on before = ap (λ b. cond b (Some x) (find p xs)) on
found_at p (x ∷ xs) (suc i) d lt on before = ap (λ b. cond b (Some x) (find p xs)) (before 0 (omega arith)) ∙ found_at p xs i d (omega arith) on (λ k l. before (suc k) (omega arith))

pub found_below : (path : List ℕ) (is : List Index) (k : ℕ) (i : Index) → Some k ≡ position (is_on path) (map index_key is) → k < length is
found_below path is k i found =
    let first = position-Some (is_on path) (map index_key is) k (index_key i) (cc) in
    omega (arith, first.0, length-map is index_key)

pub index_found : (path : List ℕ) (is : List Index) (k : ℕ) (i : Index) → Some k ≡ position (is_on path) (map index_key is) → i ≡ get_or is k i
    → find (is_on path) (map index_key is) ≡ Some (index_key i)
index_found path is k i found at =
    let index_keys = map index_key is in
    let m = index_key i in
    let first = position-Some (is_on path) index_keys k m (sym found) in
    let lt : k < length is = omega (arith, first.0, length-map is index_key) in
    let there : get_or index_keys k m ≡ m = get_or-map index_key is k i m lt ∙ ap index_key (sym at) in
    found_at (is_on path) index_keys k m first.0 first.1 (λ j l. first.2 j l) ∙ ap Some there
