-- How documents compare to a pivot.
use Rattle.std.proofs.Common.{◌≡◌, ℕ, List, [], ◌∷◌, refl, ap, ◌∙◌, arith, Ordering}
use Rattle.std.proofs.{lemmas.Cmp.nat_cmp_total, lemmas.Cmp.on_total, lemmas.Cmp.then_total, lemmas.List.Sorted.ranks_by}
use Rattle.std.specs.{Cmp.IsStrictWeakOrder, Cmp.IsTotalOrder, Ordering.is_gt, Ordering.is_lt, Ordering.nat_cmp, Ordering.ordering_reverse, Ordering.ordering_then}
use Rattle.bd_value.specs.Tree.{Doc}
use Rattle.bd_path.specs.Sort.{SortPath, dir_cmp, sort_key}
use Rattle.bd_path.proofs.SortLemmas.{sort_total}
use Rattle.bd_cursor_model.specs.{Answer.before, Laws.IsStrictOrder}
use Rattle.bd_cursor_model.proofs.AnswerLemmas.{before_strict}
use Rattle.bd_bson_dump.specs.Collection.{document_at}
use Rattle.bd_cursor_sort.specs.{inside.Sorting.pivot_cmp, inside.Sorting.pivot_keys, Selection.order_of_keys}

-- the order of documents by their sort keys is total, with ties
pub keys_total : (ds : List Doc) (ss : List SortPath) → IsTotalOrder (order_of_keys ds ss)
keys_total ds ss = on_total (document_at ds) (sort_total ss)

pub keys_strict : (ds : List Doc) (ss : List SortPath) → IsStrictOrder (before (order_of_keys ds ss))
keys_strict ds ss = before_strict (order_of_keys ds ss) (keys_total ds ss)

places_total : (ds : List Doc) (ss : List SortPath) → IsTotalOrder (λ p q. ordering_then (order_of_keys ds ss p q) (nat_cmp p q))
places_total ds ss = then_total (keys_total ds ss) nat_cmp_total

pub keys_weak : (ds : List Doc) (ss : List SortPath) → IsStrictWeakOrder (before (order_of_keys ds ss))
keys_weak ds ss = ranks_by (places_total ds ss) (λ (x : ℕ). x)

-- a document compares to the keys of the document at q as it compares to that document
pub pivot_order : (ds : List Doc) (ss : List SortPath) (p q : ℕ) → pivot_cmp (pivot_keys ds q ss) (document_at ds p) ≡ order_of_keys ds ss p q
pivot_order ds [] p q = refl
pivot_order ds (s ∷ ss) p q =
    ap (ordering_then (dir_cmp s.dir (sort_key s.dir (document_at ds p) s.path) (sort_key s.dir (document_at ds q) s.path))) (pivot_order ds ss p q)

gt_of_reverse : (o : Ordering) → is_gt (ordering_reverse o) ≡ is_lt o
gt_of_reverse o = grind arith

-- what comes after q is what q comes before
pub after_is_before : (ds : List Doc) (ss : List SortPath) (p q : ℕ) → is_gt (ordering_then (order_of_keys ds ss p q) (nat_cmp p q)) ≡ before (order_of_keys ds ss) q p
after_is_before ds ss p q =
    ap is_gt ((places_total ds ss).antisymm p q) ∙ gt_of_reverse (ordering_then (order_of_keys ds ss q p) (nat_cmp q p))
