-- `explain` over the copy of a dump, with ranks, replies what it replies over the documents by value.
use Rattle.std.proofs.Common.{◌≡◌, ◌∙◌, ◌+◌, ◌&&◌, ℕ, zero, suc, Bool, true, false, List, [], ◌∷◌, ◌++◌, Option, Some, None, cond, map, length, refl, sym, ap, ap₂, subst}
use Rattle.std.specs.Prelude.{ℤ, count_by, if◌then◌else◌, not, option_map, unwrap_or}
use Rattle.std.specs.List.{AllByRecursion as Each, filter, find, fold, list_any, range_with_len}
use Rattle.std.specs.Option.{option_map_or, option_or}
use Rattle.std.proofs.lemmas.{List.Elements.recursion_from_All, List.length-map}
use Rattle.bd_value.specs.Order.{equal}
use Rattle.bd_value.specs.Tree.{Doc, Tree, array, code_scope, doc, fields_of, leaf, list_of, null, undefined}
use Rattle.bd_path.specs.Key.{all_keys, distinct, end_keys, indexed_keys, key_collecting, missing_key, or_else}
use Rattle.bd_path.specs.{Reach.Names, Sort.SortPath}
use Rattle.bd_query_filter.specs.Filter.{Filter}
use Rattle.bd_bson_dump.specs.Collection.{document_at}
use Rattle.bd_cursor_model.specs.Answer.{matching}
use Rattle.bd_cursor_model.specs.Session.{IndexCounts, IndexKey, Query, is_on}
use Rattle.bd_cursor_request.specs.Request.{Request}
use Rattle.bd_cursor_sort.specs.Selection.{selection_for}
use Rattle.bd_index_bounds.specs.Bounds.{KeyBounds, KeySet, bounds, is_among}
use Rattle.bd_index.specs.{Entries.KeyAt, Entries.entries_from, Entries.is_multikey, Entries.keys_at, Places.has_key_in}
use Rattle.bd_cursor.specs.Access.{AccessPath, Way, access_of, bounded, by_any, by_bounds, by_none, by_one, by_order, find_map, index_key_names, named_access, scanned, serving_bounds, walk_dir, walked}
use Rattle.bd_cursor.specs.Explanation.{entries_within, explained_access, explanation, explanation_for, places_within}
use Rattle.bd_cursor.specs.declared.explaining.Plan.TheVariants as plans
use Rattle.bd_path.specs.declared.sort.Dir.{Dir}
use Rattle.bd_wide_rank.specs.Rank.{code}
use Rattle.bd_wide_copy.specs.{Copy.number_coded, Dump.coded_documents}
use Rattle.bd_wide_order.specs.{Query.renumber_request, Ranks.table_codes}
use Rattle.bd_wide_order.specs.Renumber.{Code, Codes, DocumentsAreOf, IsOf, KeepOrder, ReadsAlike, renumber, renumber_document, renumber_documents, renumber_filter}
use Rattle.bd_wide_order.proofs.RankLemmas.{ranks_keep_order}
use Rattle.bd_wide_order.proofs.ReachLemmas.{any_map, collected, keys_stay, list_is_of, passing_over}
use Rattle.bd_wide_find.proofs.AnswerLemmas.{coded_answers}
use Rattle.bd_wide_find.proofs.RenumberLemmas.{copies_are}
use Rattle.bd_wide_service.proofs.BoundsLemmas.{BoundsAlike, among_stays, bounds_stay, everywhere}
use Rattle.bd_wide_service.proofs.IndexLemmas.{EachIsOf, counts_stay, document_stays, entries_stay, multikey_stays, renumber_entry}

-- ---- the keys of documents have the documents' numbers

module _ (c : Codes) where
  or_is_of : (xs ys : List Tree) → Each (IsOf c) xs → Each (IsOf c) ys → Each (IsOf c) (or_else xs ys)
  or_is_of [] ys a b = b
  or_is_of (x ∷ xs) ys a b = a

  end_is_of : (t : Tree) → IsOf c t → Each (IsOf c) (end_keys t)
  end_is_of (leaf s) a = (a, tt)
  end_is_of (doc fs) a = (a, tt)
  end_is_of (array ts) a = or_is_of (list_of ts) (leaf undefined ∷ []) (list_is_of c ts a) (tt, tt)
  end_is_of (code_scope s fs) a = (a, tt)

  missing_is_of : (sparse : Bool) → Each (IsOf c) (missing_key sparse)
  missing_is_of true = tt
  missing_is_of false = (tt, tt)

  kept_is_of : (b : Bool) (k : Tree) (ks : List Tree) → IsOf c k → Each (IsOf c) ks → Each (IsOf c) (cond b (k ∷ ks) ks)
  kept_is_of true k ks a b = (a, b)
  kept_is_of false k ks a b = b

  others_are_of : (test : Tree → Bool) (ks : List Tree) → Each (IsOf c) ks → Each (IsOf c) (filter test ks)
  others_are_of test [] b = tt
  others_are_of test (k ∷ ks) b = kept_is_of (test k) k (filter test ks) b.0 (others_are_of test ks b.1)

  distinct_are_of : (ks : List Tree) → Each (IsOf c) ks → Each (IsOf c) (distinct ks)
  distinct_are_of [] b = tt
  distinct_are_of (k ∷ ks) b = (b.0, others_are_of (λ x. not (equal k x)) (distinct ks) (distinct_are_of ks b.1))

module _ (one : Code) where
  abbrev c : Codes
  c = everywhere one

  reads_alike : (path : Names) → ReadsAlike c path
  reads_alike path = passing_over c (λ before name after e. refl) path

  keys_are_of : (path : Names) (sparse : Bool) (t : Tree) → IsOf c t → Each (IsOf c) (indexed_keys sparse t path)
  keys_are_of path sparse t a =
      distinct_are_of c (all_keys sparse t path)
      (collected c (IsOf c) (key_collecting (missing_key sparse))
      (record { at_end = end_is_of c; missing = missing_is_of c sparse; of_array = λ xs b. or_is_of c xs (missing_key sparse) b (missing_is_of c sparse) })
      c t path a (reads_alike path))

  -- ---- the entries and the documents inside bounds

  abbrev KeyIsOf : KeyAt → Type 0
  KeyIsOf e = IsOf c e.0

  each_joined : (xs ys : List KeyAt) → Each KeyIsOf xs → Each KeyIsOf ys → Each KeyIsOf (xs ++ ys)
  each_joined [] ys a b = b
  each_joined (x ∷ xs) ys a b = (a.0, each_joined xs ys a.1 b)

  each_at : (place : ℕ) (ks : List Tree) → Each (IsOf c) ks → Each KeyIsOf (keys_at place ks)
  each_at place [] a = tt
  each_at place (k ∷ ks) a = (a.0, each_at place ks a.1)

  entries_are_of : (path : Names) (sparse : Bool) (place : ℕ) (ds : List Doc) → EachIsOf c ds → Each KeyIsOf (entries_from sparse path place ds)
  entries_are_of path sparse place [] a = tt
  entries_are_of path sparse place (d ∷ ds) a =
      let ks = indexed_keys sparse (doc (fields_of d)) path in
      each_joined (keys_at place ks) (entries_from sparse path (place + 1) ds)
      (each_at place ks (keys_are_of path sparse (doc (fields_of d)) a.0)) (entries_are_of path sparse (place + 1) ds a.1)

  module _ (path : Names) (new old : KeyBounds) (alike : BoundsAlike one new old) where
    counted_from : (n : ℕ) (es : List KeyAt) → Each KeyIsOf es
        → fold (λ m e. m + cond (has_key_in new e) 1 0) n (map (renumber_entry c path) es) ≡ fold (λ m e. m + cond (has_key_in old e) 1 0) n es
    counted_from n [] a = refl
    counted_from n (e ∷ es) a =
        ap (λ (b : Bool). fold (λ (m : ℕ) (x : KeyAt). m + cond (has_key_in new x) 1 0) (n + cond b 1 0) (map (renumber_entry c path) es))
        (among_stays one new old alike e.0 a.0)
        ∙ counted_from (n + cond (is_among old e.0) 1 0) es a.1

    count_stays : (es : List KeyAt) → Each KeyIsOf es → count_by (has_key_in new) (map (renumber_entry c path) es) ≡ count_by (has_key_in old) es
    count_stays = counted_from 0

  at_place : (ds : List Doc) (p : ℕ) → document_at (renumber_documents c ds) p ≡ renumber c (document_at ds p)
  at_place [] p = refl
  at_place (d ∷ ds) zero = document_stays c d
  at_place (d ∷ ds) (suc p) = at_place ds p

  is_at : (ds : List Doc) (p : ℕ) → EachIsOf c ds → IsOf c (document_at ds p)
  is_at [] p are = tt
  is_at (d ∷ ds) zero are = are.0
  is_at (d ∷ ds) (suc p) are = is_at ds p are.1

  module _ (up : KeepOrder c) (ds : List Doc) (are : EachIsOf c ds) where
    abbrev others : List Doc
    others = renumber_documents c ds

    module _ (i : IndexKey) (new old : KeyBounds) (alike : BoundsAlike one new old) where
      within_stays : entries_within others i new ≡ entries_within ds i old
      within_stays =
          ap (count_by (has_key_in new)) (entries_stay c up (index_key_names i) (reads_alike (index_key_names i)) i.is_sparse 0 ds are)
          ∙ count_stays (index_key_names i) new old alike (entries_from i.is_sparse (index_key_names i) 0 ds)
          (entries_are_of (index_key_names i) i.is_sparse 0 ds are)

      has_key_stays : (p : ℕ) → list_any (is_among new) (indexed_keys i.is_sparse (document_at others p) (index_key_names i))
          ≡ list_any (is_among old) (indexed_keys i.is_sparse (document_at ds p) (index_key_names i))
      has_key_stays p =
          let ks = indexed_keys i.is_sparse (document_at ds p) (index_key_names i) in
          ap (λ (t : Tree). list_any (is_among new) (indexed_keys i.is_sparse t (index_key_names i))) (at_place ds p)
          ∙ ap (list_any (is_among new)) (keys_stay c up (index_key_names i) (reads_alike (index_key_names i)) i.is_sparse (document_at ds p) (is_at ds p are))
          ∙ any_map (is_among new) (is_among old) (renumber c) (IsOf c) (among_stays one new old alike) ks
          (keys_are_of (index_key_names i) i.is_sparse (document_at ds p) (is_at ds p are))

      places_stay : places_within others i new ≡ places_within ds i old
      places_stay = λ k. filter (λ p. has_key_stays p k) (range_with_len 0 (length-map ds (renumber_document c) k))

    -- ---- access paths

    module _ (n : ℕ) where
      -- Both access paths have one explanation.
      abbrev Explain : AccessPath → AccessPath → Type 0
      Explain new old = explained_access others n new ≡ explained_access ds n old

      -- Neither is there, or both are and have one explanation.
      abbrev BothExplain : Option AccessPath → Option AccessPath → Type 0
      BothExplain None None = Unit {0}
      BothExplain (Some new) (Some old) = Explain new old
      BothExplain _ _ = ⊥

      scans : Explain scanned scanned
      scans = ap (λ (k : ℕ). explanation plans.Scan None 0 k n) (length-map ds (renumber_document c))

      bounds_explain : (i : IndexKey) (new old : KeyBounds) → BoundsAlike one new old → Explain (bounded i new) (bounded i old)
      bounds_explain i new old alike = ap₂ (λ (entries : ℕ) (places : List ℕ). explanation plans.Index (Some i.path) entries (length places) n)
          (within_stays i new old alike) (places_stay i new old alike)

      walks : (i : IndexKey) (dir : Dir) → Explain (walked i dir) (walked i dir)
      walks i dir = ap₂ (λ (counts : IndexCounts) (k : ℕ). explanation plans.Walk (Some i.path) counts.entries k n)
          (counts_stay c up i (reads_alike (index_key_names i)) ds are) (length-map ds (renumber_document c))

      or_explains : (new old new2 old2 : Option AccessPath) → BothExplain new old → BothExplain new2 old2 → BothExplain (option_or new new2) (option_or old old2)
      or_explains None None new2 old2 p q = q
      or_explains (Some x) (Some y) new2 old2 p q = p
      or_explains None (Some y) new2 old2 p q = absurd p
      or_explains (Some x) None new2 old2 p q = absurd p

      unwrap_explains : (new old : Option AccessPath) (x y : AccessPath) → BothExplain new old → Explain x y → Explain (unwrap_or new x) (unwrap_or old y)
      unwrap_explains None None x y p q = q
      unwrap_explains (Some u) (Some v) x y p q = p
      unwrap_explains None (Some v) x y p q = absurd p
      unwrap_explains (Some u) None x y p q = absurd p

      first_explains : (f g : IndexKey → Option AccessPath) → ((i : IndexKey) → BothExplain (f i) (g i)) → (is : List IndexKey) → BothExplain (find_map f is) (find_map g is)
      first_explains f g same [] = tt
      first_explains f g same (i ∷ is) = or_explains (f i) (g i) (find_map f is) (find_map g is) (same i) (first_explains f g same is)

      order_explains : (ss : List SortPath) (i : IndexKey) → BothExplain (by_order ss i) (by_order ss i)
      order_explains ss i = go (walk_dir i ss)
        where
          go : (dir : Option Dir) → BothExplain (option_map (walked i) dir) (option_map (walked i) dir)
          go None = tt
          go (Some dir) = walks i dir

      -- the access path of bounds by which an index serves
      abbrev by_serving : IndexKey → KeyBounds → Option AccessPath
      by_serving i keys = option_map (λ set. bounded i (Some set)) keys

      serves_unless : (i : IndexKey) (b d : Bool) (new old : KeySet) → b ≡ d → BoundsAlike one (Some new) (Some old)
          → BothExplain (by_serving i (if b then None else Some new)) (by_serving i (if d then None else Some old))
      serves_unless i true true new old e alike = tt
      serves_unless i false false new old e alike = bounds_explain i (Some new) (Some old) alike
      serves_unless i true false new old e alike = absurd (let no : ⊥ = cc in no)
      serves_unless i false true new old e alike = absurd (let no : ⊥ = cc in no)

      serving_explains : (i : IndexKey) (new old : KeyBounds) → BoundsAlike one new old
          → BothExplain (by_serving i (serving_bounds i new)) (by_serving i (serving_bounds i old))
      serving_explains i None None alike = tt
      serving_explains i None (Some old) alike = absurd alike
      serving_explains i (Some new) None alike = absurd alike
      serving_explains i (Some new) (Some old) alike =
          serves_unless i (i.is_sparse && new (leaf null)) (i.is_sparse && old (leaf null)) new old (ap (λ b. i.is_sparse && b) (alike (leaf null) tt)) alike

      module _ (f : Filter) where
        abbrev renumbered : Filter
        renumbered = renumber_filter c f

        by_bounds_explains : (i : IndexKey) → BothExplain (by_bounds others renumbered i) (by_bounds ds f i)
        by_bounds_explains i =
            subst (λ (m : Bool). BothExplain (by_serving i (serving_bounds i (bounds renumbered (index_key_names i) m))) (by_bounds ds f i))
            (sym (multikey_stays c up (index_key_names i) (reads_alike (index_key_names i)) ds are))
            (serving_explains i (bounds renumbered (index_key_names i) (is_multikey (index_key_names i) ds)) (bounds f (index_key_names i) (is_multikey (index_key_names i) ds))
            (bounds_stay one up f (index_key_names i) (is_multikey (index_key_names i) ds)))

        whole_explains : (i : IndexKey) (sparse : Bool) → Explain (if sparse then scanned else bounded i None) (if sparse then scanned else bounded i None)
        whole_explains i true = scans
        whole_explains i false = bounds_explain i None None tt

        named_explains : (ss : List SortPath) (i : IndexKey) → Explain (named_access others renumbered ss i) (named_access ds f ss i)
        named_explains ss i =
            unwrap_explains (option_or (by_bounds others renumbered i) (by_order ss i)) (option_or (by_bounds ds f i) (by_order ss i))
            (if i.is_sparse then scanned else bounded i None) (if i.is_sparse then scanned else bounded i None)
            (or_explains (by_bounds others renumbered i) (by_bounds ds f i) (by_order ss i) (by_order ss i) (by_bounds_explains i) (order_explains ss i))
            (whole_explains i i.is_sparse)

        -- the access path to renumbered documents by the renumbered filter has the explanation of that to the documents by the filter
        pub access_explains : (ss : List SortPath) (way : Way) (is : List IndexKey) → Explain (access_of others renumbered ss way is) (access_of ds f ss way is)
        access_explains ss by_none is = scans
        access_explains ss by_any is =
            unwrap_explains (option_or (find_map (by_bounds others renumbered) is) (find_map (by_order ss) is))
            (option_or (find_map (by_bounds ds f) is) (find_map (by_order ss) is)) scanned scanned
            (or_explains (find_map (by_bounds others renumbered) is) (find_map (by_bounds ds f) is) (find_map (by_order ss) is) (find_map (by_order ss) is)
            (first_explains (by_bounds others renumbered) (by_bounds ds f) by_bounds_explains is) (first_explains (by_order ss) (by_order ss) (order_explains ss) is)) scans
        access_explains ss (by_one path) is = go (find (is_on path) is)
          where
            go : (i : Option IndexKey) → Explain (option_map_or (named_access others renumbered ss) i scanned) (option_map_or (named_access ds f ss) i scanned)
            go None = scans
            go (Some i) = named_explains ss i

-- ---- the copy of a dump

module _ (table : List ℤ) (r : Request) (ds : List Doc) (are : DocumentsAreOf (table_codes table) ds) (text : List ℕ) where
  abbrev copies : List Doc
  copies = coded_documents (number_coded (code table)) ds

  matches_are : length (matching (selection_for copies (renumber_filter (table_codes table) r.filter) r.sorts r.skip r.limit))
      ≡ length (matching (selection_for ds r.filter r.sorts r.skip r.limit))
  matches_are = ap (λ (q : Query). length (matching q.selection)) (coded_answers table r ds are [] text)

  explains : (way : Way) (is : List IndexKey) → explanation_for copies (renumber_request (table_codes table) text r) way is ≡ explanation_for ds r way is
  explains way is =
      let n = length (matching (selection_for ds r.filter r.sorts r.skip r.limit)) in
      ap (λ (m : ℕ). explained_access copies m (access_of copies (renumber_filter (table_codes table) r.filter) r.sorts way is)) matches_are
      ∙ ap (λ (es : List Doc). explained_access es n (access_of es (renumber_filter (table_codes table) r.filter) r.sorts way is)) (copies_are table ds)
      ∙ access_explains (table_codes table []) (ranks_keep_order table) ds (recursion_from_All (λ d. IsOf (table_codes table) (doc (fields_of d))) ds are) n
      r.filter r.sorts way is

  -- `explain` of a request with ranks replies over the copy what that by value replies over the documents
  pub explained_by_value : (way : Way) → explanation_for copies (renumber_request (table_codes table) text r) way ≡ explanation_for ds r way
  explained_by_value way = λ k is. explains way is k
