-- An index of the copy of a dump has as many entries as one of its documents, and is multikey exactly if that is.
use Rattle.std.proofs.Common.{◌≡◌, ◌∙◌, ◌+◌, ℕ, List, [], ◌∷◌, ◌++◌, map, length, refl, sym, ap, ap₂}
use Rattle.std.specs.Prelude.{ℤ, Bool, false, nat_lt}
use Rattle.std.specs.List.{AllByRecursion as Each}
use Rattle.std.proofs.lemmas.{List.Elements.recursion_from_All, List.length-map, List.map-append}
use Rattle.bd_value.specs.Tree.{Doc, Tree, doc, field, fields_of}
use Rattle.bd_path.specs.{Key.indexed_keys, Key.keys, Reach.Names}
use Rattle.bd_cursor_model.specs.Session.{IndexCounts, IndexKey}
use Rattle.bd_index.specs.Entries.{KeyAt, entries_from, has_two_keys, is_multikey, keys_at}
use Rattle.bd_cursor.specs.{Access.index_key_names, Explanation.index_counts}
use Rattle.bd_wide_rank.specs.Rank.{code}
use Rattle.bd_wide_copy.specs.{Copy.number_coded, Dump.coded_documents}
use Rattle.bd_wide_order.specs.Ranks.{table_codes}
use Rattle.bd_wide_order.specs.Renumber.{Codes, DocumentsAreOf, IsOf, KeepOrder, ReadsAlike, below, renumber, renumber_document, renumber_documents, renumber_fields, under}
use Rattle.bd_wide_order.proofs.{RankLemmas.ranks_keep_order, ReachLemmas.any_map, ReachLemmas.keys_stay}
use Rattle.bd_wide_order.proofs.RankLemmas as ranks
use Rattle.bd_wide_find.proofs.RenumberLemmas.{copies_are}

-- Each number in each of the documents may occur at its path.
abbrev pub EachIsOf : Codes → List Doc → Type 0
EachIsOf c ds = Each (λ d. IsOf c (doc (fields_of d))) ds

module _ (c : Codes) where
  fields_stay : (d : Doc) → fields_of (renumber_document c d) ≡ renumber_fields c (fields_of d)
  fields_stay [] = refl
  fields_stay (p ∷ ps) = ap (λ fs. field p.0 (renumber (under p.0 c) p.1) fs) (fields_stay ps)

  pub document_stays : (d : Doc) → doc (fields_of (renumber_document c d)) ≡ renumber c (doc (fields_of d))
  document_stays d = ap doc (fields_stay d)

  -- an entry with a renumbered key
  abbrev pub renumber_entry : Names → KeyAt → KeyAt
  renumber_entry path e = (renumber (below path c) e.0, e.1)

  keys_at_stay : (path : Names) (place : ℕ) (ks : List Tree) → keys_at place (map (renumber (below path c)) ks) ≡ map (renumber_entry path) (keys_at place ks)
  keys_at_stay path place [] = refl
  keys_at_stay path place (k ∷ ks) = ap (λ (es : List KeyAt). (renumber (below path c) k, place) ∷ es) (keys_at_stay path place ks)

module _ (c : Codes) (up : KeepOrder c) (path : Names) (lead : ReadsAlike c path) where
  document_keys_stay : (sparse : Bool) (d : Doc) → IsOf c (doc (fields_of d))
      → indexed_keys sparse (doc (fields_of (renumber_document c d))) path ≡ map (renumber (below path c)) (indexed_keys sparse (doc (fields_of d)) path)
  document_keys_stay sparse d a = ap (λ t. indexed_keys sparse t path) (document_stays c d) ∙ keys_stay c up path lead sparse (doc (fields_of d)) a

  -- the entries of renumbered documents are those of the documents, with renumbered keys
  pub entries_stay : (sparse : Bool) (place : ℕ) (ds : List Doc) → EachIsOf c ds
      → entries_from sparse path place (renumber_documents c ds) ≡ map (renumber_entry c path) (entries_from sparse path place ds)
  entries_stay sparse place [] a = refl
  entries_stay sparse place (d ∷ ds) a =
      let ks = indexed_keys sparse (doc (fields_of d)) path in
      ap₂ ◌++◌ (ap (keys_at place) (document_keys_stay sparse d a.0) ∙ keys_at_stay c path place ks) (entries_stay sparse (place + 1) ds a.1)
      ∙ sym (map-append (renumber_entry c path) (keys_at place ks) (entries_from sparse path (place + 1) ds))

  two_keys_stay : (d : Doc) → IsOf c (doc (fields_of d)) → has_two_keys path (doc (fields_of (renumber_document c d))) ≡ has_two_keys path (doc (fields_of d))
  two_keys_stay d a =
      ap (λ (ks : List Tree). nat_lt 1 (length ks)) (document_keys_stay false d a)
      ∙ ap (nat_lt 1) (length-map (keys (doc (fields_of d)) path) (renumber (below path c)))

  -- renumbered documents have two keys on a path exactly if the documents have
  pub multikey_stays : (ds : List Doc) → EachIsOf c ds → is_multikey path (renumber_documents c ds) ≡ is_multikey path ds
  multikey_stays =
      any_map (λ d. has_two_keys path (doc (fields_of d))) (λ d. has_two_keys path (doc (fields_of d))) (renumber_document c)
      (λ d. IsOf c (doc (fields_of d))) two_keys_stay

module _ (c : Codes) (up : KeepOrder c) (i : IndexKey) (lead : ReadsAlike c (index_key_names i)) (ds : List Doc) (are : EachIsOf c ds) where
  -- an index of renumbered documents has as many entries as one of the documents
  pub counts_stay : index_counts (renumber_documents c ds) i ≡ index_counts ds i
  counts_stay = ap₂ (λ (n : ℕ) (m : Bool). let counts : IndexCounts = record { entries = n; is_multikey = m } in counts)
      (ap length (entries_stay c up (index_key_names i) lead i.is_sparse 0 ds are)
      ∙ length-map (entries_from i.is_sparse (index_key_names i) 0 ds) (renumber_entry c (index_key_names i)))
      (multikey_stays c up (index_key_names i) lead ds are)

-- an index of the copy of a dump has as many entries as one of its documents
pub counts_by_value : (table : List ℤ) (ds : List Doc) → DocumentsAreOf (table_codes table) ds → (i : IndexKey)
    → index_counts (coded_documents (number_coded (code table)) ds) i ≡ index_counts ds i
counts_by_value table ds are i =
    let each : EachIsOf (table_codes table) ds = recursion_from_All (λ d. IsOf (table_codes table) (doc (fields_of d))) ds are in
    ap (λ (es : List Doc). index_counts es i) (copies_are table ds)
    ∙ counts_stay (table_codes table) (ranks_keep_order table) i (ranks.all_read_alike table (index_key_names i)) ds each
