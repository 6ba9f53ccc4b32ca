-- The copies of documents are the renumbered documents.
use Rattle.std.proofs.Common.{◌≡◌, List, [], ◌∷◌, refl, ap, ap₂}
use Rattle.std.specs.Prelude.{ℤ}
use Rattle.bd_value.specs.Tree.{Tree, leaf, int32, int64, doc, array, code_scope, Items, no_items, item, Fields, no_fields, field, Doc}
use Rattle.bd_wide_rank.specs.Rank.{code}
use Rattle.bd_wide_copy.specs.Copy.{coded, coded_items, coded_fields, coded_document, number_coded}
use Rattle.bd_wide_copy.specs.Dump.{coded_documents}
use Rattle.bd_wide_order.specs.Renumber.{renumber, renumber_items, renumber_fields, renumber_document, renumber_documents}
use Rattle.bd_wide_order.specs.Ranks.{table_codes}

module _ (table : List ℤ) where
  mutual
    value_is : (t : Tree) → coded (number_coded (code table)) t ≡ renumber (table_codes table) t
    value_is (leaf (int32 n)) = refl
    value_is (leaf (int64 n)) = refl
    value_is (leaf _) = refl
    value_is (doc fs) = ap doc (fields_are fs)
    value_is (array ts) = ap array (items_are ts)
    value_is (code_scope s fs) = ap (code_scope s) (fields_are fs)

    items_are : (ts : Items) → coded_items (number_coded (code table)) ts ≡ renumber_items (table_codes table) ts
    items_are no_items = refl
    items_are (item t ts) = ap₂ item (value_is t) (items_are ts)

    fields_are : (fs : Fields) → coded_fields (number_coded (code table)) fs ≡ renumber_fields (table_codes table) fs
    fields_are no_fields = refl
    fields_are (field n t fs) = ap₂ (field n) (value_is t) (fields_are fs)

  document_is : (d : Doc) → coded_document (number_coded (code table)) d ≡ renumber_document (table_codes table) d
  document_is [] = refl
  document_is (p ∷ ps) = ap₂ (λ (t : Tree) (qs : Doc). (p.0, t) ∷ qs) (value_is p.1) (document_is ps)

  -- the copies of documents are the renumbered documents
  pub copies_are : (ds : List Doc) → coded_documents (number_coded (code table)) ds ≡ renumber_documents (table_codes table) ds
  copies_are [] = refl
  copies_are (d ∷ ds) = ap₂ ◌∷◌ (document_is d) (copies_are ds)
