-- What a renumbered request selects from renumbered documents.
use Rattle.std.proofs.Common.{ℤ, ◌≡◌, ℕ, zero, suc, List, [], ◌∷◌, refl, ap, ap₂, ◌∙◌, Option, Some, None}
use Rattle.std.specs.Prelude.{option_map, slice_get, slice_index_or}
use Rattle.std.specs.List.{AllByRecursion as Each, cons_option}
use Rattle.std.proofs.lemmas.{List.length-map, List.Elements.recursion_from_All}
use Rattle.bd_value.specs.Tree.{doc, Doc, field, fields_of}
use Rattle.bd_path.specs.Sort.{sort_cmp}
use Rattle.bd_query_filter.specs.FilterMatch.{matches}
use Rattle.bd_bson_dump.specs.Collection.{document_at, documents_at}
use Rattle.bd_cursor_request.specs.Request.{Request}
use Rattle.bd_cursor_sort.specs.Selection.{matches_at_of, order_of_keys, query_to}
use Rattle.bd_wide_order.specs.{Pages.HaveOneAnswer, Query.RequestNeeds, Query.renumber_request}
use Rattle.bd_wide_order.specs.Renumber.{Codes, under, KeepOrder, DocumentsAreOf, IsOf, renumber, renumber_fields, renumber_document, renumber_documents, renumber_filter}
use Rattle.bd_wide_order.proofs.MatchLemmas.{match_stays}
use Rattle.bd_wide_order.proofs.PageLemmas.{one_answer}
use Rattle.bd_wide_order.proofs.ReachLemmas.{sorts_stay}
use Rattle.bd_wide_order.specs.Ranks.{table_codes}
use Rattle.bd_wide_order.proofs.RankLemmas.{all_read_alike, filter_needs, ranks_keep_order}

module _ (c : Codes) where
  fields_stay : (d : Doc) → fields_of (renumber_document c d) ≡ renumber_fields c (fields_of d)
  fields_stay [] = refl
  fields_stay (p ∷ ps) = ap (λ fs. field p.0 (renumber (under p.0 c) p.1) fs) (fields_stay ps)

  at_place : (ds : List Doc) (p : ℕ) → slice_index_or (renumber_documents c ds) p [] ≡ renumber_document c (slice_index_or ds p [])
  at_place [] p = refl
  at_place (d ∷ ds) zero = refl
  at_place (d ∷ ds) (suc p) = at_place ds p

  document_stays : (ds : List Doc) (p : ℕ) → document_at (renumber_documents c ds) p ≡ renumber c (document_at ds p)
  document_stays ds p = ap (λ d. doc (fields_of d)) (at_place ds p) ∙ ap doc (fields_stay (slice_index_or ds p []))

  got : (ds : List Doc) (p : ℕ) → slice_get (renumber_documents c ds) p ≡ option_map (renumber_document c) (slice_get ds p)
  got [] p = refl
  got (d ∷ ds) zero = refl
  got (d ∷ ds) (suc p) = got ds p

  one : (a b : Option Doc) (xs ys : List Doc) → a ≡ option_map (renumber_document c) b → xs ≡ renumber_documents c ys → cons_option a xs ≡ renumber_documents c (cons_option b ys)
  one a None xs ys e f = ap₂ cons_option e f
  one a (Some d) xs ys e f = ap₂ cons_option e f

  pub documents_stay : (ds : List Doc) (ps : List ℕ) → documents_at (renumber_documents c ds) ps ≡ renumber_documents c (documents_at ds ps)
  documents_stay ds [] = refl
  documents_stay ds (p ∷ ps) = one (slice_get (renumber_documents c ds) p) (slice_get ds p) (documents_at (renumber_documents c ds) ps) (documents_at ds ps) (got ds p) (documents_stay ds ps)

  -- every place has a document of such numbers; after the last it has no field
  is_of : (ds : List Doc) (p : ℕ) → Each (λ d. IsOf c (doc (fields_of d))) ds → IsOf c (document_at ds p)
  is_of [] p are = tt
  is_of (d ∷ ds) zero are = are.0
  is_of (d ∷ ds) (suc p) are = is_of ds p are.1

module _ (c : Codes) (up : KeepOrder c) (r : Request) (needs : RequestNeeds c r) (ds : List Doc) (are : (p : ℕ) → IsOf c (document_at ds p)) where
  matches_at_stay : (p : ℕ) → matches_at_of (renumber_documents c ds) (renumber_filter c r.filter) p ≡ matches_at_of ds r.filter p
  matches_at_stay p = ap (matches (renumber_filter c r.filter)) (document_stays c ds p) ∙ match_stays c up r.filter needs.0 (document_at ds p) (are p)

  order_stays : (p q : ℕ) → order_of_keys (renumber_documents c ds) r.sorts p q ≡ order_of_keys ds r.sorts p q
  order_stays p q =
      ap₂ (sort_cmp r.sorts) (document_stays c ds p) (document_stays c ds q)
      ∙ sorts_stay c up r.sorts needs.1 (document_at ds p) (document_at ds q) (are p) (are q)

  requests_stay : (bytes new text : List ℕ) → HaveOneAnswer (query_to new (renumber_documents c ds) (renumber_request c text r)) (query_to bytes ds r)
  requests_stay bytes new text =
      one_answer (query_to new (renumber_documents c ds) (renumber_request c text r)) (query_to bytes ds r)
      (λ i. record {
        count = length-map ds (renumber_document c) i;
        matches_at = λ p. matches_at_stay p i;
        by = λ p q. order_stays p q i;
        skip = r.skip;
        limit = r.limit;
      })

pub answers_stay : (c : Codes) → KeepOrder c → (r : Request) → RequestNeeds c r → (ds : List Doc) → DocumentsAreOf c ds → (bytes new text : List ℕ)
    → HaveOneAnswer (query_to new (renumber_documents c ds) (renumber_request c text r)) (query_to bytes ds r)
answers_stay c up r needs ds are bytes new text = requests_stay c up r needs ds (λ p. is_of c ds p (recursion_from_All (λ d. IsOf c (doc (fields_of d))) ds are)) bytes new text

-- each path reads alike, and types stay, so a request needs no more
pub ranked_stay : (table : List ℤ) (r : Request) (ds : List Doc) → DocumentsAreOf (table_codes table) ds → (bytes new text : List ℕ)
    → HaveOneAnswer (query_to new (renumber_documents (table_codes table) ds) (renumber_request (table_codes table) text r)) (query_to bytes ds r)
ranked_stay table r ds are bytes new text =
    answers_stay (table_codes table) (ranks_keep_order table) r
    (filter_needs table r.filter, λ k d l. all_read_alike table (slice_index_or r.sorts k d).path) ds are bytes new text
