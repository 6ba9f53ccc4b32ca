-- A request with codes answers over the copy as the request by value does over the documents.
use Rattle.std.proofs.Common.{◌≡◌, ℕ, List, [], refl, sym, ap, ap₂, ◌∙◌, Result, Ok, Err}
use Rattle.std.specs.Prelude.{ℤ}
use Rattle.bd_value.specs.Tree.{Doc}
use Rattle.bd_query_filter.specs.Filter.{Filter}
use Rattle.bd_cursor_request.specs.Refused.{Reason, then_part}
use Rattle.bd_cursor_request.specs.Request.{Request, request_of, request_text}
use Rattle.bd_cursor_request.specs.{Token.token_digest}
use Rattle.bd_cursor_sort.specs.Selection.{query_to, selection_for}
use Rattle.bd_wide_number.specs.declared.number.Number.{Number}
use Rattle.bd_wide_rank.specs.Rank.{code}
use Rattle.bd_wide_copy.specs.{Copy.number_coded, Dump.coded_documents}
use Rattle.bd_wide_order.specs.Query.{renumber_request}
use Rattle.bd_wide_order.specs.Ranks.{table_codes}
use Rattle.bd_wide_order.specs.Renumber.{DocumentsAreOf, renumber_filter}
use Rattle.bd_wide_order.proofs.AnswerLemmas.{ranked_stay}
use Rattle.bd_wide_order.proofs.QueryLemmas.{request_read}
use Rattle.bd_wide_copy.specs.declared.longs.Longs.{Longs}
use Rattle.bd_wide_query.specs.Coded.{coded_query, valued_query}
use Rattle.bd_wide_find.proofs.RenumberLemmas.{copies_are}

module _ (table : List ℤ) (r : Request) (ds : List Doc) (are : DocumentsAreOf (table_codes table) ds) where
  abbrev copies : List Doc
  copies = coded_documents (number_coded (code table)) ds

  abbrev requested : Filter
  requested = renumber_filter (table_codes table) r.filter

  selected : selection_for copies requested r.sorts r.skip r.limit ≡ selection_for ds r.filter r.sorts r.skip r.limit
  selected =
      ap (λ (es : List Doc). selection_for es requested r.sorts r.skip r.limit) (copies_are table ds)
      ∙ (ranked_stay table r ds are [] [] []).selection

  -- the request with codes selects of the copies what the request by value selects of the documents
  pub coded_answers : (copy text : List ℕ) → query_to copy copies (renumber_request (table_codes table) text r) ≡ query_to copy ds (record r { text = text })
  coded_answers copy text = λ i. record { selection = selected i; digest = token_digest copy text }

-- ---- requests

module _ (table : List ℤ) (longs : Longs) (numbers : List Number) (wholes texts sort : Doc) (skip limit : ℕ) where
  abbrev query : Doc
  query = coded_query table longs numbers wholes texts

  -- a query with codes is that request with codes
  pub requests_are_read : (r : Request) → request_of (valued_query longs numbers wholes texts) sort skip limit ≡ Ok r
      → request_of query sort skip limit ≡ Ok (renumber_request (table_codes table) (request_text query sort skip limit) r)
  requests_are_read r e =
      request_read (table_codes table) (valued_query longs numbers wholes texts) sort skip limit
      ∙ ap (λ (x : Result Request Reason). then_part x (λ s. Ok (renumber_request (table_codes table) (request_text query sort skip limit) s))) e

  -- or it is refused for the same reason
  pub refusals_stay : (why : Reason) → request_of (valued_query longs numbers wholes texts) sort skip limit ≡ Err why → request_of query sort skip limit ≡ Err why
  refusals_stay why e =
      request_read (table_codes table) (valued_query longs numbers wholes texts) sort skip limit
      ∙ ap (λ (x : Result Request Reason). then_part x (λ s. Ok (renumber_request (table_codes table) (request_text query sort skip limit) s))) e
