-- What a request selects from the documents of a dump.
use Rattle.std.specs.{Prelude.ℕ, Prelude.Bool, Prelude.List, Prelude.length, declared.cmp.Ordering.Ordering}
use Rattle.bd_value.specs.Tree.{Doc}
use Rattle.bd_cursor_model.specs.{Answer.Selection, Session.Query}
use Rattle.bd_bson_dump.specs.{Collection.bytes_of, Collection.documents, Collection.document_at}
use Rattle.bd_bson_dump.specs.{declared.collection.Dump.Dump}
use Rattle.bd_path.specs.{Sort.SortPath, Sort.sort_cmp, Sort.sort_paths}
use Rattle.bd_query_filter.specs.{Filter.Filter, FilterMatch.matches, Filter.filter_tree}
use Rattle.bd_cursor_request.specs.{Token.token_digest, Request.Request, Request.request_view}
use Rattle.bd_cursor_request.specs.declared.request.Request as declared

-- whether the document with that number matches the filter
abbrev pub matches_at_of : List Doc → Filter → ℕ → Bool
matches_at_of ds f p = matches f (document_at ds p)

-- the order of two documents, by their numbers, in a sort by these paths
abbrev pub order_of_keys : List Doc → List SortPath → ℕ → ℕ → Ordering
order_of_keys ds ss p q = sort_cmp ss (document_at ds p) (document_at ds q)

-- what a filter, a sort, a skip and a limit select from these documents
abbrev pub selection_for : List Doc → Filter → List SortPath → ℕ → ℕ → Selection
selection_for ds f ss skip limit =
    record { count = length ds; matches_at = matches_at_of ds f; by = order_of_keys ds ss; skip = skip; limit = limit }

-- what a request in memory selects from these documents
abbrev pub selection_of : List Doc → declared.Request → Selection
selection_of ds r = selection_for ds (filter_tree r.filter) (sort_paths r.sort.items) r.skip r.limit

-- a request to a dump of these bytes, which are these documents, with the digest of both
abbrev pub query_to : List ℕ → List Doc → Request → Query
query_to bytes ds r =
    record { selection = selection_for ds r.filter r.sorts r.skip r.limit; digest = token_digest bytes r.text }

-- a request in memory to a dump, with the digest of both
abbrev pub query_of : Dump → declared.Request → Query
query_of dump r = query_to (bytes_of dump) (documents dump) (request_view r)
