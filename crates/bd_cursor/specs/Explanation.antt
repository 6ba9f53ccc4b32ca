-- The reply of `explain`: how the documents of a request are found.
use Rattle.std.specs.Prelude.{ℕ, List, [], ◌∷◌, codes, count_by, length, option_map, string_bytes, Option, Some, None}
use Rattle.std.specs.List.{filter, list_any, range_with_len}
use Rattle.bd_value.specs.Tree.{Doc, leaf}
use Rattle.bd_cursor_model.specs.Answer.{matching}
use Rattle.bd_cursor_model.specs.Session.{IndexCounts, IndexKey}
use Rattle.bd_path.specs.Key.{indexed_keys}
use Rattle.bd_cursor_request.specs.{Request.Request, Request.request_view, Results.count_value, Results.text_or_null}
use Rattle.bd_bson_dump.specs.Collection.{document_at}
use Rattle.bd_cursor_sort.specs.Selection.{selection_for}
use Rattle.bd_index_bounds.specs.Bounds.{KeyBounds, is_among}
use Rattle.bd_index.specs.{Entries.entries_of, Entries.is_multikey, Places.has_key_in}
use Rattle.bd_cursor.specs.Access.{AccessPath, Way, access_of, bounded, index_key_names, scanned, walked, way_of}
use Rattle.bd_cursor.specs.{declared.access.Choice.Choice, declared.explaining.Explain.Explain}
use Rattle.bd_cursor.specs.{declared.explaining.Plan.Plan}
use Rattle.bd_value.specs.Tree as trees
use Rattle.bd_cursor.specs.declared.explaining.Plan.TheVariants as plans
use Rattle.bd_cursor_request.specs.declared.request.Request as declared

-- how many entries the index of these documents has, and whether one of them has two keys
abbrev pub index_counts : List Doc → IndexKey → IndexCounts
index_counts ds i =
    record { entries = length (entries_of i.is_sparse (index_key_names i) ds); is_multikey = is_multikey (index_key_names i) ds }

-- how many entries of an index are inside bounds
abbrev pub entries_within : List Doc → IndexKey → KeyBounds → ℕ
entries_within ds i b = count_by (has_key_in b) (entries_of i.is_sparse (index_key_names i) ds)

-- the numbers of the documents with an entry inside the bounds, ascending
abbrev pub places_within : List Doc → IndexKey → KeyBounds → List ℕ
places_within ds i b = filter (λ p. list_any (is_among b) (indexed_keys i.is_sparse (document_at ds p) (index_key_names i)))
    (range_with_len 0 (length ds))

-- the name of a plan in the reply to `explain`
abbrev pub plan_name : Plan → List ℕ
plan_name plans.Scan = codes "scan"
plan_name plans.Index = codes "index"
plan_name plans.Walk = codes "walk"

-- the reply of `explain`, as fields: the plan, the path of the index or null, and how many entries are read,
-- documents examined and matches found
abbrev pub explanation : Plan → Option (List ℕ) → ℕ → ℕ → ℕ → Doc
explanation plan index entries documents matches =
    (codes "plan", leaf (trees.text (plan_name plan))) ∷ (codes "index", text_or_null index)
    ∷ (codes "entries", count_value entries)
    ∷ (codes "documents", count_value documents) ∷ (codes "matches", count_value matches) ∷ []

-- the fields of an `Explain` in memory
abbrev pub explain_doc : Explain → Doc
explain_doc e = explanation e.plan (option_map string_bytes e.index) e.entries e.documents e.matches

-- the reply of `explain` for an access path on which n documents match
abbrev pub explained_access : List Doc → ℕ → AccessPath → Doc
explained_access ds n scanned = explanation plans.Scan None 0 (length ds) n
explained_access ds n (bounded i b) =
    explanation plans.Index (Some i.path) (entries_within ds i b) (length (places_within ds i b)) n
explained_access ds n (walked i dir) = explanation plans.Walk (Some i.path) (index_counts ds i).entries (length ds) n

-- the reply of `explain` for a request to these documents, with these indexes
abbrev pub explanation_for : List Doc → Request → Way → List IndexKey → Doc
explanation_for ds r way indexes =
    explained_access ds (length (matching (selection_for ds r.filter r.sorts r.skip r.limit)))
    (access_of ds r.filter r.sorts way indexes)

-- the reply of `explain` for a request in memory to these documents, with these indexes
abbrev pub explanation_of : List Doc → declared.Request → Choice → List IndexKey → Doc
explanation_of ds r choice = explanation_for ds (request_view r) (way_of choice)
