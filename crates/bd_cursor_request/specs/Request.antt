-- A request to a dump, and the text of it that the digests of tokens include.
use Rattle.std.specs.Prelude.{ℕ, ℤ, pos, negsuc, ◌==◌, nat_le, ◌&&◌, not, Bool, true, List, [], ◌∷◌, length, map}
use Rattle.std.specs.Prelude.{Option, Some, None, Result, Ok, Err, if◌then◌else◌, ◌++◌, codes, decimal}
use Rattle.std.specs.{List.list_any, Str.bytes_eq, Option.ok_or}
use Rattle.bd_value.specs.Tree as trees
use Rattle.bd_value.specs.Tree.{Tree, Doc, leaf, doc, fields_of}
use Rattle.bd_path.specs.{Sort.SortPath, Reach.Names, Path.path_of, declared.sort.Dir.Dir}
use Rattle.bd_path.specs.{declared.sort.Dir.TheVariants.Up, declared.sort.Dir.TheVariants.Down}
use Rattle.bd_path.specs.{declared.path.PathFault.PathFault, Sort.sort_paths}
use Rattle.bd_value.specs.Limits.{greatest_count}
use Rattle.bd_extjson_text.specs.Text.{text}
use Rattle.bd_query_filter.specs.{Filter.Filter, Filter.filter_tree, FilterOf.filter_of}
use Rattle.bd_cursor_request.specs.Refused.{Reason, bad_filter, plain, then_part, error_as}
use Rattle.bd_cursor_request.specs.{Token.token_of, declared.token.Token.Token}
use Rattle.bd_cursor_request.specs.declared.results.Refused.TheVariants as reasons
use Rattle.bd_cursor_request.specs.declared.request.Request as declared

-- the direction for a number in a sort: 1 is up, -1 is down, None for any other number
abbrev pub direction_numbered : ℤ → Option Dir
direction_numbered (pos n) = if n == 1 then Some Up else None
direction_numbered (negsuc n) = if n == 0 then Some Down else None

-- the direction of a value in a sort: an int32 or int64 of 1 or -1
abbrev pub direction_of : Tree → Option Dir
direction_of (leaf (trees.int32 z)) = direction_numbered z
direction_of (leaf (trees.int64 z)) = direction_numbered z
direction_of t = None

-- one path and direction before the others of a sort; None if the name is not a path, or the value not a direction
abbrev pub sort_with : Result Names PathFault → Option Dir → Option (List SortPath) → Option (List SortPath)
sort_with (Ok path) (Some dir) (Some ss) = Some (record { path = path; dir = dir } ∷ ss)
sort_with _ _ _ = None

-- the paths and directions in the pairs of a document; None if a name is not a path, or a value not a direction
abbrev pub sort_pairs : Doc → Option (List SortPath)
sort_pairs [] = Some []
sort_pairs (p ∷ ps) = sort_with (path_of p.0) (direction_of p.1) (sort_pairs ps)

-- whether no name is in the list twice
abbrev pub are_distinct : List (List ℕ) → Bool
are_distinct [] = true
are_distinct (name ∷ names) = not (list_any (bytes_eq name) names) && are_distinct names

-- the names of a document's fields, in order
abbrev pub pair_names : Doc → List (List ℕ)
pair_names d = map (λ p. p.0) d

-- the sort that a document describes: at most four different paths, each with 1 or -1;
-- no path for `{}`; None if it is not a sort
abbrev pub sort_of : Doc → Option (List SortPath)
sort_of d = if nat_le (length d) 4 && are_distinct (pair_names d) then sort_pairs d else None

-- a direction as a number: 1 up, -1 down
abbrev pub direction_number : Option Dir → ℤ
direction_number (Some Up) = pos 1
direction_number (Some Down) = negsuc 0
direction_number None = pos 0

-- the sort with each direction as an int32, as in the text of a request
abbrev pub sort_written : Doc → Doc
sort_written d = map (λ p. (p.0, leaf (trees.int32 (direction_number (direction_of p.1))))) d

-- the text of a request, which the digest of its tokens includes:
-- filter and sort in canonical Extended JSON, skip and limit in decimal
abbrev pub request_text : Doc → Doc → ℕ → ℕ → List ℕ
request_text filter sort skip limit =
    codes "{\"filter\":" ++ (text (doc (fields_of filter))
    ++ (codes ",\"sort\":" ++ (text (doc (fields_of (sort_written sort)))
    ++ (codes ",\"skip\":" ++ (decimal skip ++ (codes ",\"limit\":" ++ (decimal limit ++ codes "}")))))))

-- a request: what matches, the sort, how many are skipped, the limit (0:
-- none), and the text that the digest of its tokens includes
pub record Request : Type 0 where
  pub filter : Filter
  pub sorts : List SortPath
  pub skip : ℕ
  pub limit : ℕ
  pub text : List ℕ

-- the request with this filter and sort, and its text
abbrev pub request_with : Doc → Doc → ℕ → ℕ → Filter → List SortPath → Request
request_with filter sort skip limit f ss =
    record { filter = f; sorts = ss; skip = skip; limit = limit; text = request_text filter sort skip limit }

-- The request that two documents and two counts describe, or why they are refused:
-- the filter is checked first, then the sort, then the counts.
abbrev pub request_of : Doc → Doc → ℕ → ℕ → Result Request Reason
request_of filter sort skip limit =
    then_part (error_as bad_filter (filter_of filter)) (λ f.
    then_part (ok_or (sort_of sort) (plain reasons.BadSort)) (λ ss.
    if nat_le skip greatest_count && nat_le limit greatest_count
    then Ok (request_with filter sort skip limit f ss) else Err (plain reasons.Range)))

-- whether the text that names an index, if any, is a path; its fault if not
abbrev pub named_index : Option (List ℕ) → Result (Unit {0}) PathFault
named_index None = Ok tt
named_index (Some text) = then_part (path_of text) (λ _. Ok tt)

-- the token in a text, or the refusal `not a token`
abbrev pub token_part : List ℕ → Result Token Reason
token_part text = ok_or (token_of text) (plain reasons.BadToken)

-- the request that a `Request` in memory represents
abbrev pub request_view : declared.Request → Request
request_view r = record {
  filter = filter_tree r.filter;
  sorts = sort_paths r.sort.items;
  skip = r.skip;
  limit = r.limit;
  text = r.text.items;
}
