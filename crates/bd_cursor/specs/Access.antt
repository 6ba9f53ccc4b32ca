-- The access path of a request: how its documents are reached, by which index or without one;
-- and that an access path in memory leads to all matches.
use Rattle.std.specs.Prelude.{ℕ, Bool, false, ◌&&◌, not, List, [], ◌∷◌, Option, Some, None, if◌then◌else◌}
use Rattle.std.specs.Prelude.{◌≡◌, option_map, unwrap_or}
use Rattle.std.specs.{List.find, Option.option_map_or, Option.option_or, Str.bytes_eq, Cmp.Lexicographic.pointwise}
use Rattle.bd_value.specs.Tree.{Doc, leaf}
use Rattle.bd_cursor_model.specs.Session.{IndexKey, is_on}
use Rattle.bd_path.specs.{Sort.SortPath, Reach.Names, Path.components_of, declared.sort.Dir.Dir, PathNames.path_text}
use Rattle.bd_path.specs.{Sort.sort_paths}
use Rattle.bd_query_filter.specs.{Filter.Filter, Filter.filter_tree}
use Rattle.bd_index_bounds.specs.{Bounds.KeyBounds, Bounds.bounds, BoundsView.bounds_view}
use Rattle.bd_index.specs.{Entries.is_multikey, declared.index.Index.Index}
use Rattle.bd_index.specs.IndexView.{IsIndexOf, index_is_multikey, index_is_sparse, index_names, index_path}
use Rattle.bd_cursor.specs.{declared.access.Choice.Choice, declared.access.Access.Access}
use Rattle.bd_bson_dump.specs.declared.collection.Dump.{Dump}
use Rattle.bd_cursor_request.specs.declared.request.Request.{Request}
use Rattle.bd_value.specs.Tree as trees
use Rattle.bd_cursor.specs.declared.access.Choice.TheVariants as choices
use Rattle.bd_cursor.specs.declared.access.Access.TheVariants as ways

-- which index is to be used: any that serves, none, or the one on a path
pub data Way : Type 0 where
  by_any : Way
  by_none : Way
  by_one : List ℕ → Way

-- which index a `Choice` requests: any, none, or the one on its path
abbrev pub way_of : Choice → Way
way_of choices.Scan = by_none
way_of choices.Auto = by_any
way_of (choices.Index path) = by_one (path_text path)

-- how documents are reached: all one after the other, or those with an entry inside the bounds of an index,
-- or all in the order of an index
pub data AccessPath : Type 0 where
  scanned : AccessPath
  bounded : IndexKey → KeyBounds → AccessPath
  walked : IndexKey → Dir → AccessPath

-- the path of an index in memory, and whether the index is sparse
abbrev pub index_key : Index → IndexKey
index_key i = record { path = path_text (index_path i); is_sparse = index_is_sparse i }

-- the names in the path of an index
abbrev pub index_key_names : IndexKey → Names
index_key_names i = components_of i.path

-- the bounds that a filter gives to an index of these documents
abbrev pub index_key_bounds : List Doc → Filter → IndexKey → KeyBounds
index_key_bounds ds f i = bounds f (index_key_names i) (is_multikey (index_key_names i) ds)

-- the bounds by which an index serves a filter;
-- a sparse index, which has no entry for a missing field, serves only if null is outside
abbrev pub serving_bounds : IndexKey → KeyBounds → KeyBounds
serving_bounds i None = None
serving_bounds i (Some keys) = if i.is_sparse && keys (leaf trees.null) then None else Some keys

-- the direction in which an index has the order of a sort:
-- if the sort is by this one path, and the index is not sparse
abbrev pub walk_dir : IndexKey → List SortPath → Option Dir
walk_dir i [] = None
walk_dir i (s ∷ []) = if not i.is_sparse && pointwise bytes_eq s.path (index_key_names i) then Some s.dir else None
walk_dir i (s ∷ t ∷ ss) = None

-- by the bounds of an index, if it serves by them
abbrev pub by_bounds : List Doc → Filter → IndexKey → Option AccessPath
by_bounds ds f i = option_map (λ keys. bounded i (Some keys)) (serving_bounds i (index_key_bounds ds f i))

-- in the order of an index, if it has the order of the sort
abbrev pub by_order : List SortPath → IndexKey → Option AccessPath
by_order ss i = option_map (walked i) (walk_dir i ss)

-- what a function gives of the first element of which it gives anything
abbrev pub find_map : {A B : Type 0} → (A → Option B) → List A → Option B
find_map f [] = None
find_map f (x ∷ xs) = option_or (f x) (find_map f xs)

-- the access path by a named index: by its bounds, otherwise in its order, otherwise by all of its entries;
-- by a scan if it is sparse and its bounds do not serve
abbrev pub named_access : List Doc → Filter → List SortPath → IndexKey → AccessPath
named_access ds f ss i =
    unwrap_or (option_or (by_bounds ds f i) (by_order ss i)) (if i.is_sparse then scanned else bounded i None)

-- the access path for a choice: by the first index that serves by its bounds, otherwise by the first that has the order
-- of the sort, or by the one on a path; otherwise by a scan. Indexes are tried in the order of their creation.
abbrev pub access_of : List Doc → Filter → List SortPath → Way → List IndexKey → AccessPath
access_of ds f ss by_none is = scanned
access_of ds f ss by_any is = unwrap_or (option_or (find_map (by_bounds ds f) is) (find_map (by_order ss) is)) scanned
access_of ds f ss (by_one path) is = option_map_or (named_access ds f ss) (find (is_on path) is) scanned

-- ---- an access path in memory

-- the access path that an `Access` in memory represents
abbrev pub access_path : Access → AccessPath
access_path ways.Scan = scanned
access_path (ways.Bounded index bounds) = bounded (index_key index.now) (bounds_view bounds)
access_path (ways.Walk index dir) = walked (index_key index.now) dir

-- The bounds are those that the filter gives to the index, with null outside if it is sparse;
-- or there are none, and it is not sparse.
abbrev pub ServesFilter : Filter → Names → Bool → Bool → KeyBounds → Type 0
ServesFilter f path multikey sparse None = sparse ≡ false
ServesFilter f path multikey sparse (Some keys) =
    (bounds f path multikey ≡ Some keys) × ((sparse && keys (leaf trees.null)) ≡ false)

-- The index is of this dump, and each document that matches the request has an entry inside the bounds.
pub record HasMatchesWithin (dump : Dump) (r : Request) (index : Index) (keys : KeyBounds) : Type 0 where
  pub of_dump : IsIndexOf dump index
  pub serves : ServesFilter (filter_tree r.filter) (index_names index) (index_is_multikey index)
      (index_is_sparse index) keys

-- The index is of this dump, is not sparse, and has the order of the request's sort.
pub record HasSortOrder (dump : Dump) (r : Request) (index : Index) (dir : Dir) : Type 0 where
  pub of_dump : IsIndexOf dump index
  pub whole : index_is_sparse index ≡ false
  pub order : sort_paths r.sort.items ≡ record { path = index_names index; dir = dir } ∷ []

-- The access path in memory leads to all documents that match the request.
abbrev pub IsAccessOf : Dump → Request → Access → Type 0
IsAccessOf dump r ways.Scan = Unit {0}
IsAccessOf dump r (ways.Bounded index keys) = HasMatchesWithin dump r index.now (bounds_view keys)
IsAccessOf dump r (ways.Walk index dir) = HasSortOrder dump r index.now dir
