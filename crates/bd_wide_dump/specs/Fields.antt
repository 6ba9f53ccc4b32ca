-- The requested fields in memory, and those that a text requests.
use Rattle.std.specs.Prelude.{ℕ, List, [], ◌∷◌, ◌++◌, ◌==◌, Bool, true, false, ◌&&◌, ◌||◌, if◌then◌else◌, Option, Some, None, Result, Ok}
use Rattle.std.specs.Prelude.{map, codes, option_and_then}
use Rattle.std.specs.{List.list_any, List.slice_split, Str.bytes_eq}
use Rattle.bd_path.specs.{Path.path_of, PathNames.names_of, Reach.Names}
use Rattle.bd_path.specs.declared.path.{Path.Path, PathFault.PathFault}

-- the names of each of these paths
abbrev pub requested : List Path → List Names
requested paths = map names_of paths

-- ---- the fields that a text requests

-- a path before others; None if it or one of them is none
abbrev pub before_paths : Result Names PathFault → Option (List Names) → Option (List Names)
before_paths (Ok names) (Some paths) = Some (names ∷ paths)
before_paths _ _ = None

-- the paths in these texts; None if one of the texts is no path
abbrev pub paths_in : List (List ℕ) → Option (List Names)
paths_in [] = Some []
paths_in (text ∷ texts) = before_paths (path_of text) (paths_in texts)

-- whether a path leads to another, or is it
abbrev pub leads : Names → Names → Bool
leads [] names = true
leads (n ∷ ns) [] = false
leads (n ∷ ns) (m ∷ ms) = bytes_eq n m && leads ns ms

-- whether one of two paths leads to the other
abbrev pub meet : Names → Names → Bool
meet one other = leads one other || leads other one

-- whether one of these paths leads to another of them
abbrev pub clash : List Names → Bool
clash [] = false
clash (path ∷ paths) = list_any (meet path) paths || clash paths

-- the path of `_id`
abbrev pub id_path : Names
id_path = codes "_id" ∷ []

-- these paths and `_id`, unless it is among them or left out; None if one leads to another, or if `_id` is among them and left out
abbrev pub with_id : Bool → List Names → Option (List Names)
with_id no_id paths = let named = list_any (leads id_path) paths in
    if clash paths || (no_id && named) then None
    else Some (if no_id || named then paths else paths ++ id_path ∷ [])

-- the fields that a text requests by paths with commas between them, and `_id`, unless it is left out; None if the text is refused
abbrev pub fields_named : Bool → List ℕ → Option (List Names)
fields_named no_id text = option_and_then (with_id no_id) (paths_in (slice_split (λ c. c == 44) text))

-- ---- the columns that a text requests

-- these paths; None if one leads to another
abbrev pub apart : List Names → Option (List Names)
apart paths = if clash paths then None else Some paths

-- the columns that a text requests by paths with commas between them; None if the text is refused
abbrev pub columns_named : List ℕ → Option (List Names)
columns_named text = option_and_then apart (paths_in (slice_split (λ c. c == 44) text))
