-- Rows of CSV of requested fields: RFC 4180 with a line feed at the end of each, as the kit's crate `csv` defines them.
use Rattle.std.specs.Prelude.{◌≡◌, ℕ, zero, suc, List, [], ◌∷◌, Option, Some, None, map, option_and_then, if◌then◌else◌}
use Rattle.std.specs.{Str.bytes_eq}
use Rattle.csv.specs.Writing.{default_writer, row_text}
use Rattle.bd_value.specs.Tree.{Tree, leaf, doc, array, code_scope, Items, no_items, item, Fields, no_fields, field, Doc, fields_of}
use Rattle.bd_bson_view.specs.Spelling.{IsDocumentBy, valued}
use Rattle.bd_path.specs.declared.path.Path.{Path}
use Rattle.bd_path.specs.{PathNames.path_text, Reach.Names, Reach.index_of}
use Rattle.bd_wide_dump.specs.{Plain.IsPlainText, Raw.raw}

-- the first field of that name
abbrev pub field_at : List ℕ → Fields → Option Tree
field_at name no_fields = None
field_at name (field n t fs) = if bytes_eq n name then Some t else field_at name fs

-- the element at an index
abbrev pub item_at : Items → ℕ → Option Tree
item_at no_items i = None
item_at (item t ts) zero = Some t
item_at (item t ts) (suc i) = item_at ts i

-- where a name leads from a value: from a document to its first field of that name, from an array to the element at that index
abbrev pub step_to : Tree → List ℕ → Option Tree
step_to (leaf s) name = None
step_to (doc fs) name = field_at name fs
step_to (array ts) name = option_and_then (item_at ts) (index_of name)
step_to (code_scope s fs) name = None

-- where a path leads from where it begins, if there is such a value
abbrev pub follow : Option Tree → Names → Option Tree
follow start [] = start
follow start (name ∷ path) = follow (option_and_then (λ t. step_to t name) start) path

-- The text of a field: the plain text of its value, and nothing if it is missing.
abbrev pub IsCell : Option Tree → List ℕ → Type 0
IsCell None text = text ≡ []
IsCell (Some t) text = IsPlainText t text

-- These are the texts of the fields that these paths lead to from a value.
abbrev pub AreCells : Tree → List Names → List (List ℕ) → Type 0
AreCells t [] cells = cells ≡ []
AreCells t (path ∷ paths) cells =
    (cell : List ℕ) × (rest : List (List ℕ)) × IsCell (follow (Some t) path) cell × AreCells t paths rest × (cells ≡ cell ∷ rest)

-- the header row: the fields as they were given
abbrev pub header : List Path → List ℕ
header paths = row_text default_writer (map path_text paths)

-- The bytes are a document of all types, and the row is that of its fields on these paths.
abbrev pub IsRowOf : List Names → List ℕ → List ℕ → Type 0
IsRowOf paths bytes row = (d : Doc) × IsDocumentBy (valued raw) d bytes × (cells : List (List ℕ)) × AreCells (doc (fields_of d)) paths cells
    × (row ≡ row_text default_writer cells)
