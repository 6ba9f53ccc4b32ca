-- The fields of commands, and which values a field may have.
use Rattle.std.specs.Prelude.{ℕ, pos, Bool, List, [], ◌∷◌, Option, Some, None, codes, if◌then◌else◌, is_some}
use Rattle.std.specs.{Prelude.option_map, Str.bytes_eq}
use Rattle.bd_value.specs.Tree.{Doc, Scalar, Tree, leaf, doc, pairs_of}
use Rattle.bd_cli_command.specs.declared.field.{CommandName.CommandName as Name, FieldKind.FieldKind as Kind}
use Rattle.bd_cli_command.specs.Command.{Hint, any_way, by_scan, by_index}

-- ---- the fields that a command may have, its first one included

-- the value of a name in a table, if any
abbrev pub entry_of : {A : Type 0} → List ℕ → List (List ℕ × A) → Option A
entry_of name [] = None
entry_of name (e ∷ es) = if bytes_eq name e.0 then Some e.1 else entry_of name es

-- the commands of `serve`, by the name that comes first
abbrev pub command_names : List (List ℕ × Name)
command_names =
    (codes "createIndex", Name.CreateIndex) ∷ (codes "dropIndex", Name.DropIndex) ∷ (codes "find", Name.Find)
    ∷ (codes "resume", Name.Resume) ∷ (codes "getMore", Name.GetMore) ∷ (codes "killCursor", Name.KillCursor)
    ∷ (codes "explain", Name.Explain) ∷ []

-- the fields that `find`, `resume` and `explain` share, each with the kind of its value
abbrev pub find_fields : List (List ℕ × Kind)
find_fields = (codes "sort", Kind.Document) ∷ (codes "skip", Kind.Count) ∷ (codes "limit", Kind.Count)
    ∷ (codes "use", Kind.Hint) ∷ []

-- the fields of a command, its first one included, each with the kind of its value
abbrev pub command_fields : Name → List (List ℕ × Kind)
command_fields Name.CreateIndex = (codes "createIndex", Kind.Text) ∷ (codes "sparse", Kind.Truth) ∷ []
command_fields Name.DropIndex = (codes "dropIndex", Kind.Text) ∷ []
command_fields Name.Find = (codes "find", Kind.Document) ∷ find_fields
command_fields Name.Resume = (codes "resume", Kind.Text) ∷ (codes "filter", Kind.Document) ∷ find_fields
command_fields Name.GetMore = (codes "getMore", Kind.Count) ∷ (codes "batch", Kind.Count) ∷ []
command_fields Name.KillCursor = (codes "killCursor", Kind.Count) ∷ []
command_fields Name.Explain = (codes "explain", Kind.Document) ∷ find_fields

-- the fields that a command must have besides its first one
abbrev pub required_fields : Name → List (List ℕ)
required_fields Name.GetMore = codes "batch" ∷ []
required_fields _ = []

-- ---- the values of fields

-- a string; a symbol is not accepted
abbrev pub text_field : Tree → Option (List ℕ)
text_field (leaf (Scalar.text s)) = Some s
text_field t = None

-- a boolean; a number is not accepted
abbrev pub truth_field : Tree → Option Bool
truth_field (leaf (Scalar.boolean b)) = Some b
truth_field t = None

-- the fields of a document; an array has none
abbrev pub document_field : Tree → Option Doc
document_field (doc fs) = Some (pairs_of fs)
document_field t = None

-- an int32 or int64 of 0 or more
abbrev pub count_field : Tree → Option ℕ
count_field (leaf (Scalar.int32 (pos n))) = Some n
count_field (leaf (Scalar.int64 (pos n))) = Some n
count_field t = None

-- the path in `{"index":path}`, a document of that one field
abbrev pub index_field : Doc → Option (List ℕ)
index_field (p ∷ []) = if bytes_eq p.0 (codes "index") then text_field p.1 else None
index_field d = None

-- the forms of `use`: `"auto"`, `"scan"` and `{"index":path}`
abbrev pub hint_field : Tree → Option Hint
hint_field (leaf (Scalar.text s)) = entry_of s ((codes "auto", any_way) ∷ (codes "scan", by_scan) ∷ [])
hint_field (doc fs) = option_map by_index (index_field (pairs_of fs))
hint_field t = None

-- whether a value is of the kind that a field must have
abbrev pub fits_field : Kind → Tree → Bool
fits_field Kind.Text t = is_some (text_field t)
fits_field Kind.Truth t = is_some (truth_field t)
fits_field Kind.Document t = is_some (document_field t)
fits_field Kind.Count t = is_some (count_field t)
fits_field Kind.Hint t = is_some (hint_field t)
