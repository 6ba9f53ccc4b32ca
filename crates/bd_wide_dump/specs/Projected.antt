-- What remains of a document if only some fields are requested: MongoDB manual, `find`, the inclusion of fields in a projection.
use Rattle.std.specs.Prelude.{ℕ, List, [], ◌∷◌, Bool, true, false, if◌then◌else◌, Option, Some, None}
use Rattle.std.specs.{List.list_any, Str.bytes_eq}
use Rattle.bd_value.specs.Tree.{Tree, leaf, doc, array, code_scope, Items, no_items, item, Fields, no_fields, field, Doc, fields_of}
use Rattle.bd_bson_view.specs.Spelling.{IsDocumentBy, valued}
use Rattle.bd_path.specs.Reach.{Names}
use Rattle.bd_wide_dump.specs.declared.format.JsonFormat.{JsonFormat}
use Rattle.bd_wide_dump.specs.{Raw.raw, WideText.IsTextOf}

-- the rest of a path that begins with the name; None if it does not
abbrev pub rest_below : List ℕ → Names → Option Names
rest_below name [] = None
rest_below name (first ∷ rest) = if bytes_eq first name then Some rest else None

-- a path, if it is one, before others
abbrev pub before : Option Names → List Names → List Names
before None paths = paths
before (Some path) paths = path ∷ paths

-- what is requested in a value with this name: the rest of each path that begins with the name
abbrev pub below : List ℕ → List Names → List Names
below name [] = []
below name (path ∷ paths) = before (rest_below name path) (below name paths)

-- whether a path has no more names
abbrev pub is_end : Names → Bool
is_end [] = true
is_end (name ∷ names) = false

-- whether a path ends here, so that all of the value is requested
abbrev pub ends : List Names → Bool
ends paths = list_any is_end paths

-- what remains of a value if this is requested in it: nothing if no path leads to it, the whole value if one ends here, else a part
abbrev pub kept : List Names → Tree → Option Tree → Option Tree
kept [] whole part = None
kept (path ∷ paths) whole part = if ends (path ∷ paths) then Some whole else part

-- a field with what remains of its value, before others; these alone if nothing remains
abbrev pub add_field : List ℕ → Option Tree → Fields → Fields
add_field name None others = others
add_field name (Some t) others = field name t others

-- what remains of an element, before others; these alone if nothing remains
abbrev pub add_item : Option Tree → Items → Items
add_item None others = others
add_item (Some t) others = item t others

abbrev mutual
  -- the fields of a document on these paths, in the document's order
  pub projected : List Names → Fields → Fields
  projected paths no_fields = no_fields
  projected paths (field n t fs) =
      add_field n (kept (below n paths) t (projected_value (below n paths) t)) (projected paths fs)

  -- what remains of a value in which these paths continue: of a document its fields on them, of an array the same of each document
  -- and each array in it; nothing of any other value
  pub projected_value : List Names → Tree → Option Tree
  projected_value paths (leaf s) = None
  projected_value paths (doc fs) = Some (doc (projected paths fs))
  projected_value paths (array ts) = Some (array (projected_items paths ts))
  projected_value paths (code_scope s fs) = None

  -- what remains of the elements of an array, in order
  pub projected_items : List Names → Items → Items
  projected_items paths no_items = no_items
  projected_items paths (item t ts) = add_item (projected_value paths t) (projected_items paths ts)

-- The bytes are a document of all types, and the text is that of its fields on these paths.
abbrev pub IsProjectedText : JsonFormat → List Names → List ℕ → List ℕ → Type 0
IsProjectedText format paths bytes text =
    (d : Doc) × IsDocumentBy (valued raw) d bytes × IsTextOf format (doc (projected paths (fields_of d))) text
