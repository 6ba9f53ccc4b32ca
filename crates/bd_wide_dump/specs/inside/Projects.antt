-- What is appended for the elements of a document or an array of which only some fields are requested.
use Rattle.std.specs.Prelude.{◌≡◌, ℕ, List, ◌++◌, map, Bool, true, false, Option, Some, None}
use Rattle.bd_value.specs.declared.node.Kind.TheVariants as kinds
use Rattle.bd_value.specs.Tree.{Tree, Fields, no_fields, field}
use Rattle.bd_bson_view.specs.declared.raw_parts.ElementType.{ElementType}
use Rattle.bd_bson_view.specs.declared.raw_parts.ElementType.TheVariants.{Kept}
use Rattle.bd_bson_view.specs.Spelling.{framed, AreFieldsBy, valued}
use Rattle.bd_path.specs.{Path.component_names, Reach.Names}
use Rattle.bd_wide_dump.specs.Raw.{raw}
use Rattle.bd_wide_dump.specs.declared.fields.Field.{Field}
use Rattle.bd_wide_dump.specs.Projected.{below, kept, add_field, projected_value}

-- the names of what is left of each path
abbrev pub paths_of : List Field → List Names
paths_of fields = map (λ f. component_names f.names.now) fields

-- whether a type is that of arrays, if it is that of arrays or of documents
abbrev pub array_type : ElementType → Option Bool
array_type (Kept kinds.Doc) = Some false
array_type (Kept kinds.Array) = Some true
array_type _ = None

-- what remains of an element of an array, or else of a field with that name
abbrev pub remaining : Bool → List Names → List ℕ → Tree → Option Tree
remaining true paths name t = projected_value paths t
remaining false paths name t = kept (below name paths) t (projected_value (below name paths) t)

-- what remains of the elements of an array under any names, or else of the fields of a document
abbrev pub all_remaining : Bool → List Names → Fields → Fields
all_remaining is_array paths no_fields = no_fields
all_remaining is_array paths (field n t fs) = add_field n (remaining is_array paths n t) (all_remaining is_array paths fs)

-- The document, or the array, of what remains of these was appended.
abbrev pub AddsFramed : Bool → List Names → Fields → List ℕ → List ℕ → Type 0
AddsFramed is_array paths fs old new =
    (body : List ℕ) × AreFieldsBy (valued raw) (all_remaining is_array paths fs) body × (new ≡ old ++ framed body)

-- What remains of an element with that name was appended: before any elements, it is the first of them.
abbrev pub AddsElement : List ℕ → Option Tree → List ℕ → List ℕ → Type 0
AddsElement name remains old new = (one : List ℕ) × (new ≡ old ++ one)
    × ((fs : Fields) (more : List ℕ) → AreFieldsBy (valued raw) fs more → AreFieldsBy (valued raw) (add_field name remains fs) (one ++ more))
