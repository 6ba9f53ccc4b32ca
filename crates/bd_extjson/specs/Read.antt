-- Which document a text is (RFC 8259, then Extended JSON v2, canonical form, and bare whole numbers).
use Rattle.std.specs.Prelude.{◌≡◌, ℕ, zero, suc, ◌-◌, ℤ, List, if◌then◌else◌, Option, Some, None, option_map}
use Rattle.std.specs.Prelude.{option_and_then}
use Rattle.std.specs.{Option.option_map_or, Str.is_utf8}
use Rattle.json.specs.{Find.as_str, Json.Json, Json.value, Json.if_last, Lex.tokens}
use Rattle.json.specs.Json as kit
use Rattle.bd_value.specs.{Limits.most_brackets, Limits.most_levels, Fits.has_zero}
use Rattle.bd_value.specs.Tree as trees
use Rattle.bd_value.specs.Tree.{Tree, leaf, doc, array, code_scope, Items, no_items, item, Fields, no_fields, field}
use Rattle.bd_value.specs.Tree.{Doc, pairs_of}
use Rattle.bd_extjson_wrapper.specs.{WholeNumber.fits_bits, WholeNumber.whole_64, Wrapper.wrapper_of, Wrapper.single}
use Rattle.bd_extjson_wrapper.specs.{declared.wrapper.Wrapper.Wrapper}
use Rattle.bd_extjson_wrapper.specs.declared.wrapper.Wrapper.TheVariants as kinds

-- a bare whole number: an int32 if it fits, else an int64
abbrev pub bare_number : Option ℤ → Option Tree
bare_number None = None
bare_number (Some z) = Some (leaf (if fits_bits 31 z then trees.int32 z else trees.int64 z))

-- the result, if one more level of documents and arrays is allowed here; else None
abbrev pub nested : {A : Type 0} → ℕ → Option A → Option A
nested zero r = None
nested (suc depth_left) r = r

-- an element put before the others of an array; None if one of them could not be read
abbrev pub add_item : Option Tree → Option Items → Option Items
add_item (Some t) (Some ts) = Some (item t ts)
add_item _ _ = None

-- a field put before the others of a document;
-- None if one of them could not be read, or the name contains a zero byte
abbrev pub add_field : List ℕ → Option Tree → Option Fields → Option Fields
add_field name (Some t) (Some fs) = if has_zero name then None else Some (field name t fs)
add_field _ _ _ = None

-- code with scope, if the code is a text and the scope a document
abbrev pub with_scope : Option (List ℕ) → Option Tree → Option Tree
with_scope (Some s) (Some (doc fs)) = Some (code_scope s fs)
with_scope _ _ = None

-- code with scope, if an object has exactly the names `$code` and `$scope`, in either order;
-- each is given as its wrapper, its JSON value and the value that this means
abbrev pub two : Wrapper → Json → Option Tree → Option Wrapper → Json → Option Tree → kit.Members → Option Tree
two kinds.Code j t (Some kinds.Scope) i u kit.no_members = with_scope (as_str j) u
two kinds.Scope j t (Some kinds.Code) i u kit.no_members = with_scope (as_str i) t
two _ j t _ i u _ = None

abbrev mutual
  -- The value that a JSON value means, with at most `depth_left` levels of documents and arrays;
  -- None if it has no reading, such as a number with a fraction.
  pub wrap : ℕ → Json → Option Tree
  wrap depth_left kit.null = Some (leaf trees.null)
  wrap depth_left (kit.boolean b) = Some (leaf (trees.boolean b))
  wrap depth_left (kit.number s) = bare_number (whole_64 s)
  wrap depth_left (kit.string s) = Some (leaf (trees.text s))
  wrap depth_left (kit.array js) = nested depth_left (option_map array (wrap_items (depth_left - 1) js))
  wrap depth_left (kit.object ms) = wrap_object depth_left ms

  -- the elements of a JSON array, each read; None if one has no reading
  pub wrap_items : ℕ → kit.Items → Option Items
  wrap_items depth_left kit.no_items = Some no_items
  wrap_items depth_left (kit.item j js) = add_item (wrap depth_left j) (wrap_items depth_left js)

  -- a JSON object: the value that it wraps if its first name is a wrapper name, else a document
  pub wrap_object : ℕ → kit.Members → Option Tree
  wrap_object depth_left kit.no_members = nested depth_left (Some (doc no_fields))
  wrap_object depth_left (kit.member n j ms) = option_map_or (λ w. wrapped depth_left w j (wrap (depth_left - 1) j) ms) (wrapper_of n)
      (nested depth_left (option_map doc (add_field n (wrap (depth_left - 1) j) (wrap_fields (depth_left - 1) ms))))

  -- the value of a wrapper, by its first member and the others: of one name, or `$code` with `$scope`
  pub wrapped : ℕ → Wrapper → Json → Option Tree → kit.Members → Option Tree
  wrapped depth_left w j t kit.no_members = option_map leaf (single w j)
  wrapped depth_left w j t (kit.member name i ms) = nested depth_left (two w j t (wrapper_of name) i (wrap (depth_left - 1) i) ms)

  -- the members of a JSON object as fields, in order, with names that repeat; None if one has no reading
  pub wrap_fields : ℕ → kit.Members → Option Fields
  wrap_fields depth_left kit.no_members = Some no_fields
  wrap_fields depth_left (kit.member name j ms) = add_field name (wrap depth_left j) (wrap_fields depth_left ms)

-- the JSON value of a whole text (RFC 8259, UTF-8), with at most 203 levels of brackets; None if it has none
abbrev pub json : List ℕ → Option Json
json text = if is_utf8 text then option_and_then (λ p. if_last p.0 p.1) (value most_brackets (tokens text)) else None

-- the fields of a value, if it is a document
abbrev pub document : Tree → Option Fields
document (doc fs) = Some fs
document _ = None

-- the document in a text: JSON (RFC 8259) read as Extended JSON v2, with at most 200 levels; None if it is no document
abbrev pub reading : List ℕ → Option Doc
reading text = option_map pairs_of (option_and_then document (option_and_then (wrap most_levels) (json text)))

-- The text is Extended JSON of this document; a text is at most one document.
abbrev pub ReadsAs : List ℕ → Doc → Type 0
ReadsAs text d = reading text ≡ Some d
