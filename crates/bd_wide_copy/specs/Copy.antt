-- Documents with a code in place of each number.
use Rattle.std.specs.Prelude.{◌≡◌, ◌≤◌, ℕ, ℤ, List, ◌∷◌, ◌++◌, drop, length, map, FitsSigned}
use Rattle.std.specs.Int.{w32, w64, cast_unsigned}
use Rattle.bd_value.specs.declared.node.Kind.TheVariants as kinds
use Rattle.bd_bson_view.specs.declared.raw_parts.ElementType.TheVariants.{Kept}
use Rattle.bd_value.specs.View.{scalar_kind}
use Rattle.bd_value.specs.Tree.{Scalar, int32, int64, Tree, leaf, doc, array, code_scope, Items, no_items, item}
use Rattle.bd_value.specs.Tree.{Fields, no_fields, field, Doc}
use Rattle.bd_bson_view.specs.declared.raw_parts.ElementType.{ElementType}
use Rattle.bd_bson_view.specs.Spelling.{type_byte, number, long, scalar_bytes, IsDocument, IsDocumentBy, NumberKind, number_type, number_size}
use Rattle.bd_wide.specs.Rewritten.{Writes}
use Rattle.bd_wide_copy.specs.Classes.{classed, in_class}
use Rattle.bd_wide_copy.specs.declared.longs.Longs.{Longs}

-- a value with another scalar in place of each scalar in it
abbrev mutual
  -- a value with another scalar in place of each, at any level
  pub coded : (Scalar → Scalar) → Tree → Tree
  coded f (leaf s) = leaf (f s)
  coded f (doc fs) = doc (coded_fields f fs)
  coded f (array ts) = array (coded_items f ts)
  coded f (code_scope s fs) = code_scope s (coded_fields f fs)

  -- the elements of an array with other scalars
  pub coded_items : (Scalar → Scalar) → Items → Items
  coded_items f no_items = no_items
  coded_items f (item t ts) = item (coded f t) (coded_items f ts)

  -- the fields of a document with other scalars; names stay
  pub coded_fields : (Scalar → Scalar) → Fields → Fields
  coded_fields f no_fields = no_fields
  coded_fields f (field n t fs) = field n (coded f t) (coded_fields f fs)

-- a document with another scalar in place of each scalar
abbrev pub coded_document : (Scalar → Scalar) → Doc → Doc
coded_document f d = map (λ p. (p.0, coded f p.1)) d

-- an int32 or an int64 as its code, a scalar; any other scalar stays
abbrev pub number_as : (ℤ → Scalar) → Scalar → Scalar
number_as c (int32 z) = c z
number_as c (int64 z) = c z
number_as c s = s

-- an int32 or an int64 as its code, of the same type; any other scalar stays
abbrev pub number_coded : (ℤ → ℤ) → Scalar → Scalar
number_coded code (int32 z) = int32 (code z)
number_coded code (int64 z) = int64 (code z)
number_coded code s = s

-- What is written for a number: its name, with the type byte and the bytes of the code of its worth.
abbrev pub IsCodeOf : (ElementType → List ℕ → ℤ) → (ℤ → Scalar) → Writes
IsCodeOf worth c type head value new =
    new ≡ type_byte (scalar_kind (c (worth type value))) ∷ (drop 1 head ++ scalar_bytes (c (worth type value)))

-- What is written for a number: its name, with the type byte and the bytes of its code, an int64 or an int32 by its type.
abbrev pub IsCodeIn : Longs → (ElementType → List ℕ → ℤ) → (ℤ → ℤ) → Writes
IsCodeIn longs worth code type head value new = IsCodeOf worth (λ z. in_class longs type (code z)) type head value new

-- Of whatever document the bytes are by value and type: this is the document with codes, and no longer.
abbrev pub IsCopy : Longs → (ElementType → List ℕ → ℤ) → (ℤ → ℤ) → List ℕ → List ℕ → Type 0
IsCopy longs worth code bytes new = (d : Doc) → IsDocumentBy (classed longs worth) d bytes
    → IsDocument (coded_document (number_coded code) d) new × (length new ≤ length bytes)

-- A code has at most as many bytes as the number in its place.
abbrev pub IsNoLonger : (ElementType → List ℕ → ℤ) → (ℤ → Scalar) → Type 0
IsNoLonger worth c = (kind : NumberKind) (value : List ℕ) → length value ≡ number_size kind
    → length (scalar_bytes (c (worth (number_type kind) value))) ≤ length value

-- a whole number as an int64: its worth
abbrev pub int64_of : (ℤ → ℤ) → ℤ → Scalar
int64_of f z = int64 (f z)

-- An int32 and an int64 z are worth f z.
abbrev pub WholesAreWorth : (ElementType → List ℕ → ℤ) → (ℤ → ℤ) → Type 0
WholesAreWorth worth f = ((z : ℤ) → FitsSigned w32 z → worth (Kept kinds.Int32) (number (cast_unsigned w32 z)) ≡ f z)
    × ((z : ℤ) → FitsSigned w64 z → worth (Kept kinds.Int64) (long (cast_unsigned w64 z)) ≡ f z)
