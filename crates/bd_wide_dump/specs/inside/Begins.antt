-- Bytes that begin with a value or with elements of a document of all types.
use Rattle.std.specs.Prelude.{◌≡◌, ◌<◌, ◌≤◌, ℕ, ℤ, List, ◌∷◌, ◌++◌, length, take, drop, Bool, true, false}
use Rattle.bd_value.specs.{Limits.longest_document, View.scalar_kind}
use Rattle.bd_value.specs.declared.node.Kind.{Kind}
use Rattle.bd_value.specs.declared.node.Kind.TheVariants as kinds
use Rattle.bd_value.specs.Tree.{Scalar, int64, Tree, leaf, doc, array, code_scope, Fields, field}
use Rattle.bd_bson_view.specs.declared.raw_parts.ElementType.{ElementType}
use Rattle.bd_bson_view.specs.declared.raw_parts.ElementType.TheVariants.{Kept, Double, Decimal128}
use Rattle.bd_bson_view.specs.Spelling.{NumberKind, number_type, number_size, framed, scoped, written_typed, IsName, IsText, IsScalar, IsValueBy, AreFieldsBy, valued}
use Rattle.bd_bson_view.specs.Sizes.{size_of, HasBytesOf}
use Rattle.bd_wide_dump.specs.declared.format.JsonFormat.{JsonFormat}
use Rattle.bd_wide_dump.specs.{Raw.byte_of, Raw.raw, Values.values_in, WideText.IsKindText, WideText.IsScalarText, WideText.IsTextOf}

-- The bytes begin with elements of a document, or of an array, and the zero after them; other bytes may follow.
pub record HasElements (bytes : List ℕ) : Type 0 where
  pub fields : Fields
  pub body : List ℕ
  pub after : List ℕ
  pub spell : AreFieldsBy (valued raw) fields body
  pub splits : bytes ≡ body ++ 0 ∷ after

-- whether it is one of the two kinds of whole numbers
abbrev pub is_whole : Kind → Bool
is_whole kinds.Int32 = true
is_whole kinds.Int64 = true
is_whole _ = false

-- The bytes are those of a number of this type.
pub record IsNumberOf (type : ElementType) (content : List ℕ) (tree : Tree) : Type 0 where
  pub kind : NumberKind
  pub z : ℤ
  pub is : tree ≡ leaf (int64 z)
  pub typed : type ≡ number_type kind
  pub sized : length content ≡ number_size kind
  pub worth : raw (number_type kind) content ≡ z

-- The bytes are those of a scalar of this type that is no number.
pub record IsScalarOf (type : ElementType) (content : List ℕ) (tree : Tree) : Type 0 where
  pub scalar : Scalar
  pub is : tree ≡ leaf scalar
  pub typed : type ≡ Kept (scalar_kind scalar)
  pub other : is_whole (scalar_kind scalar) ≡ false
  pub spells : IsScalar scalar content
  pub text_is : (format : JsonFormat) (text : List ℕ) → IsKindText format scalar text → IsScalarText format scalar text

-- The bytes are those of a document.
pub record IsDocumentOf (type : ElementType) (content : List ℕ) (tree : Tree) : Type 0 where
  pub fields : Fields
  pub body : List ℕ
  pub is : tree ≡ doc fields
  pub typed : type ≡ Kept kinds.Doc
  pub spell : AreFieldsBy (valued raw) fields body
  pub frame : content ≡ framed body

-- The bytes are those of an array.
pub record IsArrayOf (type : ElementType) (content : List ℕ) (tree : Tree) : Type 0 where
  pub fields : Fields
  pub body : List ℕ
  pub is : tree ≡ array (values_in fields)
  pub typed : type ≡ Kept kinds.Array
  pub spell : AreFieldsBy (valued raw) fields body
  pub frame : content ≡ framed body

-- The bytes are those of code with scope.
pub record IsCodeOf (type : ElementType) (content : List ℕ) (tree : Tree) : Type 0 where
  pub code : List ℕ
  pub fields : Fields
  pub body : List ℕ
  pub is : tree ≡ code_scope code fields
  pub typed : type ≡ Kept kinds.CodeScope
  pub text_fits : IsText code
  pub spell : AreFieldsBy (valued raw) fields body
  pub frame : content ≡ scoped code (framed body)

-- The bytes are those of a value of this type.
pub data IsTyped (type : ElementType) (content : List ℕ) (tree : Tree) : Type 0 where
  a_number : IsNumberOf type content tree → IsTyped type content tree
  a_scalar : IsScalarOf type content tree → IsTyped type content tree
  a_document : IsDocumentOf type content tree → IsTyped type content tree
  an_array : IsArrayOf type content tree → IsTyped type content tree
  a_code : IsCodeOf type content tree → IsTyped type content tree

-- The bytes begin with this value, which has this type; other bytes may follow.
pub record HasValue (type : ElementType) (bytes : List ℕ) (tree : Tree) : Type 0 where
  pub content : List ℕ
  pub after : List ℕ
  pub spells : IsTyped type content tree
  pub splits : bytes ≡ content ++ after
  pub short : length content ≤ longest_document

-- The element at an offset, where elements begin: its type, its name, the offset of its value and that of the next element.
pub record IsElement (bytes : List ℕ) (at : ℕ) (fields : Fields) (type : ElementType) (name : List ℕ) (start next : ℕ) : Type 0 where
  pub tree : Tree
  pub others : Fields
  pub is : fields ≡ field name tree others
  pub here : HasValue type (drop start bytes) tree
  pub rest : HasElements (drop next bytes)
  pub rest_is : rest.fields ≡ others
  pub inside : start ≤ length bytes
  pub before : at < start
  pub behind : start ≤ next
  -- the bytes that spell the value, with its type byte if it is a number
  pub value : List ℕ
  pub named : IsName name
  pub spelled : IsValueBy (valued raw) tree value
  pub whole : drop at bytes ≡ written_typed tree name value ++ drop next bytes
  pub headed : drop at bytes ≡ byte_of type ∷ (name ++ 0 ∷ drop start bytes)

-- how many bytes a value of this type takes at the start of bytes
abbrev pub wide_size : ElementType → List ℕ → ℕ
wide_size Double bytes = 8
wide_size Decimal128 bytes = 16
wide_size (Kept kind) bytes = size_of kind bytes

-- The bytes begin with all that a read of the size of a value of this type needs.
abbrev pub HasSize : ElementType → List ℕ → Type 0
HasSize (Kept kind) bytes = HasBytesOf kind bytes
HasSize _ bytes = Unit {0}

-- A text with this property follows the first `end` bytes of `old`, up to e.
pub record AppendsBy (Is : List ℕ → Type 0) (old : List ℕ) (end e : ℕ) (new : List ℕ) : Type 0 where
  pub text : List ℕ
  pub is : Is text
  pub written : take e new ≡ take end old ++ text
  pub inside : e ≤ length new

-- The text of the value follows the first `end` bytes of `old`, up to e.
abbrev pub AppendsText : JsonFormat → Tree → List ℕ → ℕ → ℕ → List ℕ → Type 0
AppendsText format tree old end e new = AppendsBy (λ text. IsTextOf format tree text) old end e new
