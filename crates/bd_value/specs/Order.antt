-- The comparison order of values (MongoDB manual, "Comparison/Sort Order"): by class, then within the class.
use Rattle.std.specs.Prelude.{ℕ, ℤ, pos, Bool, ◌+◌, ◌==◌, List, [], length, if◌then◌else◌}
use Rattle.std.specs.{Cmp.Lexicographic.slice_cmp, declared.cmp.Ordering.Ordering}
use Rattle.std.specs.declared.cmp.Ordering.TheVariants.{Less, Equal, Greater}
use Rattle.std.specs.Ordering.{nat_cmp, int_cmp, ordering_then, is_eq}
use Rattle.bd_value.specs.Tree.{Scalar, int32, int64, text, symbol, binary, object_id, boolean}
use Rattle.bd_value.specs.Tree.{date, timestamp, regex, db_pointer, code, Tree, leaf, doc, array, code_scope, Items}
use Rattle.bd_value.specs.Tree.{no_items, item, Fields, no_fields, field}
use Rattle.bd_value.specs.{View.kind_of, declared.node.Kind.Kind, declared.node.Class.Class}
use Rattle.bd_value.specs.declared.node.Kind.TheVariants as kinds
use Rattle.bd_value.specs.declared.node.Class.TheVariants as classes

-- the class of a kind in the comparison order: one of seventeen
abbrev pub class_of_kind : Kind → Class
class_of_kind kinds.MinKey = classes.MinKey
class_of_kind kinds.Undefined = classes.Undefined
class_of_kind kinds.Null = classes.Null
class_of_kind kinds.Int32 = classes.Number
class_of_kind kinds.Int64 = classes.Number
class_of_kind kinds.Text = classes.Text
class_of_kind kinds.Symbol = classes.Text
class_of_kind kinds.Doc = classes.Doc
class_of_kind kinds.Array = classes.Array
class_of_kind kinds.Binary = classes.Binary
class_of_kind kinds.ObjectId = classes.ObjectId
class_of_kind kinds.Bool = classes.Bool
class_of_kind kinds.Date = classes.Date
class_of_kind kinds.Timestamp = classes.Timestamp
class_of_kind kinds.Regex = classes.Regex
class_of_kind kinds.DbPointer = classes.DbPointer
class_of_kind kinds.Code = classes.Code
class_of_kind kinds.CodeScope = classes.CodeScope
class_of_kind kinds.MaxKey = classes.MaxKey

-- the class by which a value is compared first; int32 and int64 share one, and so do strings and symbols
abbrev pub class_of : Tree → Class
class_of t = class_of_kind (kind_of t)

-- the position of a class in the comparison order (MongoDB manual, "Comparison/Sort Order"); 0 is the least
abbrev pub class_rank : Class → ℕ
class_rank classes.MinKey = 0
class_rank classes.Undefined = 1
class_rank classes.Null = 2
class_rank classes.Number = 3
class_rank classes.Text = 4
class_rank classes.Doc = 5
class_rank classes.Array = 6
class_rank classes.Binary = 7
class_rank classes.ObjectId = 8
class_rank classes.Bool = 9
class_rank classes.Date = 10
class_rank classes.Timestamp = 11
class_rank classes.Regex = 12
class_rank classes.DbPointer = 13
class_rank classes.Code = 14
class_rank classes.CodeScope = 15
class_rank classes.MaxKey = 16

-- What a scalar is compared by within its class: a number, a size, a lesser number, bytes, and more bytes,
-- in turn. What its class does not use is 0 or empty.
pub record Rank : Type 0 where
  pub number : ℤ
  pub size : ℕ
  pub lesser : ℕ
  pub bytes : List ℕ
  pub more : List ℕ

-- the rank of a value that is compared by one number alone
abbrev pub by_number : ℤ → Rank
by_number n = record { number = n; size = 0; lesser = 0; bytes = []; more = [] }

-- the rank of a value that is compared by bytes, and if these are equal by more bytes
abbrev pub by_bytes : List ℕ → List ℕ → Rank
by_bytes first second = record { number = pos 0; size = 0; lesser = 0; bytes = first; more = second }

-- the size by which binary is compared, as BSON writes it:
-- in subtype 02 four bytes more, which count the rest
abbrev pub binary_size : ℕ → List ℕ → ℕ
binary_size subtype payload = if subtype == 2 then length payload + 4 else length payload

-- what a scalar is compared by in its class: a timestamp by seconds, then increment; binary by size,
-- then subtype, then data; a boolean as 0 or 1. In a class of one value, such as null, all ranks are equal.
abbrev pub scalar_rank : Scalar → Rank
scalar_rank (int32 n) = by_number n
scalar_rank (int64 n) = by_number n
scalar_rank (text s) = by_bytes s []
scalar_rank (symbol s) = by_bytes s []
scalar_rank (binary subtype payload) =
    record { number = pos 0; size = binary_size subtype payload; lesser = subtype; bytes = payload; more = [] }
scalar_rank (object_id id) = by_bytes id []
scalar_rank (boolean b) = by_number (if b then pos 1 else pos 0)
scalar_rank (date milliseconds) = by_number milliseconds
scalar_rank (timestamp seconds increment) =
    record { number = pos seconds; size = 0; lesser = increment; bytes = []; more = [] }
scalar_rank (regex pattern options) = by_bytes pattern options
scalar_rank (db_pointer space id) = by_bytes space id
scalar_rank (code s) = by_bytes s []
scalar_rank _ = by_number (pos 0)

-- the order of texts, by their UTF-8 bytes, and of bytes: a proper prefix is less
abbrev pub bytes_cmp : List ℕ → List ℕ → Ordering
bytes_cmp a b = slice_cmp nat_cmp a b

-- the order of two scalars of one class: the first part of their ranks that differs decides
abbrev pub rank_cmp : Rank → Rank → Ordering
rank_cmp a b =
    ordering_then (int_cmp a.number b.number)
    (ordering_then (ordering_then (nat_cmp a.size b.size) (nat_cmp a.lesser b.lesser))
    (ordering_then (bytes_cmp a.bytes b.bytes) (bytes_cmp a.more b.more)))

-- the order of the classes of two values: Equal for an int32 and an int64, or for a string and a symbol
abbrev pub class_cmp : Tree → Tree → Ordering
class_cmp a b = nat_cmp (class_rank (class_of a)) (class_rank (class_of b))

-- the rank of a scalar, or of code with scope by its code; a document and an array have the rank of 0
abbrev pub rank_in : Tree → Rank
rank_in (leaf s) = scalar_rank s
rank_in (code_scope s fs) = by_bytes s []
rank_in _ = by_number (pos 0)

-- the fields of a document, or of the scope of code with scope; any other value has none
abbrev pub fields_in : Tree → Fields
fields_in (doc fs) = fs
fields_in (code_scope s fs) = fs
fields_in _ = no_fields

-- the elements of an array; any other value has none
abbrev pub items_in : Tree → Items
items_in (array ts) = ts
items_in _ = no_items

abbrev mutual
  -- the order of two values of one class; code with scope by its code, then by its scope
  pub same_class_cmp : Tree → Tree → Ordering
  same_class_cmp (leaf s) b = rank_cmp (scalar_rank s) (rank_in b)
  same_class_cmp (doc fs) b = fields_cmp fs (fields_in b)
  same_class_cmp (array ts) b = items_cmp ts (items_in b)
  same_class_cmp (code_scope s fs) b =
      ordering_then (rank_cmp (by_bytes s []) (rank_in b)) (fields_cmp fs (fields_in b))

  -- the order of two documents, pair by pair: by the class of the value, then the name, then the value;
  -- the one without a further pair is less
  pub fields_cmp : Fields → Fields → Ordering
  fields_cmp no_fields no_fields = Equal
  fields_cmp no_fields (field n b gs) = Less
  fields_cmp (field m a fs) no_fields = Greater
  fields_cmp (field m a fs) (field n b gs) =
      ordering_then (ordering_then (class_cmp a b) (ordering_then (bytes_cmp m n) (same_class_cmp a b)))
      (fields_cmp fs gs)

  -- the order of two arrays, element by element; a proper prefix is less
  pub items_cmp : Items → Items → Ordering
  items_cmp no_items no_items = Equal
  items_cmp no_items (item b us) = Less
  items_cmp (item a ts) no_items = Greater
  items_cmp (item a ts) (item b us) =
      ordering_then (ordering_then (class_cmp a b) (same_class_cmp a b)) (items_cmp ts us)

-- the order of two pairs of documents: by the class of the value, then the name, then the value
abbrev pub pair_cmp : List ℕ → Tree → List ℕ → Tree → Ordering
pair_cmp m a n b = ordering_then (class_cmp a b) (ordering_then (bytes_cmp m n) (same_class_cmp a b))

-- The comparison order of any two values: by class, then within the class. Equal does not mean identical:
-- an int32 5 and an int64 5 compare as equal.
abbrev pub cmp : Tree → Tree → Ordering
cmp a b = ordering_then (class_cmp a b) (same_class_cmp a b)

-- whether two values compare as equal, as `$eq` asks:
-- int32 5 and int64 5 do, a string and a symbol of one text do
abbrev pub equal : Tree → Tree → Bool
equal a b = is_eq (cmp a b)
