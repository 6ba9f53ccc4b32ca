-- What the bytes of a value say from their start on, by its kind:
-- how many they are, and which scalar they are; and which bytes a read without a check needs.
use Rattle.std.specs.Prelude.{◌≡◌, ◌<◌, ◌≤◌, ℕ, ◌+◌, ◌-◌, ◌==◌, List, length, take, drop, slice_index_or, if◌then◌else◌}
use Rattle.std.specs.Prelude.{IsUtf8}
use Rattle.std.specs.List.{position_or_len}
use Rattle.std.specs.Int.{w32, w64, from_le_bytes, cast_signed}
use Rattle.bd_value.specs.Tree as trees
use Rattle.bd_value.specs.declared.node.Kind.{Kind}
use Rattle.bd_value.specs.declared.node.Kind.TheVariants as kinds

-- BSON 1.1, `int32`: the first four bytes as an unsigned number, least byte first; below 2^32
abbrev pub number_of : List ℕ → ℕ
number_of bytes = from_le_bytes w32 (take 4 bytes)

-- BSON 1.1, `int64` and `uint64`: the first eight bytes as an unsigned number, least byte first; below 2^64
abbrev pub long_of : List ℕ → ℕ
long_of bytes = from_le_bytes w64 (take 8 bytes)

-- the offset of the first zero byte; if there is none, the number of bytes
abbrev pub zero_at : List ℕ → ℕ
zero_at bytes = position_or_len (λ b. b == 0) bytes

-- BSON 1.1, `cstring`: the text at the start, up to the first zero
abbrev pub name_of : List ℕ → List ℕ
name_of bytes = take (zero_at bytes) bytes

-- what follows the `cstring` at the start: the bytes after the first zero
abbrev pub after_name : List ℕ → List ℕ
after_name bytes = drop (zero_at bytes + 1) bytes

-- BSON 1.1, `string`: the text at the start, without its length and its zero
abbrev pub text_of : List ℕ → List ℕ
text_of bytes = take (number_of bytes - 1) (drop 4 bytes)

-- BSON 1.1, `binary`: the data at the start, without the inner count of subtype 02
abbrev pub payload_of : List ℕ → List ℕ
payload_of bytes =
    let all = take (number_of bytes) (drop 5 bytes) in if slice_index_or bytes 4 0 == 2 then drop 4 all else all

-- How many bytes a value of this kind takes at the start of bytes, by BSON 1.1; lengths are taken as they are
-- written, so it may be more than there are. Null, undefined, MinKey and MaxKey take none.
abbrev pub size_of : Kind → List ℕ → ℕ
size_of kinds.Int32 bytes = 4
size_of kinds.Int64 bytes = 8
size_of kinds.Date bytes = 8
size_of kinds.Timestamp bytes = 8
size_of kinds.ObjectId bytes = 12
size_of kinds.Bool bytes = 1
size_of kinds.Text bytes = 4 + number_of bytes
size_of kinds.Symbol bytes = 4 + number_of bytes
size_of kinds.Code bytes = 4 + number_of bytes
size_of kinds.DbPointer bytes = 4 + number_of bytes + 12
size_of kinds.Binary bytes = 5 + number_of bytes
size_of kinds.Regex bytes = zero_at bytes + 1 + (zero_at (after_name bytes) + 1)
size_of kinds.Doc bytes = number_of bytes
size_of kinds.Array bytes = number_of bytes
size_of kinds.CodeScope bytes = number_of bytes
size_of _ bytes = 0

-- the scalar of that kind at the start of bytes, by BSON 1.1; null for a kind that is not a scalar's
abbrev pub scalar_at : Kind → List ℕ → trees.Scalar
scalar_at kinds.MinKey bytes = trees.min_key
scalar_at kinds.Undefined bytes = trees.undefined
scalar_at kinds.MaxKey bytes = trees.max_key
scalar_at kinds.Int32 bytes = trees.int32 (cast_signed w32 (number_of bytes))
scalar_at kinds.Int64 bytes = trees.int64 (cast_signed w64 (long_of bytes))
scalar_at kinds.Date bytes = trees.date (cast_signed w64 (long_of bytes))
scalar_at kinds.Timestamp bytes = trees.timestamp (number_of (drop 4 bytes)) (number_of bytes)
scalar_at kinds.ObjectId bytes = trees.object_id (take 12 bytes)
scalar_at kinds.Bool bytes = trees.boolean (slice_index_or bytes 0 0 == 1)
scalar_at kinds.Text bytes = trees.text (text_of bytes)
scalar_at kinds.Symbol bytes = trees.symbol (text_of bytes)
scalar_at kinds.Code bytes = trees.code (text_of bytes)
scalar_at kinds.DbPointer bytes = trees.db_pointer (text_of bytes) (take 12 (drop (4 + number_of bytes) bytes))
scalar_at kinds.Binary bytes = trees.binary (slice_index_or bytes 4 0) (payload_of bytes)
scalar_at kinds.Regex bytes = trees.regex (name_of bytes) (name_of (after_name bytes))
scalar_at _ bytes = trees.null

-- The bytes begin with a `string` that can be read:
-- its length is at least 1 and within the bytes, its text is UTF-8.
pub record TextAt (bytes : List ℕ) : Type 0 where
  pub some : 1 ≤ number_of bytes
  pub inside : 4 + number_of bytes ≤ length bytes
  pub utf8 : IsUtf8 (text_of bytes)

-- The bytes begin with a `cstring` that can be read: there is a zero, and the text before it is UTF-8.
pub record NameAt (bytes : List ℕ) : Type 0 where
  pub inside : zero_at bytes < length bytes
  pub utf8 : IsUtf8 (name_of bytes)

-- The bytes begin with `binary` that can be read:
-- all of its data is there, in subtype 02 at least four bytes.
pub record BinaryAt (bytes : List ℕ) : Type 0 where
  pub inside : 5 + number_of bytes ≤ length bytes
  pub inner : slice_index_or bytes 4 0 ≡ 2 → 4 ≤ number_of bytes

-- The bytes begin with all that a read of a value of this kind without a check needs: all of a scalar,
-- with texts in UTF-8; of a document, an array or code with scope only the four bytes of its length.
abbrev pub HasBytesOf : Kind → List ℕ → Type 0
HasBytesOf kinds.Text bytes = TextAt bytes
HasBytesOf kinds.Symbol bytes = TextAt bytes
HasBytesOf kinds.Code bytes = TextAt bytes
HasBytesOf kinds.DbPointer bytes = TextAt bytes × (16 + number_of bytes ≤ length bytes)
HasBytesOf kinds.Binary bytes = BinaryAt bytes
HasBytesOf kinds.Regex bytes = NameAt bytes × NameAt (after_name bytes)
HasBytesOf kinds.Doc bytes = 4 ≤ length bytes
HasBytesOf kinds.Array bytes = 4 ≤ length bytes
HasBytesOf kinds.CodeScope bytes = 4 ≤ length bytes
HasBytesOf kind bytes = size_of kind bytes ≤ length bytes
