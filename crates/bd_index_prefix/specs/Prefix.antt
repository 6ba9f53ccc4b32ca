-- The prefix of a key, by which most keys compare:
-- of a text its first 15 bytes and its length, of a number, a date or an ObjectId all of it.
use Rattle.std.specs.Prelude.{ℕ, zero, suc, nat_lt, Bool, true, false, not, ◌==◌, ◌&&◌, ◌||◌, List, [], ◌∷◌, length}
use Rattle.std.specs.Prelude.{min, Option, Some}
use Rattle.std.specs.Str.{bytes_eq}
use Rattle.bd_value.specs.Tree.{leaf_of, scalar_leaf, Leaf, Scalar, Tree, date, int32, int64, object_id, symbol, text}
use Rattle.bd_bson_view.specs.{Raw.value_tree, declared.raw.RawValue.RawValue}
use Rattle.bd_path.specs.{Key.key_tree, declared.key.Key.Key}
use Rattle.bd_index_prefix.specs.{declared.prefix.Prefix.Prefix, declared.prefix.TextPrefix.TextPrefix}
use Rattle.bd_index_prefix.specs.declared.prefix.Prefix.TheVariants as prefixes

-- the value of a key that is a node in the bytes of a dump
abbrev pub stored_key : Key RawValue → Tree
stored_key k = key_tree value_tree k

-- the first n bytes; if there are fewer, with zeros after them
unfoldable pub padded : ℕ → List ℕ → List ℕ
padded zero s = []
padded (suc n) [] = 0 ∷ padded n []
padded (suc n) (x ∷ s) = x ∷ padded n s

-- the prefix of a text: its first 15 bytes, and its length, which above 15 counts as 16
abbrev pub prefix_of_text : List ℕ → TextPrefix
prefix_of_text s = record { bytes = padded 15 s; length = min (length s) 16 }

-- the prefix of a scalar: that of a text for strings and symbols;
-- none (`Other`) for a kind that is not listed here
abbrev pub prefix_of_scalar : Scalar → Prefix
prefix_of_scalar (text s) = prefixes.Text (prefix_of_text s)
prefix_of_scalar (symbol s) = prefixes.Text (prefix_of_text s)
prefix_of_scalar (int32 z) = prefixes.Number z
prefix_of_scalar (int64 z) = prefixes.Number z
prefix_of_scalar (date z) = prefixes.Date z
prefix_of_scalar (object_id id) = prefixes.Id id
prefix_of_scalar _ = prefixes.Other

-- the prefix of a scalar; documents, arrays and code with scope have none (`Other`)
abbrev pub prefix_of_leaf : Option Leaf → Prefix
prefix_of_leaf (Some (scalar_leaf s)) = prefix_of_scalar s
prefix_of_leaf _ = prefixes.Other

-- the prefix of a key, by which most keys compare without reading their bytes;
-- `Other` for a kind that has none
abbrev pub prefix_of : Tree → Prefix
prefix_of t = prefix_of_leaf (leaf_of t)

-- whether the prefixes of two texts decide their order:
-- always, unless they are equal and the texts are longer
abbrev pub texts_decide : TextPrefix → TextPrefix → Bool
texts_decide a b = nat_lt a.length 16 || not (bytes_eq a.bytes b.bytes && (a.length == b.length))

-- whether two prefixes decide the order of their keys:
-- two of numbers, dates or ids always do, two of texts mostly
abbrev pub decides_order : Prefix → Prefix → Bool
decides_order (prefixes.Text a) (prefixes.Text b) = texts_decide a b
decides_order (prefixes.Number m) (prefixes.Number n) = true
decides_order (prefixes.Date m) (prefixes.Date n) = true
decides_order (prefixes.Id a) (prefixes.Id b) = true
decides_order _ _ = false
