-- The bytes that are written for a value: the elements of an array are named by their indexes, from 0.
use Rattle.std.specs.Prelude.{◌≡◌, ◌≤◌, ◌<◌, ℕ, suc, List, [], ◌++◌, length, decimal, false}
use Rattle.bd_value.specs.Tree.{Tree, leaf, doc, array, code_scope, Items, no_items, item, Fields, no_fields}
use Rattle.bd_value.specs.Tree.{field, Doc, fields_of, Leaf, scalar_leaf, code_leaf}
use Rattle.bd_value.specs.{Limits.longest_document, Limits.most_levels, Tree.depth}
use Rattle.bd_value.specs.{Fits.zero_in}
use Rattle.bd_bson_write.specs.declared.writing.WriteFault.{WriteFault}
use Rattle.bd_bson_write.specs.declared.writing.WriteFault.TheVariants as faults
use Rattle.bd_bson_view.specs.Spelling.{scalar_bytes, string, framed, scoped, element, CanSpell, IsText}

abbrev mutual
  -- the bytes of a value after its type byte and name;
  -- of a document all of its bytes, the length and the final zero included
  pub bytes_of : Tree → List ℕ
  bytes_of (leaf s) = scalar_bytes s
  bytes_of (doc fs) = framed (fields_bytes fs)
  bytes_of (array ts) = framed (items_bytes 0 ts)
  bytes_of (code_scope s fs) = scoped s (framed (fields_bytes fs))

  -- the elements of a document, in stored order
  pub fields_bytes : Fields → List ℕ
  fields_bytes no_fields = []
  fields_bytes (field name t fs) = element t name (bytes_of t) ++ fields_bytes fs

  -- the elements of an array, each named by its index in decimal; the first has the index `index`
  pub items_bytes : ℕ → Items → List ℕ
  items_bytes index no_items = []
  items_bytes index (item t ts) = element t (decimal index) (bytes_of t) ++ items_bytes (suc index) ts

-- the bytes of a scalar, or of the code of code with scope, which is a `string`
abbrev pub leaf_bytes : Leaf → List ℕ
leaf_bytes (scalar_leaf s) = scalar_bytes s
leaf_bytes (code_leaf s) = string s

-- The scalar or the code is within its BSON type, so that its bytes spell it.
abbrev pub LeafSpells : Leaf → Type 0
LeafSpells (scalar_leaf s) = CanSpell s
LeafSpells (code_leaf s) = IsText s

-- The bytes are this document, with array elements named by their indexes:
-- at most 16,793,600 bytes and 200 levels, and no zero in a `cstring`.
pub record SpellsPlainly (d : Doc) (bytes : List ℕ) : Type 0 where
  pub spelled : bytes ≡ bytes_of (doc (fields_of d))
  pub no_zero : zero_in (doc (fields_of d)) ≡ false
  pub short : length bytes ≤ longest_document
  pub shallow : depth (doc (fields_of d)) ≤ most_levels

-- Why bytes were not written: in all they would be more than a document may have, or memory ran out.
abbrev pub OverrunsLimit : ℕ → WriteFault → Type 0
OverrunsLimit total faults.TooLong = longest_document < total
OverrunsLimit total faults.NoMemory = Unit {0}
OverrunsLimit total _ = ⊥
