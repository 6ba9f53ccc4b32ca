-- The bytes that are written for a document of all types: the elements of an array are named by their indexes, from 0.
use Rattle.std.specs.Prelude.{◌≡◌, ℕ, suc, List, [], ◌++◌, decimal}
use Rattle.bd_value.specs.Tree.{Tree, leaf, doc, array, code_scope, Items, no_items, item, Fields, no_fields, field}
use Rattle.bd_bson_view.specs.Spelling.{IsName, IsText, IsValuedScalar, framed, scoped, written_typed}
use Rattle.bd_wide_dump.specs.Raw.{raw}

abbrev mutual
  -- The bytes are written for the value, after its type byte and name; of a document they are all of its bytes.
  pub IsWritten : Tree → List ℕ → Type 0
  IsWritten (leaf s) bytes = IsValuedScalar raw s bytes
  IsWritten (doc fs) bytes = (body : List ℕ) × AreFieldsWritten fs body × (bytes ≡ framed body)
  IsWritten (array is) bytes = (body : List ℕ) × AreItemsWritten 0 is body × (bytes ≡ framed body)
  IsWritten (code_scope s fs) bytes =
      (body : List ℕ) × AreFieldsWritten fs body × (bytes ≡ scoped s (framed body)) × IsText s

  -- The bytes are written for the elements of a document, one after the other.
  pub AreFieldsWritten : Fields → List ℕ → Type 0
  AreFieldsWritten no_fields bytes = bytes ≡ []
  AreFieldsWritten (field name t fs) bytes = (value : List ℕ) × (rest : List ℕ) × IsName name × IsWritten t value
      × AreFieldsWritten fs rest × (bytes ≡ written_typed t name value ++ rest)

  -- The bytes are written for the elements of an array, one after the other; the first has this index.
  pub AreItemsWritten : ℕ → Items → List ℕ → Type 0
  AreItemsWritten index no_items bytes = bytes ≡ []
  AreItemsWritten index (item t is) bytes = (value : List ℕ) × (rest : List ℕ) × IsWritten t value
      × AreItemsWritten (suc index) is rest × (bytes ≡ written_typed t (decimal index) value ++ rest)
