-- Documents that `dump` and `pack` give back.
use Rattle.std.specs.Prelude.{◌≡◌, ℕ, List, drop, length}
use Rattle.std.specs.Float.{Ieee.nan, Ieee.of_bits, binary64}
use Rattle.bd_value.specs.Tree.{Tree, leaf, doc, array, code_scope, Items, no_items, item, Fields, no_fields, field, Doc, fields_of, int64}
use Rattle.bd_bson_view.specs.Spelling.{IsDocumentBy, NumberKind, as_double, as_decimal128, number_size, number_type, valued}
use Rattle.bd_bson_view.specs.Sizes.{long_of}
use Rattle.bd_extjson.specs.Laws.{IsPlain}
use Rattle.bd_wide_dump.specs.{Raw.raw, WideText.AreBytes}
use Rattle.bd_wide_read.specs.DecimalText.{IsCanonical}
use Rattle.bd_wide_pack.specs.Written.{IsWritten}

-- A number is in its one form: a NaN without sign and payload, and a decimal128 that is canonical.
abbrev pub HasOneForm : NumberKind → List ℕ → Type 0
HasOneForm as_double value = of_bits binary64 (long_of value) ≡ nan → long_of value ≡ 0x7FF8_0000_0000_0000
HasOneForm as_decimal128 value = IsCanonical (long_of value) (long_of (drop 8 value))
HasOneForm kind value = Unit {0}

-- Each number of a value is in its one form.
abbrev mutual
  pub HaveOneForm : Tree → Type 0
  HaveOneForm (leaf (int64 z)) = (kind : NumberKind) (value : List ℕ) → AreBytes value → length value ≡ number_size kind
      → raw (number_type kind) value ≡ z → HasOneForm kind value
  HaveOneForm (leaf s) = Unit {0}
  HaveOneForm (doc fs) = FieldsHaveOneForm fs
  HaveOneForm (array ts) = ItemsHaveOneForm ts
  HaveOneForm (code_scope s fs) = FieldsHaveOneForm fs

  -- each value of a document
  pub FieldsHaveOneForm : Fields → Type 0
  FieldsHaveOneForm no_fields = Unit {0}
  FieldsHaveOneForm (field name t fs) = HaveOneForm t × FieldsHaveOneForm fs

  -- each element of an array
  pub ItemsHaveOneForm : Items → Type 0
  ItemsHaveOneForm no_items = Unit {0}
  ItemsHaveOneForm (item t ts) = HaveOneForm t × ItemsHaveOneForm ts

-- The bytes are a document of all types that `dump` and `pack` give back: no document in it has the name of a wrapper first,
-- the elements of its arrays are named by their indexes, and its numbers are in their one form.
pub record IsGivenBack (d : Doc) (bytes : List ℕ) : Type 0 where
  pub document : IsDocumentBy (valued raw) d bytes
  pub fits : AreBytes bytes
  pub plain : IsPlain (doc (fields_of d))
  pub indexed : IsWritten (doc (fields_of d)) bytes
  pub numbers : HaveOneForm (doc (fields_of d))
