-- Documents with the same values, whose numbers may have other bits or, from relaxed text, another type.
use Rattle.std.specs.Prelude.{◌≡◌, ◌≤◌, ◌<◌, ℕ, List, length}
use Rattle.bd_value.specs.Limits.{longest_document}
use Rattle.bd_value.specs.Tree.{Scalar, int64, Tree, leaf, doc, array, code_scope, Items, no_items, item, Fields, no_fields, field}
use Rattle.bd_bson_view.specs.Spelling.{NumberKind, as_int32, as_int64, number_size, number_type}
use Rattle.bd_wide_dump.specs.declared.format.JsonFormat.{JsonFormat}
use Rattle.bd_wide_dump.specs.declared.format.JsonFormat.TheVariants.{Relaxed}
use Rattle.bd_wide_dump.specs.{Raw.raw, WideText.AreBytes}
use Rattle.bd_wide_rank.specs.Worth.{worth}
use Rattle.bd_wide_pack.specs.RoundTrip.{HasOneForm}
use Rattle.bd_wide_pack.specs.WideLine.{IsPacked, IsTooLong}
use Rattle.bd_wide_pack.specs.Written.{IsWritten}

-- The scalar is a number: its type, and the bytes of its value.
pub record IsNumberAs (s : Scalar) (kind : NumberKind) (value : List ℕ) : Type 0 where
  pub fits : AreBytes value
  pub sized : length value ≡ number_size kind
  pub is : s ≡ int64 (raw (number_type kind) value)

-- A number keeps its type, but in relaxed form an int64 may become an int32.
abbrev pub MayBecome : JsonFormat → NumberKind → NumberKind → Type 0
MayBecome Relaxed as_int64 as_int32 = Unit {0}
MayBecome format kind other = kind ≡ other

-- One number becomes another of the same worth. If it is in its one form and keeps its type, it keeps its bytes.
pub record IsSameNumber (format : JsonFormat) (s r : Scalar) : Type 0 where
  pub kind : NumberKind
  pub value : List ℕ
  pub other : NumberKind
  pub given : List ℕ
  pub before : IsNumberAs s kind value
  pub after : IsNumberAs r other given
  pub equal : worth (number_type kind) value ≡ worth (number_type other) given
  pub typed : MayBecome format kind other
  pub kept : HasOneForm kind value → kind ≡ other → value ≡ given

-- A number becomes one of the same worth, any other scalar stays.
abbrev pub IsSameScalar : JsonFormat → Scalar → Scalar → Type 0
IsSameScalar format (int64 z) r = IsSameNumber format (int64 z) r
IsSameScalar format s r = s ≡ r

-- Two values have the same names, the same scalars and numbers of the same worth, in the same places.
abbrev mutual
  pub HasSameValues : JsonFormat → Tree → Tree → Type 0
  HasSameValues format (leaf s) (leaf r) = IsSameScalar format s r
  HasSameValues format (doc fs) (doc gs) = HaveSameValues format fs gs
  HasSameValues format (array ts) (array us) = ItemsHaveSameValues format ts us
  HasSameValues format (code_scope s fs) (code_scope r gs) = (s ≡ r) × HaveSameValues format fs gs
  HasSameValues format t u = ⊥

  -- the same of the fields of two documents, in order
  pub HaveSameValues : JsonFormat → Fields → Fields → Type 0
  HaveSameValues format no_fields no_fields = Unit {0}
  HaveSameValues format (field n t fs) (field m u gs) = (n ≡ m) × HasSameValues format t u × HaveSameValues format fs gs
  HaveSameValues format fs gs = ⊥

  -- the same of the elements of two arrays, in order
  pub ItemsHaveSameValues : JsonFormat → Items → Items → Type 0
  ItemsHaveSameValues format no_items no_items = Unit {0}
  ItemsHaveSameValues format (item t ts) (item u us) = HasSameValues format t u × ItemsHaveSameValues format ts us
  ItemsHaveSameValues format ts us = ⊥

-- The line is packed as the bytes of a document with the values of these fields, or is refused if they are more than 16,793,600.
-- They are no more than those of a document of these fields whose arrays name their elements by their indexes.
pub record IsPackedAlike (format : JsonFormat) (fs : Fields) (line : List ℕ) : Type 0 where
  pub fields : Fields
  pub bytes : List ℕ
  pub same : HaveSameValues format fs fields
  pub written : IsWritten (doc fields) bytes
  pub fits : AreBytes bytes
  pub few : (others : List ℕ) → IsWritten (doc fs) others → length bytes ≤ length others
  pub packed : length bytes ≤ longest_document → IsPacked line bytes
  pub refused : longest_document < length bytes → IsTooLong line
