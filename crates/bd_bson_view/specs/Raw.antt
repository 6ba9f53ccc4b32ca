-- What contracts say of views into bytes: what the bytes there spell, and which bytes they are.
use Rattle.std.specs.Prelude.{ℕ, List}
use Rattle.bd_value.specs.Tree.{Tree, Doc, pairs_in}
use Rattle.bd_bson_view.specs.{Sound.meaning, Sound.elements_remaining}
use Rattle.bd_bson_view.specs.declared.{raw.RawDoc.RawDoc, raw.RawValue.RawValue, raw.Elements.Elements}

-- the value that a view is of
abbrev pub value_tree : RawValue → Tree
value_tree value = meaning value.sound

-- the bytes that a view of a value is into
abbrev pub value_source : RawValue → List ℕ
value_source value = value.bytes.now

-- the offset in these bytes at which a value begins
abbrev pub value_start : RawValue → ℕ
value_start value = value.start

-- the document that a view is of, as a value
abbrev pub document_tree : RawDoc → Tree
document_tree document = meaning document.sound

-- the pairs of the document that a view is of
abbrev pub document_pairs : RawDoc → Doc
document_pairs document = pairs_in (document_tree document)

-- the bytes that a view of a document is into
abbrev pub document_source : RawDoc → List ℕ
document_source document = document.bytes.now

-- the names and values of elements, from the next one on
abbrev pub remaining_pairs : Elements → Doc
remaining_pairs elements = elements_remaining elements.remaining

-- the bytes that elements are in
abbrev pub elements_source : Elements → List ℕ
elements_source elements = elements.bytes.now
