-- The text of a document of JSON on one line, by its bytes.
use Rattle.std.specs.Prelude.{ℕ, List}
use Rattle.bd_value.specs.Tree.{Doc}
use Rattle.bd_bson_view.specs.Spelling.{IsDocumentBy, valued}
use Rattle.bd_wide_dump.specs.Raw.{raw}
use Rattle.bd_wide_layout.specs.Layout.{IsTextOn, JsonView}

-- The bytes are a document of all types, and the text is that of the document in JSON on one line.
abbrev pub IsJsonOfBytes : JsonView → List ℕ → List ℕ → Type 0
IsJsonOfBytes j bytes text = (d : Doc) × IsDocumentBy (valued raw) d bytes × IsTextOn j.format j.paths d text
