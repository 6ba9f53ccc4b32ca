-- The text of the documents of a dump, each by its place.
use Rattle.std.specs.Prelude.{◌≡◌, ℕ, List}
use Rattle.bd_value.specs.Tree.{Doc}
use Rattle.bd_bson_dump.specs.Collection.{document_at}
use Rattle.bd_extjson_text.specs.Text.{text as text_of}

-- The text is that of the document at this place: canonical Extended JSON, without white space.
abbrev pub IsNamedText : List Doc → ℕ → List ℕ → Type 0
IsNamedText ds place text = text ≡ text_of (document_at ds place)
