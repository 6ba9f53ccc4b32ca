-- How the texts of documents are laid out: as lines or as one array of JSON, on one line each or on many, or as rows of CSV.
use Rattle.std.specs.Prelude.{◌≡◌, ℕ, zero, suc, List, [], ◌∷◌, ◌++◌, Bool, if◌then◌else◌, codes, Option, Some, None, option_map}
use Rattle.csv.specs.Writing.{default_writer, row_text}
use Rattle.bd_value.specs.Tree.{Doc, doc, fields_of}
use Rattle.bd_bson_view.specs.Spelling.{IsDocumentBy, valued}
use Rattle.bd_path.specs.Reach.{Names}
use Rattle.bd_wide_dump.specs.declared.format.JsonFormat.{JsonFormat}
use Rattle.bd_wide_dump.specs.{Csv.AreCells, Fields.requested, Pretty.indented, Projected.projected, Raw.raw, WideText.IsTextOf}
use Rattle.bd_wide_layout.specs.declared.layout.{CsvLayout.CsvLayout, JsonLayout.JsonLayout, Layout.Layout}
use Rattle.bd_wide_layout.specs.declared.layout.Layout.TheVariants as layouts

-- a layout of JSON: the format of each text, the paths to the requested fields, or None for all of each document, whether the texts are
-- the elements of one array, else a line ends after each, and whether each is on many lines
pub record JsonView : Type 0 where
  pub format : JsonFormat
  pub paths : Option (List Names)
  pub is_array : Bool
  pub is_pretty : Bool

-- a layout: one of JSON; or one of CSV, by the paths to the fields of a row and what is before the rows
pub data LayoutView : Type 0 where
  json : JsonView → LayoutView
  csv : List Names → List ℕ → LayoutView

-- the layout that a `JsonLayout` in memory represents
abbrev pub json_view : JsonLayout → JsonView
json_view l = record {
  format = l.format;
  paths = option_map (λ v. requested v.items) l.paths;
  is_array = l.is_array;
  is_pretty = l.is_pretty;
}

-- the layout that a `Layout` in memory represents
abbrev pub layout_view : Layout → LayoutView
layout_view (layouts.Json l) = json (json_view l)
layout_view (layouts.Csv l) = csv (requested l.columns.items) l.header.items

-- ---- what is around the texts: in an array on many lines as mongoexport prints it

-- a text in an array, and another on many lines there; nothing elsewhere
abbrev pub in_array : JsonView → List ℕ → List ℕ → List ℕ
in_array j text pretty = if j.is_array then (if j.is_pretty then pretty else text) else []

-- what is before the first document
abbrev pub opening : LayoutView → List ℕ
opening (json j) = in_array j (codes "[") (codes "[\n")
opening (csv columns header) = header

-- what is between two documents
abbrev pub separator : LayoutView → List ℕ
separator (json j) = in_array j (codes ",") (codes ",\n")
separator (csv columns header) = []

-- what is before the document of that number, the first of which is 0
abbrev pub before : LayoutView → ℕ → List ℕ
before layout zero = []
before layout (suc n) = separator layout

-- what is after each document: a row of CSV ends with a line feed of its own
abbrev pub ending : LayoutView → List ℕ
ending (json j) = if j.is_array then [] else 10 ∷ []
ending (csv columns header) = []

-- what is after the last document
abbrev pub closing : LayoutView → List ℕ
closing (json j) = in_array j (codes "]\n") (codes "]\n\n")
closing (csv columns header) = []

-- ---- the texts

-- The text is that of the document on one line: of its fields on these paths, or of all of it.
abbrev pub IsTextOn : JsonFormat → Option (List Names) → Doc → List ℕ → Type 0
IsTextOn format None d text = IsTextOf format (doc (fields_of d)) text
IsTextOn format (Some paths) d text = IsTextOf format (doc (projected paths (fields_of d))) text

-- The text is that of the document in JSON: on one line or, from that, on many.
abbrev pub IsJsonText : JsonView → Doc → List ℕ → Type 0
IsJsonText j d text =
    (line : List ℕ) × IsTextOn j.format j.paths d line × (text ≡ (if j.is_pretty then indented line else line))

-- The text is the row of CSV of the document's fields on these paths.
abbrev pub IsRow : List Names → Doc → List ℕ → Type 0
IsRow paths d row = (cells : List (List ℕ)) × AreCells (doc (fields_of d)) paths cells × (row ≡ row_text default_writer cells)

-- The text is that of the document in this layout.
abbrev pub IsTextIn : LayoutView → Doc → List ℕ → Type 0
IsTextIn (json j) d text = IsJsonText j d text
IsTextIn (csv columns header) d text = IsRow columns d text

-- The bytes are a document of all types, and the text is that of the document in this layout.
abbrev pub IsTextOfBytes : LayoutView → List ℕ → List ℕ → Type 0
IsTextOfBytes layout bytes text = (d : Doc) × IsDocumentBy (valued raw) d bytes × IsTextIn layout d text

-- This is printed for the document of that number: its text, and what is before and after it.
abbrev pub IsPiece : LayoutView → ℕ → Doc → List ℕ → Type 0
IsPiece layout number d piece = (text : List ℕ) × IsTextIn layout d text
    × (piece ≡ before layout number ++ (text ++ ending layout))

-- The bytes are a document of all types, and this is printed for it as the document of that number.
abbrev pub IsPieceOfBytes : LayoutView → ℕ → List ℕ → List ℕ → Type 0
IsPieceOfBytes layout number bytes piece = (d : Doc) × IsDocumentBy (valued raw) d bytes × IsPiece layout number d piece
