-- How `bsonwide` reads and prints documents.
use Rattle.std.specs.Prelude.{◌≡◌, ℕ, List, [], ◌∷◌, codes, Option, Some, None}
use Rattle.bd_value.specs.Tree.{Doc, doc, fields_of}
use Rattle.bd_io_device.specs.Devices.{Over, Reader}
use Rattle.bd_bson_view.specs.Spelling.{IsDocumentBy, valued}
use Rattle.bd_bson_check.specs.declared.profile.Profile.{Profile}
use Rattle.bd_cli_scan.specs.{Dump.Form, Run.Run, Output.refusal_output}
use Rattle.bd_path.specs.Reach.{Names}
use Rattle.bd_wide_dump.specs.{Csv.AreCells, Raw.raw}
use Rattle.bd_wide_layout.specs.Layout.{LayoutView, IsPiece, closing, opening}

-- the form of `bsonwide`: all types of BSON 1.1, in this layout
abbrev pub laid_out : LayoutView → Form
laid_out layout = record {
  profile = Profile.All;
  Spells = IsDocumentBy (valued raw);
  opening = opening layout;
  IsPiece = IsPiece layout;
  closing = closing layout;
}

-- the message for fields that are refused
abbrev pub fields_refused : List ℕ
fields_refused = codes "fields: not paths to separate fields"

-- A run by a layout; or, without one, only that the fields are refused is printed, and the file is not read.
abbrev pub layout_run : Option LayoutView → Over Reader → (LayoutView → Run) → Run
layout_run (Some layout) file run = run layout
layout_run None file run = record {
  IsOutput = λ output. (output ≡ refusal_output fields_refused) × (file.after ≡ file.before);
  IsNext = λ text piece. ⊥;
  IsBegun = λ text. (text ≡ []) × (file.after ≡ file.before);
}

-- These are the texts of the fields that these paths lead to, for each of these documents.
abbrev pub AreRows : List Names → List Doc → List (List (List ℕ)) → Type 0
AreRows paths [] rows = rows ≡ []
AreRows paths (d ∷ ds) rows = (cells : List (List ℕ)) × (rest : List (List (List ℕ))) × AreCells (doc (fields_of d)) paths cells
    × AreRows paths ds rest × (rows ≡ cells ∷ rest)
