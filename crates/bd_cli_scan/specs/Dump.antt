-- What `dump` prints for an input, and where a run of it may stop.
use Rattle.std.specs.Prelude.{◌≡◌, ◌⊎◌, ◌+◌, ℕ, List, [], ◌∷◌, ◌++◌, length, codes, decimal}
use Rattle.std.specs.Prelude.{Option, Some, None, option_map}
use Rattle.bd_value.specs.{Tree.Doc, Tree.doc, Tree.fields_of}
use Rattle.bd_io_device.specs.Devices.{Over, Reader, read_words}
use Rattle.bd_io_device.specs.declared.reading.ReadFault.{ReadFault}
use Rattle.bd_bson_view.specs.Spelling.{IsDocument}
use Rattle.bd_bson_check.specs.{Fault.Fault, declared.profile.Profile.Profile}
use Rattle.bd_bson_check.specs.Dump.{frame_fault_under}
use Rattle.bd_bson_stream.specs.Stream.{IsCutShort}
use Rattle.bd_extjson_text.specs.Text.{text as text_of}
use Rattle.bd_cli_scan.specs.Input.{GivesOnly, GivesWithinOne, StopsWithinOne, StreamsInput}
use Rattle.bd_cli_scan.specs.Output.{Transcript, fault_text, output_before}
use Rattle.bd_cli_scan.specs.Run.{Run}

-- how a program reads and prints documents
pub record Form : Type 1 where
  -- which types it reads
  pub profile : Profile
  -- The bytes are the document.
  pub Spells : Doc → List ℕ → Type 0
  -- what is before the first document
  pub opening : List ℕ
  -- This is printed for the document of that number, the first of which is 0.
  pub IsPiece : ℕ → Doc → List ℕ → Type 0
  -- what is after the last document, if nothing is wrong
  pub closing : List ℕ

-- the form of `bsonfind`: the nineteen kinds, in canonical Extended JSON, one a line
abbrev pub named : Form
named = record {
  profile = Profile.Named;
  Spells = IsDocument;
  opening = [];
  IsPiece = λ number d piece. piece ≡ text_of (doc (fields_of d)) ++ 10 ∷ [];
  closing = [];
}

-- The bytes are these documents, one after the other with nothing between.
abbrev pub AreDocuments : Form → List Doc → List ℕ → Type 0
AreDocuments form [] bytes = bytes ≡ []
AreDocuments form (d ∷ ds) bytes =
    (prefix : List ℕ) × (rest : List ℕ) × form.Spells d prefix × AreDocuments form ds rest × (bytes ≡ prefix ++ rest)

-- These are the pieces of the documents, whose numbers begin at `number`, joined.
abbrev pub ArePieces : Form → ℕ → List Doc → List ℕ → Type 0
ArePieces form number [] text = text ≡ []
ArePieces form number (d ∷ ds) text = (piece : List ℕ) × (rest : List ℕ) × form.IsPiece number d piece
    × ArePieces form (number + 1) ds rest × (text ≡ piece ++ rest)

-- The bytes are a document, and this is printed for it as the document of that number.
abbrev pub IsPieceOf : Form → ℕ → List ℕ → List ℕ → Type 0
IsPieceOf form number bytes piece = (d : Doc) × form.Spells d bytes × form.IsPiece number d piece

-- what is after the last document: nothing, if something is wrong
abbrev pub closing_after : Form → Option (List ℕ) → List ℕ
closing_after form None = form.closing
closing_after form (Some message) = []

-- the end of the line of counts of `dump`, after the number of documents printed
abbrev pub objects_found : List ℕ
objects_found = codes " objects found" ++ 10 ∷ []

-- the output of `dump` for the pieces of n documents and for what is wrong after them, if anything is
abbrev pub dump_output : Form → List ℕ → ℕ → Option (List ℕ) → Transcript
dump_output form pieces count wrong =
    output_before (form.opening ++ (pieces ++ closing_after form wrong)) wrong (decimal count ++ objects_found)

-- The bytes are these documents; or, if there is a fault, they begin with these, and the document after them has it.
abbrev pub EndsAs : Form → List Doc → Option Fault → List ℕ → Type 0
EndsAs form ds None bytes = AreDocuments form ds bytes
EndsAs form ds (Some f) bytes = (prefix : List ℕ) × (rest : List ℕ) × AreDocuments form ds prefix × (bytes ≡ prefix ++ rest)
    × (frame_fault_under form.profile (length prefix) rest ≡ Some f)

-- This is the output of `dump` for all bytes of an input, or for those before a failed read:
-- well-formed documents and the beginning of one more.
abbrev pub IsOutputBy : Form → List ℕ → Option ReadFault → Transcript → Type 0
IsOutputBy form bytes None output =
    (ds : List Doc) × (pieces : List ℕ) × (end : Option Fault) × EndsAs form ds end bytes × ArePieces form 0 ds pieces
    × (output ≡ dump_output form pieces (length ds) (option_map (fault_text (length ds)) end))
IsOutputBy form bytes (Some fault) output =
    (ds : List Doc) × (pieces : List ℕ) × (prefix : List ℕ) × (part : List ℕ) × AreDocuments form ds prefix × IsCutShort part
    × (bytes ≡ prefix ++ part) × ArePieces form 0 ds pieces
    × (output ≡ dump_output form pieces (length ds) (Some (read_words fault)))

-- If no read failed, no byte was read after the end, or after the document that has the first fault.
abbrev pub ReadsToFirstFault : Form → Over Reader → List ℕ → Type 0
ReadsToFirstFault form file bytes = (ds : List Doc) × (prefix : List ℕ) × (rest : List ℕ)
    × AreDocuments form ds prefix × (bytes ≡ prefix ++ rest)
    × ((rest ≡ []) ⊎ ((f : Fault) × (frame_fault_under form.profile (length prefix) rest ≡ Some f))) × StopsWithinOne prefix file

-- The text is the output up to these documents: what is before them, and their pieces.
abbrev pub IsOutputTo : Form → List Doc → List ℕ → Type 0
IsOutputTo form ds text = (pieces : List ℕ) × ArePieces form 0 ds pieces × (text ≡ form.opening ++ pieces)

-- After this text, which is the output up to some documents, this is the piece of the next document, and only these were read.
abbrev pub IsNextPiece : Form → Over Reader → List ℕ → List ℕ → Type 0
IsNextPiece form file text piece = (ds : List Doc) × (d : Doc) × (given : List ℕ) × AreDocuments form (ds ++ d ∷ []) given
    × GivesOnly file given × IsOutputTo form ds text × form.IsPiece (length ds) d piece

-- After this text, which is the output up to the last document, this is what is after it.
abbrev pub IsClosing : Form → Over Reader → List ℕ → List ℕ → Type 0
IsClosing form file text piece = (ds : List Doc) × (given : List ℕ) × AreDocuments form ds given
    × StreamsInput file given None × IsOutputTo form ds text × (piece ≡ form.closing)

-- A run of `dump` in a form: a piece is that of a document, and is written before the next document is read; or it is what is
-- before the first document, and is written before the first read, or what is after the last.
abbrev pub dump_run_by : Form → Over Reader → Run
dump_run_by form file = record {
  IsOutput = λ output. (bytes : List ℕ) × (fault : Option ReadFault) × StreamsInput file bytes fault
      × IsOutputBy form bytes fault output × (fault ≡ None → ReadsToFirstFault form file bytes);
  IsNext = λ text piece. ((text ≡ []) × (piece ≡ form.opening) × (file.after ≡ file.before))
      ⊎ (IsNextPiece form file text piece ⊎ IsClosing form file text piece);
  IsBegun = λ text. ((text ≡ []) × (file.after ≡ file.before))
      ⊎ ((ds : List Doc) × (given : List ℕ) × AreDocuments form ds given × GivesWithinOne file given
      × IsOutputTo form ds text);
}

-- ---- `bsonfind`

-- This is the output of `bsonfind dump` for all bytes of an input, or for those before a failed read.
abbrev pub IsOutputOfDump : List ℕ → Option ReadFault → Transcript → Type 0
IsOutputOfDump = IsOutputBy named

-- a run of `bsonfind dump`
abbrev pub dump_run : Over Reader → Run
dump_run = dump_run_by named
