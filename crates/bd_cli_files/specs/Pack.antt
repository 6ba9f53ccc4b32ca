-- What `pack` prints for an input.
use Rattle.std.specs.Prelude.{◌≡◌, ◌⊎◌, ℕ, suc, ◌-◌, List, [], ◌∷◌, ◌++◌, length, slice_index_or, codes, decimal, IsTrue, IsFalse}
use Rattle.std.specs.Prelude.{Option, Some, None, Result, Ok, Err, option_map}
use Rattle.std.specs.List.{flat_map}
use Rattle.bd_value.specs.Tree.{Doc}
use Rattle.bd_io_device.specs.Devices.{Over, Reader, read_words}
use Rattle.bd_io_device.specs.declared.reading.ReadFault.{ReadFault}
use Rattle.bd_extjson_fault.specs.{JsonFault.json_fault_words, declared.json_fault.JsonFaultKind.JsonFaultKind}
use Rattle.bd_extjson_pack.specs.{Packable.plain, Packable.IsPackable, Packable.IsBad, declared.line.LineFault.LineFault}
use Rattle.bd_io_lines.specs.Lines.{is_empty_line, text_lines}
use Rattle.bd_cli_scan.specs.{Input.ReadsInput}
use Rattle.bd_cli_files.specs.{declared.pack.BadLine.BadLine}
use Rattle.bd_cli_scan.specs.Output.{Transcript, output_before, refusal_output}
use Rattle.bd_cli_scan.specs.Run.{Run}
use Rattle.bd_extjson_fault.specs.declared.json_fault.JsonFaultKind.TheVariants as kinds
use Rattle.bd_extjson_pack.specs.declared.line.LineFault.TheVariants as faults

-- how a program packs lines
pub record Form : Type 1 where
  -- what a line is read as
  pub Document : Type 0
  -- The line is this document, and is packed.
  pub IsPackable : List ℕ → Document → Type 0
  -- the BSON of a document
  pub bson : Document → List ℕ
  -- The line is not packed, for this reason.
  pub IsBad : List ℕ → LineFault → Type 0
  -- what to write instead in a line that is not packed, for this reason, if that is known
  pub advice : List ℕ → LineFault → Option (List ℕ)

-- the form of `bsonfind`: documents of the nineteen kinds
abbrev pub named : Form
named = record { Document = Doc; IsPackable = IsPackable; bson = plain; IsBad = IsBad; advice = λ line fault. None }

-- From lines whose numbers begin at `number`: the documents before the first bad line, and that line,
-- if any. Lines of white space are skipped.
abbrev pub PacksBy : (form : Form) → ℕ → List (List ℕ) → List form.Document → Option BadLine → Type 0
PacksBy form number [] ds bad = (ds ≡ []) × (bad ≡ None)
PacksBy form number (line ∷ lines) ds bad = (IsTrue (is_empty_line line) × PacksBy form (suc number) lines ds bad)
    ⊎ (IsFalse (is_empty_line line)
    × ((d : form.Document) × (es : List form.Document) × form.IsPackable line d × (ds ≡ d ∷ es)
    × PacksBy form (suc number) lines es bad))
    ⊎ (IsFalse (is_empty_line line)
    × ((fault : LineFault) × form.IsBad line fault × (ds ≡ []) × (bad ≡ Some (record { number = number; fault = fault }))))

-- the byte offset of a fault in a line, after this text; empty if the line as a whole is no document
abbrev pub byte_text : List ℕ → JsonFaultKind → ℕ → List ℕ
byte_text words kinds.NotADocument at = []
byte_text words _ at = words ++ decimal at

-- what is wrong with a line of `pack`, and at which byte of the line
abbrev pub line_fault_text : LineFault → List ℕ
line_fault_text (faults.Unread f) = byte_text (codes ", byte ") f.kind f.at ++ (codes ": " ++ json_fault_words f.kind)
line_fault_text faults.TooLong = codes ": document too long"

-- the message of a bad line of `pack`: its number, from 1, and what is wrong
abbrev pub bad_line_text : BadLine → List ℕ
bad_line_text bad = codes "line " ++ (decimal bad.number ++ line_fault_text bad.fault)

-- a message, and after it what to write instead, if that is known
abbrev pub advised : List ℕ → Option (List ℕ) → List ℕ
advised message None = message
advised message (Some advice) = message ++ (codes "; " ++ advice)

-- the message of a bad line among these lines, and what to write instead
abbrev pub advised_line : Form → List (List ℕ) → BadLine → List ℕ
advised_line form lines bad =
    advised (bad_line_text bad) (form.advice (slice_index_or lines (bad.number - 1) []) bad.fault)

-- the end of the line of counts of `pack`, after the number of documents packed
abbrev pub objects_packed : List ℕ
objects_packed = codes " objects packed" ++ 10 ∷ []

-- the output of `pack` for lines: the BSON of the documents before the first bad line, the message of that line,
-- and how many were packed
abbrev pub pack_output : (form : Form) → List (List ℕ) → List form.Document → Option BadLine → Transcript
pack_output form lines ds bad = output_before (flat_map form.bson ds) (option_map (advised_line form lines) bad)
    (decimal (length ds) ++ objects_packed)

-- This is the output of `pack` for a text, or for an input that was not read completely.
abbrev pub IsOutputBy : Form → Result (List ℕ) ReadFault → Transcript → Type 0
IsOutputBy form (Ok text) output = (ds : List form.Document) × (bad : Option BadLine)
    × PacksBy form 1 (text_lines text) ds bad × (output ≡ pack_output form (text_lines text) ds bad)
IsOutputBy form (Err fault) output = output ≡ refusal_output (read_words fault)

-- A run of `pack` for this text, which takes no memory.
abbrev pub text_run : Form → List ℕ → Run
text_run form text = record {
  IsOutput = IsOutputBy form (Ok text);
  IsNext = λ written piece. (output : Transcript) × IsOutputBy form (Ok text) output × (written ≡ []) × (piece ≡ output.out);
  IsBegun = λ written. ⊥;
}

-- A run of `pack` in a form: it reads its whole input first, and packs it. If memory runs out, that is before anything is written.
abbrev pub pack_run_by : Form → Over Reader → Run
pack_run_by form file = record {
  IsOutput = λ output. (input : Result (List ℕ) ReadFault) × ReadsInput file input × IsOutputBy form input output;
  IsNext = λ written piece. (text : List ℕ) × ReadsInput file (Ok text) × (text_run form text).IsNext written piece;
  IsBegun = λ written. ⊥;
}

-- ---- `bsonfind`

-- which documents `bsonfind pack` packs from lines, and which line is bad
abbrev pub PacksLines : ℕ → List (List ℕ) → List Doc → Option BadLine → Type 0
PacksLines = PacksBy named

-- This is the output of `bsonfind pack` for a text, or for an input that was not read completely.
abbrev pub IsOutputOfPack : Result (List ℕ) ReadFault → Transcript → Type 0
IsOutputOfPack = IsOutputBy named

-- a run of `bsonfind pack`
abbrev pub pack_run : Over Reader → Run
pack_run = pack_run_by named
