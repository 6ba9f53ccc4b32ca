-- What a scan of the documents of an input visits and writes, for `dump` and for `check`.
use Rattle.std.specs.Prelude.{◌≡◌, ◌⊎◌, ℕ, List, [], ◌∷◌, ◌++◌, length}
use Rattle.std.specs.Prelude.{Option, Some, None, Bool, true, false}
use Rattle.std.specs.Prelude.{is_some, option_map, unwrap_or, Err}
use Rattle.std.specs.{List.count_by}
use Rattle.bd_io_device.specs.Devices.{WriteFailsAfter, WriteFailsWithin, Over, Reader, TakesText, Writer, between}
use Rattle.bd_bson_check.specs.{Fault.fault_view, Fault.Fault, FirstFault.fault_under, declared.profile.Profile.Profile}
use Rattle.bd_bson_check.specs.Dump.{frame_fault_under, frame_length}
use Rattle.bd_bson_stream.specs.Stream.{IsCutShort, IsFrame}
use Rattle.bd_cli_scan.specs.{declared.input.InputFault.InputFault, declared.scan.DumpScan.DumpScan}
use Rattle.bd_cli_scan.specs.{declared.output.OutputFault.OutputFault}
use Rattle.bd_cli_scan.specs.{declared.output.OutputFault.TheVariants.NoMemory}
use Rattle.bd_cli_scan.specs.{declared.output.OutputFault.TheVariants.Unwritten}
use Rattle.bd_cli_scan.specs.Input.{GivesWithinOne, StopsInside, StopsWithinOne, StreamsInput}
use Rattle.bd_bson_check.specs.declared.fault.Fault as reported
use Rattle.bd_cli_scan.specs.declared.input.InputFault.TheVariants as faults
use Rattle.bd_cli_scan.specs.{Check.check_result_line, Dump.Form, Dump.IsPieceOf, Dump.closing_after, Output.input_words}

-- ---- the scan of the documents

-- Under which profile a scan of a dump reads, and what it writes: for a document without a fault by its number and its bytes;
-- for a fault by its document number; None: the scan ends at a fault.
pub record Texts : Type 1 where
  pub profile : Profile
  pub IsGood : ℕ → List ℕ → List ℕ → Type 0
  pub bad : ℕ → Fault → Option (List ℕ)

-- the profile that reads all types, or not
abbrev pub profile_of : Bool → Profile
profile_of true = Profile.All
profile_of false = Profile.Named

-- `dump` writes the piece of each document, and ends at the first fault
abbrev pub dump_texts : Form → Texts
dump_texts form = record { profile = form.profile; IsGood = IsPieceOf form; bad = λ number f. None }

-- `check` writes nothing for a document without a fault, and the line of each fault
abbrev pub check_texts : Profile → Texts
check_texts p = record { profile = p; IsGood = λ number bytes text. text ≡ []; bad = λ number f. Some (check_result_line number (Some f)) }

-- This is written for the document of that number, which has these bytes at that offset,
-- and this fault or none.
abbrev pub IsTextOf : Texts → ℕ → ℕ → List ℕ → Option Fault → List ℕ → Type 0
IsTextOf texts number offset bytes None text =
    (fault_under texts.profile offset bytes ≡ None) × texts.IsGood number bytes text
IsTextOf texts number offset bytes (Some f) text =
    (fault_under texts.profile offset bytes ≡ Some f) × (texts.bad number f ≡ Some text)

-- The scan visited these documents: for each its first fault or None, their bytes,
-- and what is written for them.
pub data AreVisited (texts : Texts) : List (Option Fault) → List ℕ → List ℕ → Type 0 where
  none_visited : AreVisited texts [] [] []
  more_visited : (vs : List (Option Fault)) (given text : List ℕ) (v : Option Fault) (frame piece : List ℕ)
      → AreVisited texts vs given text → IsFrame frame → IsTextOf texts (length vs) (length given) frame v piece
      → AreVisited texts (vs ++ v ∷ []) (given ++ frame) (text ++ piece)

-- How the scan ended after that many documents of these bytes:
-- at the end of the input, at a fault, or at a failed read.
abbrev pub EndsScan : Texts → Over Reader → ℕ → List ℕ → Option InputFault → Type 0
EndsScan texts file number given None = StreamsInput file given None × StopsWithinOne given file
EndsScan texts file number given (Some (faults.Faulty f)) =
    (part : List ℕ) × (rest : List ℕ) × StreamsInput file (given ++ (part ++ rest)) None × StopsInside given part file
    × (f.document ≡ number) × (frame_fault_under texts.profile (length given) (part ++ rest) ≡ Some (fault_view f))
    × ((texts.bad number (fault_view f) ≡ None)
    ⊎ ((frame_length part ≡ Err f.kind) × (frame_length (part ++ rest) ≡ Err f.kind)))
EndsScan texts file number given (Some (faults.Unread f)) =
    (part : List ℕ) × StreamsInput file (given ++ part) (Some f) × IsCutShort part

-- the text for the fault that ends the scan, if it is a bad length:
-- the offset of the next document is then unknown
abbrev pub text_at_end : Texts → ℕ → Option InputFault → List ℕ
text_at_end texts number (Some (faults.Faulty f)) = unwrap_or (texts.bad number (fault_view f)) []
text_at_end texts number _ = []

-- The scan reached its end, and the writer took the text for its documents.
abbrev pub ScansDocuments : Texts → Over Reader → Over Writer → DumpScan → Type 0
ScansDocuments texts file out scan =
    (vs : List (Option Fault)) × (given : List ℕ) × (text : List ℕ) × AreVisited texts vs given text
    × (scan.count ≡ length vs) × (scan.bad ≡ count_by is_some vs)
    × EndsScan texts file (length vs) given scan.fault
    × TakesText out (text ++ text_at_end texts (length vs) scan.fault)

-- The scan was stopped: memory ran out after these documents,
-- or a write failed in the text for the next one or for the fault that ends the scan.
abbrev pub StopsScan : Texts → Over Reader → Over Writer → OutputFault → Type 0
StopsScan texts file out NoMemory =
    (vs : List (Option Fault)) × (given : List ℕ) × (text : List ℕ) × AreVisited texts vs given text
    × GivesWithinOne file given × TakesText out text
StopsScan texts file out Unwritten =
    (vs : List (Option Fault)) × (given : List ℕ) × (text : List ℕ) × (piece : List ℕ)
    × AreVisited texts vs given text × WriteFailsAfter out text piece
    × (((v : Option Fault) × (frame : List ℕ) × IsFrame frame
    × IsTextOf texts (length vs) (length given) frame v piece × StopsInside given frame file
    × (file.after.failures ≡ file.before.failures))
    ⊎ ((f : reported.Fault) × EndsScan texts file (length vs) given (Some (faults.Faulty f))
    × (texts.bad (length vs) (fault_view f) ≡ Some piece)))

-- ---- the output of `dump`

-- The scan reached its end, and the writer took what is before the documents, their pieces, and what is after them, if nothing
-- is wrong.
abbrev pub PrintsAll : Form → Over Reader → Over Writer → DumpScan → Type 0
PrintsAll form file out scan = (vs : List (Option Fault)) × (given : List ℕ) × (pieces : List ℕ)
    × AreVisited (dump_texts form) vs given pieces × (scan.count ≡ length vs)
    × EndsScan (dump_texts form) file (length vs) given scan.fault
    × TakesText out (form.opening ++ (pieces ++ closing_after form (option_map input_words scan.fault)))

-- Printing was stopped: a write failed in what is before the documents, and nothing was read; or the scan was stopped; or a write
-- failed in what is after the last document.
abbrev pub StopsPrinting : Form → Over Reader → Over Writer → OutputFault → Type 0
StopsPrinting form file out stopped =
    ((file.after ≡ file.before) × ((stopped ≡ Unwritten) × WriteFailsWithin out form.opening))
    ⊎ (((middle : Writer) × TakesText (between out.before middle) form.opening
    × StopsScan (dump_texts form) file (between middle out.after) stopped)
    ⊎ ((stopped ≡ Unwritten) × ((vs : List (Option Fault)) × (given : List ℕ) × (pieces : List ℕ)
    × AreVisited (dump_texts form) vs given pieces × EndsScan (dump_texts form) file (length vs) given None
    × WriteFailsAfter out (form.opening ++ pieces) form.closing)))
