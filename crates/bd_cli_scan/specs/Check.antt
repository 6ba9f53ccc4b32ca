-- What `check` prints for an input, and where a run of it may stop.
use Rattle.std.specs.Prelude.{◌≡◌, ◌≤◌, ◌⊎◌, ℕ, zero, suc, List, [], ◌∷◌, ◌++◌, length, codes, decimal}
use Rattle.std.specs.Prelude.{Option, Some, None, is_some, option_map, Err}
use Rattle.std.specs.{List.count_by}
use Rattle.bd_value.specs.{Limits.longest_input}
use Rattle.bd_io_device.specs.Devices.{Over, Reader, read_words}
use Rattle.bd_io_device.specs.declared.reading.ReadFault.{ReadFault}
use Rattle.bd_bson_check.specs.{Fault.Fault, declared.fault.FaultKind.FaultKind, Dump.frame_length, declared.profile.Profile.Profile}
use Rattle.bd_bson_stream.specs.Stream.{AreFrames, IsCutShort}
use Rattle.bd_bson_dump.specs.CheckResults.{check_results_under}
use Rattle.bd_cli_scan.specs.{declared.output.Status.Status}
use Rattle.bd_cli_scan.specs.{declared.output.Status.TheVariants.Done}
use Rattle.bd_cli_scan.specs.{declared.output.Status.TheVariants.Failed}
use Rattle.bd_cli_scan.specs.Input.{GivesOnly, GivesWithinOne, StreamsInput}
use Rattle.bd_cli_scan.specs.Output.{Transcript, fault_text, output_before}
use Rattle.bd_cli_scan.specs.Run.{Run}

-- the line of `check` for a document: its first fault; a document without a fault has no line
abbrev pub check_result_line : ℕ → Option Fault → List ℕ
check_result_line number None = []
check_result_line number (Some f) = fault_text number f ++ 10 ∷ []

-- the lines of `check` for documents whose numbers begin at `number`
abbrev pub check_result_lines : ℕ → List (Option Fault) → List ℕ
check_result_lines number [] = []
check_result_lines number (v ∷ vs) = check_result_line number v ++ check_result_lines (suc number) vs

-- the line of counts of `check`: how many documents there are, and how many are faulty
abbrev pub check_counts : ℕ → ℕ → List ℕ
check_counts documents faulty = decimal documents ++ (codes " documents, " ++ (decimal faulty ++ (codes " faulty" ++ 10 ∷ [])))

-- the status of `check`: done if each document is well-formed and the input was read completely, otherwise failed (1)
abbrev pub check_status : Option (List ℕ) → ℕ → Status
check_status None zero = Done
check_status _ faulty = Failed

-- the output of `check` for documents, or for those before a failed read
abbrev pub check_output : List (Option Fault) → Option ReadFault → Transcript
check_output vs unread =
    let message = option_map read_words unread in
    let faulty = count_by is_some vs in
    record (output_before (check_result_lines 0 vs) message (check_counts (length vs) faulty)) { status = check_status message faulty }

-- For each document of an input its first fault or None;
-- if a read failed, for those before the document in which it failed.
abbrev pub AreCheckResults : Profile → List ℕ → Option ReadFault → List (Option Fault) → Type 0
AreCheckResults p bytes None vs = vs ≡ check_results_under p bytes
AreCheckResults p bytes (Some fault) vs =
    (frames : List (List ℕ)) × (prefix : List ℕ) × (part : List ℕ) × AreFrames frames prefix × IsCutShort part
    × (bytes ≡ prefix ++ part) × (vs ≡ check_results_under p prefix)

-- This is the output of `check` under a profile for all bytes of an input, or for those before a failed read.
abbrev pub IsOutputUnder : Profile → List ℕ → Option ReadFault → Transcript → Type 0
IsOutputUnder p bytes fault output =
    (vs : List (Option Fault)) × AreCheckResults p bytes fault vs × (output ≡ check_output vs fault)

-- This is the output of `check` for all bytes of an input, or for those before a failed read.
abbrev pub IsOutputOfCheck : List ℕ → Option ReadFault → Transcript → Type 0
IsOutputOfCheck bytes fault output = IsOutputUnder Profile.Named bytes fault output

-- At most 4,294,967,295 bytes were checked: there are no more, or no more come before a bad length.
abbrev pub ChecksWithinLimit : List ℕ → Option ReadFault → Type 0
ChecksWithinLimit bytes None = (length bytes ≤ longest_input)
    ⊎ ((frames : List (List ℕ)) × (prefix : List ℕ) × (rest : List ℕ) × (kind : FaultKind) × AreFrames frames prefix
    × (bytes ≡ prefix ++ rest) × (frame_length rest ≡ Err kind) × (length prefix ≤ longest_input))
ChecksWithinLimit bytes (Some f) = Unit {0}

-- All bytes of the input have these results and then others, and no read failed.
abbrev pub HasResultsFirst : Profile → Over Reader → List (Option Fault) → Type 0
HasResultsFirst p file vs = (bytes : List ℕ) × (more : List (Option Fault)) × StreamsInput file bytes None
    × (check_results_under p bytes ≡ vs ++ more)

-- A run of `check` under a profile: a piece is the line of a faulty document, and is written before the next document is read.
abbrev pub check_run_under : Profile → Over Reader → Run
check_run_under p file = record {
  IsOutput = λ output. (bytes : List ℕ) × (fault : Option ReadFault) × StreamsInput file bytes fault
      × ChecksWithinLimit bytes fault × IsOutputUnder p bytes fault output;
  IsNext = λ text piece. (vs : List (Option Fault)) × (f : Fault) × (given : List ℕ)
      × (check_results_under p given ≡ vs ++ Some f ∷ []) × GivesOnly file given × HasResultsFirst p file (vs ++ Some f ∷ [])
      × (text ≡ check_result_lines 0 vs) × (piece ≡ check_result_line (length vs) (Some f));
  IsBegun = λ text. (vs : List (Option Fault)) × (given : List ℕ) × (check_results_under p given ≡ vs)
      × GivesWithinOne file given × HasResultsFirst p file vs × (text ≡ check_result_lines 0 vs);
}

-- a run of `check`
abbrev pub check_run : Over Reader → Run
check_run file = check_run_under Profile.Named file
