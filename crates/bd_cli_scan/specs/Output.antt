-- The output of a run: the text on standard output, the text on standard error, and the exit status.
use Rattle.std.specs.Prelude.{ℕ, List, [], ◌∷◌, ◌++◌, codes, decimal, Option, Some, None}
use Rattle.std.specs.{Borrow.Bor, List.join_with_byte}
use Rattle.bd_value.specs.Tree.{Doc, doc, fields_of}
use Rattle.bd_io_device.specs.{Devices.read_words}
use Rattle.bd_bson_check.specs.Fault.{Fault, fault_view, fault_words}
use Rattle.bd_extjson_text.specs.Text.{text, quoted}
use Rattle.bd_cli_scan.specs.{declared.input.InputFault.InputFault}
use Rattle.bd_cli_scan.specs.{declared.output.OutputFault.OutputFault, declared.output.Status.Status}
use Rattle.bd_cli_scan.specs.{declared.output.OutputFault.TheVariants.NoMemory}
use Rattle.bd_cli_scan.specs.{declared.output.OutputFault.TheVariants.Unwritten, declared.output.Status.TheVariants.Done}
use Rattle.bd_cli_scan.specs.declared.output.Status.TheVariants.{Failed, Usage}
use Rattle.bd_cli_scan.specs.declared.input.InputFault.TheVariants as faults

-- the output of a run: the text on standard output, the text on standard error by the name of the program,
-- and the exit status
pub record Transcript : Type 0 where
  pub out : List ℕ
  pub err : List ℕ → List ℕ
  pub status : Status

-- the exit status of the process
abbrev pub status_code : Status → ℕ
status_code Done = 0
status_code Failed = 1
status_code Usage = 2

-- ---- the texts

-- documents in canonical Extended JSON, one a line
abbrev pub lines : List Doc → List ℕ
lines [] = []
lines (d ∷ ds) = text (doc (fields_of d)) ++ 10 ∷ lines ds

-- a line of standard error: the name of the program, a colon and a space, the message, a newline
abbrev pub error_line : List ℕ → List ℕ → List ℕ
error_line program message = (program ++ codes ": ") ++ (message ++ 10 ∷ [])

-- where a fault is: its document number, and its byte offset from the start of the dump
abbrev pub location_text : ℕ → ℕ → List ℕ
location_text number offset = codes "document " ++ (decimal number ++ (codes ", byte " ++ decimal offset))

-- the message of a dump fault: where it is, its path,
-- the names joined by dots as a JSON string, and what is wrong
abbrev pub fault_text : ℕ → Fault → List ℕ
fault_text number f =
    location_text number f.offset
    ++ (codes ", path " ++ (quoted (join_with_byte 46 f.path) ++ (codes ": " ++ fault_words f.kind)))

-- the message of a fault of an input
abbrev pub input_words : InputFault → List ℕ
input_words (faults.Unread f) = read_words f
input_words (faults.Faulty f) = fault_text f.document (fault_view f)

-- the message of a run that ran out of memory
abbrev pub no_memory : List ℕ
no_memory = codes "no memory"

-- the message of a run whose write to standard output failed
abbrev pub cannot_write : List ℕ
cannot_write = codes "cannot write"

-- the message for a file that does not open
abbrev pub open_words : List ℕ → List ℕ
open_words file = codes "cannot open " ++ file

-- the message of a run that could not write all of its output
abbrev pub stop_words : OutputFault → List ℕ
stop_words NoMemory = no_memory
stop_words Unwritten = cannot_write

-- the bytes of a borrowed text, if any
abbrev pub reported_bytes : Option (Bor (List ℕ)) → Option (List ℕ)
reported_bytes None = None
reported_bytes (Some text) = Some text.now

-- ---- the output

-- the output if there is only an error
abbrev pub refusal_output : List ℕ → Transcript
refusal_output message = record { out = []; err = λ program. error_line program message; status = Failed }

-- the first line of standard error, if there is a message of what is wrong
abbrev pub wrong_line : List ℕ → Option (List ℕ) → List ℕ
wrong_line program None = []
wrong_line program (Some message) = error_line program message

-- the exit status: done if nothing is wrong, otherwise failed (1)
abbrev pub wrong_status : Option (List ℕ) → Status
wrong_status None = Done
wrong_status (Some message) = Failed

-- the output up to the end of an input, or up to what is wrong in it:
-- the text, the error if any, and the counts
abbrev pub output_before : List ℕ → Option (List ℕ) → List ℕ → Transcript
output_before out wrong counts = record {
  out = out;
  err = λ program. wrong_line program wrong ++ counts;
  status = wrong_status wrong;
}
