-- A dump that is read into memory, or why it is not.
use Rattle.std.specs.Prelude.{◌≡◌, ◌<◌, ◌⊎◌, ℕ, List, length, Some, None, Ok, Err, slice_index}
use Rattle.bd_value.specs.{Tree.Doc}
use Rattle.bd_io_device.specs.Devices.{Over, Reader, Writer}
use Rattle.bd_bson_check.specs.{Dump.IsDumpScan, Fault.fault_view, declared.fault.Fault.Fault}
use Rattle.bd_cli_scan.specs.{declared.input.InputFault.InputFault, declared.output.Status.Status}
use Rattle.bd_cli_scan.specs.declared.output.Status.TheVariants.{Failed}
use Rattle.bd_cli_scan.specs.Input.{ReadsInput}
use Rattle.bd_cli_scan.specs.Output.{error_line, input_words, no_memory}
use Rattle.bd_cli_scan.specs.Run.{ReportsMessage}
use Rattle.bd_cli_scan.specs.declared.input.InputFault.TheVariants as faults
use Rattle.bd_io_device.specs.declared.reading.ReadFault.TheVariants as reads

-- The whole input was read, and is a dump of these documents.
abbrev pub LoadsDump : Over Reader → List ℕ → List Doc → Type 0
LoadsDump file bytes ds = ReadsInput file (Ok bytes) × IsDumpScan ds None bytes

-- The input was not read completely; or it was, and memory ran out, or a document has this first fault.
abbrev pub FailsToLoad : Over Reader → InputFault → Type 0
FailsToLoad file (faults.Unread fault) = ReadsInput file (Err fault) ⊎ ((fault ≡ reads.NoMemory)
    × ((bytes : List ℕ) × ReadsInput file (Ok bytes) × ((i : ℕ) → slice_index bytes i < 256)))
FailsToLoad file (faults.Faulty fault) = (bytes : List ℕ) × (ds : List Doc) × ReadsInput file (Ok bytes)
    × IsDumpScan ds (Some (fault_view fault)) bytes × (fault.document ≡ length ds)

-- The fault was reported; for that of a document it may say instead that memory ran out.
abbrev pub ReportsLoadFault : List ℕ → Over Writer → Status → InputFault → Type 0
ReportsLoadFault program err status fault = ReportsMessage err (error_line program (input_words fault)) Failed status
    ⊎ ((f : Fault) × (fault ≡ faults.Faulty f) × ReportsMessage err (error_line program no_memory) Failed status)
