-- Why there is no search, and how that is reported.
use Rattle.std.specs.Prelude.{ℕ, List, string_bytes}
use Rattle.bd_io_device.specs.Devices.{Over, Writer}
use Rattle.bd_cursor_request.specs.Refused.{reason_of}
use Rattle.bd_cli_scan.specs.{Run.ReportsMessage, Output.error_line, Output.no_memory, declared.output.Status.Status}
use Rattle.bd_cli_scan.specs.declared.output.Status.TheVariants.{Failed}
use Rattle.bd_cli_find.specs.Options.{ReportsRefusal, refused_text}
use Rattle.bd_cli_find.specs.declared.options.SearchFault.{SearchFault}
use Rattle.bd_cli_find.specs.declared.options.SearchFault.TheVariants as faults

-- The fault has a message with this property, or memory ran out.
abbrev pub ReportsAs : (List ℕ → Type 0) → SearchFault → Type 0
ReportsAs IsMessage faults.NoMemory = Unit {0}
ReportsAs IsMessage (faults.Refused refused) = IsMessage (refused_text (reason_of refused))
ReportsAs IsMessage (faults.Message message) = IsMessage (string_bytes message)

-- The fault was reported.
abbrev pub IsReported : List ℕ → Over Writer → Status → SearchFault → Type 0
IsReported program err status faults.NoMemory = ReportsMessage err (error_line program no_memory) Failed status
IsReported program err status (faults.Refused refused) = ReportsRefusal program err (reason_of refused) status
IsReported program err status (faults.Message message) = ReportsMessage err (error_line program (string_bytes message)) Failed status
