-- A dump of all types that is read into memory, or why it is not.
use Rattle.std.specs.Prelude.{◌≡◌, ◌⊎◌, List, ℕ, Ok, Err}
use Rattle.bd_cli_scan.specs.declared.input.InputFault.{InputFault}
use Rattle.bd_cli_scan.specs.declared.input.InputFault.TheVariants as faults
use Rattle.bd_cli_scan.specs.Input.{ReadsInput}
use Rattle.bd_io_device.specs.Devices.{Over, Reader}
use Rattle.bd_io_device.specs.declared.reading.ReadFault.TheVariants as reads
use Rattle.bd_wide_copy.specs.Dump.{AreDocuments, IsFirstFault, bytes_of}
use Rattle.bd_wide_copy.specs.declared.dump.WideDump.{WideDump}

-- The whole input was read, and is a dump of documents of all types.
abbrev pub LoadsWide : Over Reader → WideDump → Type 0
LoadsWide file dump = ReadsInput file (Ok (bytes_of dump)) × AreDocuments (bytes_of dump)

-- The input was not read completely; or it was, and memory ran out, or a document has this first fault.
abbrev pub FailsToLoadWide : Over Reader → InputFault → Type 0
FailsToLoadWide file (faults.Unread fault) = ReadsInput file (Err fault)
    ⊎ ((fault ≡ reads.NoMemory) × ((bytes : List ℕ) × ReadsInput file (Ok bytes)))
FailsToLoadWide file (faults.Faulty fault) = (bytes : List ℕ) × ReadsInput file (Ok bytes) × IsFirstFault bytes fault
