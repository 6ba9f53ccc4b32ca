-- What was written of a text.
use Rattle.std.specs.Prelude.{◌≡◌, ℕ, List, Result, Ok}
use Rattle.std.specs.Prelude.{Err}
use Rattle.bd_io_device.specs.Devices.{WriteFailsWithin, Over, TakesText, Writer}
use Rattle.bd_cli_scan.specs.{declared.output.OutputFault.OutputFault}
use Rattle.bd_cli_scan.specs.{declared.output.OutputFault.TheVariants.NoMemory}
use Rattle.bd_cli_scan.specs.{declared.output.OutputFault.TheVariants.Unwritten}

-- Nothing of the text was written, because memory ran out; or a write failed after a prefix of it.
abbrev pub StopsWriting : List ℕ → Over Writer → OutputFault → Type 0
StopsWriting text out NoMemory = out.after ≡ out.before
StopsWriting text out Unwritten = WriteFailsWithin out text

-- The writer took a text that has this property; or memory ran out before one was there, or writing it failed.
abbrev pub WritesSome : {A : Type 0} → (List ℕ → Type 0) → Over Writer → Result A OutputFault → Type 0
WritesSome Is out (Ok x) = (text : List ℕ) × Is text × TakesText out text
WritesSome Is out (Err NoMemory) = out.after ≡ out.before
WritesSome Is out (Err Unwritten) = (text : List ℕ) × Is text × WriteFailsWithin out text

-- The writer took the text, or writing it was stopped.
abbrev pub WritesText : {A : Type 0} → List ℕ → Over Writer → Result A OutputFault → Type 0
WritesText text out (Ok x) = TakesText out text
WritesText text out (Err stopped) = StopsWriting text out stopped
