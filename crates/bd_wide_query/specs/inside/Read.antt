-- What the reading of two texts came to: used only in proofs.
use Rattle.std.specs.Prelude.{◌≡◌, ◌≢◌, Result, Ok, Err}
use Rattle.bd_value.specs.{Tree.Doc, View.pairs}
use Rattle.bd_value.specs.declared.document.Document.{Document}
use Rattle.bd_extjson_fault.specs.declared.json_fault.JsonFault.{JsonFault}
use Rattle.bd_extjson_fault.specs.declared.json_fault.JsonFaultKind.TheVariants.{NoMemory}

-- Both documents or the fault that they have are these, unless memory ran out.
abbrev pub ReadsBoth : Result (Doc × Doc) JsonFault → Result (Document × Document) JsonFault → Type 0
ReadsBoth wanted (Ok d) = wanted ≡ Ok (pairs d.0, pairs d.1)
ReadsBoth wanted (Err fault) = fault.kind ≢ NoMemory → wanted ≡ Err fault
