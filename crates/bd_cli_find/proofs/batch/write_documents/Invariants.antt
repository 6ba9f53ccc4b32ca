use Rattle.std.proofs.Common.{take}
use Rattle.bd_io_device.specs.Devices.{over}
use Rattle.bd_cli_find.specs.Find.{IsEnded}
use Rattle.bd_cli_find.specs.inside.Find.{WritesPieces}
use Rattle.bd_cli_find.proofs.batch.write_documents.Given as goal

abbrev pub invariant-loop-place : goal.invariant-loop-place
invariant-loop-place g l = WritesPieces (IsEnded (g.P.PlacePrinter.is_text l.printer l.dump) l.end) (take l.place-index l.places) (over g.O.Output.state l.initial.out l.out)
