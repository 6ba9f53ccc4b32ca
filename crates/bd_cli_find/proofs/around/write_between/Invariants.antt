use Rattle.std.proofs.Common.{◌≡◌, take}
use Rattle.bd_io_device.specs.Devices.{over}
use Rattle.bd_cli_find.specs.Find.{IsPart, around_of, before_document, document_parts}
use Rattle.bd_cli_find.specs.inside.Find.{WritesPieces}
use Rattle.bd_cli_find.proofs.AroundLemmas.{is_first}
use Rattle.bd_cli_find.proofs.around.write_between.Given as goal

abbrev pub invariant-loop-place : goal.invariant-loop-place
invariant-loop-place g l = record {
  wrote : WritesPieces (IsPart (g.P.PlacePrinter.is_text l.printer l.dump) (around_of l.around)) (document_parts (take l.place-index l.places))
      (over g.O.Output.state l.initial.out l.out);
  before : l.before ≡ before_document (around_of l.around) (is_first l.place-index);
}
