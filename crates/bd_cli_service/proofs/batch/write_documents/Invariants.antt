use Rattle.std.proofs.Common.{filter, length, take}
use Rattle.std.specs.Prelude.{nat_lt}
use Rattle.std.specs.Io.{StartsWith}
use Rattle.bd_bson_dump.specs.{Collection.documents}
use Rattle.bd_cli_service.proofs.BatchLemmas.{AreWritten}
use Rattle.bd_cli_service.proofs.batch.write_documents.Given as goal

-- the texts so far
abbrev pub invariant-loop-place : goal.invariant-loop-place
invariant-loop-place g l = record {
  written : AreWritten (g.P.PlacePrinter.is_text l.printer l.dump) (filter (λ p. nat_lt p (length (documents l.dump))) (take l.place-index l.places))
      l.later l.fn.out.items l.out.items;
  prefix : StartsWith l.out.items l.fn.out.items;
}
