use Rattle.std.proofs.Common.{arith}
use Rattle.bd_bson_check.proofs.DumpLemmas.{found_document}
use Rattle.bd_cli_scan.proofs.dump.NamedLinesPiecesTextBuffer.piece.Goals as goal

pub whole-requires : goal.whole-requires
whole-requires c = found_document c.requires.0 c.args.document.now (λ i. omega (arith, c.type_inv.document i)) c.requires.1
