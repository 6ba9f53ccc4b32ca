use Rattle.bd_bson_check.proofs.DumpLemmas.{found_document}
use Rattle.std.proofs.Common.{arith}
use Rattle.bd_bson_check.proofs.check.check_document.Goals as goal

pub whole-requires : goal.whole-requires
whole-requires c = found_document c.args.base c.args.bytes.now (λ i. omega (arith, c.type_inv.bytes i)) c.in_ok-check_bytes.ensures
