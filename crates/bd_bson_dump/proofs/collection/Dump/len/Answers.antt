use Rattle.std.proofs.Common.{arith}
use Rattle.bd_bson_dump.proofs.CollectionLemmas.{documents_length}
use Rattle.bd_bson_dump.proofs.collection.Dump.len.Goals as goal

pub returns : goal.returns
returns c = omega (arith, documents_length c.args.self.now)
