use Rattle.bd_bson_dump.specs.Collection.{documents}
use Rattle.bd_bson_dump.proofs.CollectionLemmas.{dump_is}
use Rattle.bd_bson_dump.proofs.collecting.index_dump.Goals as goal

pub returns-clause-dump : goal.returns-clause-dump
unfolding documents
returns-clause-dump c = dump_is c.args.bytes.items c.deref.result.now c.in_ok-starts.starts.items _ c.deref.ensures.value c.in_ok-starts.ensures.dump
