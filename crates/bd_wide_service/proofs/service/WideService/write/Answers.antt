use Rattle.std.proofs.Common.{◌<◌, length, subst}
use Rattle.bd_bson_dump.specs.Collection.{documents}
use Rattle.bd_bson_dump.specs.declared.collection.Dump.{Dump}
use Rattle.bd_cursor.specs.SessionView.{dump_of}
use Rattle.bd_wide_service.proofs.ServiceLemmas.{batch_written, on_ok}
use Rattle.bd_wide_service.proofs.service.WideService.write.Goals as goal

pub write_batch-requires : goal.write_batch-requires
write_batch-requires c = record {
  printable = λ place lt. (
    length (documents (dump_of c.args.self.now.session)),
    c.args.self.now.counted,
    subst (λ (d : Dump). place < length (documents d)) c.dump.ensures lt,
  );
}

pub returns-in-Gave-clause-ok : goal.returns-in-Gave-clause-ok
returns-in-Gave-clause-ok c =
    on_ok c.write_batch.result
    (batch_written c.args.self.now c.dump.result.now c.in-Gave.batch c.args.reply.now c.args.text.now.items c.write_batch.new.out.items c.dump.ensures c.in-Gave.is)
    c.write_batch.ensures.ok
