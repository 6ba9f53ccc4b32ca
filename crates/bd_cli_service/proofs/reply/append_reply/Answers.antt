use Rattle.std.proofs.lemmas.Result.{on_ok_weaker}
use Rattle.bd_bson_dump.specs.Collection.{documents}
use Rattle.bd_cli_service.proofs.BatchLemmas.{gave_written}
use Rattle.bd_cli_service.proofs.reply.append_reply.Goals as goal

pub returns-in-Gave-clause-ok : goal.returns-in-Gave-clause-ok
returns-in-Gave-clause-ok c =
    on_ok_weaker c.append_batch.result (gave_written (documents c.args.dump.now) c.args.reply.now c.in-Gave.batch c.args.out.now.items
    c.append_batch.new.out.items c.in-Gave.is) c.append_batch.ensures.ok
