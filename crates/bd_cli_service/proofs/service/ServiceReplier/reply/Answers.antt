use Rattle.bd_cli_service.proofs.AnswerLemmas.{remaining_by_call}
use Rattle.bd_cli_service.proofs.service.ServiceReplier.reply.Goals as goal

pub returns-clause-out_of_memory : goal.returns-clause-out_of_memory
returns-clause-out_of_memory c =
    remaining_by_call c.args.self.now _ c.args.command.now c.in_ok-reply.reply c.write_reply.result c.in_ok-reply.ensures.answers c.in_ok-reply.ensures.dump
