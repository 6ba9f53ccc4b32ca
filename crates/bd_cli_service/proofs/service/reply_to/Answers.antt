use Rattle.bd_cursor.specs.SessionView.{dump_of}
use Rattle.bd_cli_service.specs.ServiceView.{session_call}
use Rattle.bd_cli_service.proofs.AnswerLemmas.{answered, turned_away}
use Rattle.bd_cli_service.proofs.service.reply_to.Goals as goal

pub returns-in-Ok-clause-answers : goal.returns-in-Ok-clause-answers
returns-in-Ok-clause-answers c =
    answered c.args.session.now c.perform.new.session c.args.line.now (session_call (dump_of c.args.session.now) c.in-Ok.call) c.perform.result
    (c.in-Ok.ensures.call (dump_of c.args.session.now)) c.perform.ensures.performs

pub returns-in-Err-Refused-clause-answers : goal.returns-in-Err-Refused-clause-answers
returns-in-Err-Refused-clause-answers c =
    turned_away c.args.session.now c.args.line.now c.in-Err-Refused.refusal
    (rw c.in-Err-Refused.field-0-is at (c.in-Err-Refused.ensures.fault (dump_of c.args.session.now)))
