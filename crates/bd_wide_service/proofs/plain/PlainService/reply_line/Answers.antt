use Rattle.std.proofs.Common.{◌∙◌, ap}
use Rattle.bd_bson_dump.specs.Collection.{bytes_of, documents}
use Rattle.bd_cli_service.specs.Reply.{line_reply, reply_text}
use Rattle.bd_cli_service.specs.Talk.{call_in}
use Rattle.bd_wide_service.proofs.PlacesLemmas.{moves_by}
use Rattle.bd_wide_service.proofs.ServiceLemmas.{on_err, on_ok}
use Rattle.bd_wide_service.specs.ServiceView.{plain_dump}
use Rattle.bd_wide_service.proofs.plain.PlainService.reply_line.Goals as goal

pub returns-clause-replies : goal.returns-clause-replies
returns-clause-replies c =
    let r = c.in_ok-reply.reply in
    let written = ap (λ d. reply_text (line_reply (documents d) r)) (c.dump.ensures ∙ c.in_ok-reply.ensures.dump) in
    on_ok c.write_reply.result
    (λ added. (_, added, (line_reply (documents (plain_dump c.args.self.now)) r, c.in_ok-reply.ensures.answers, written))) c.write_reply.ensures.ok

pub returns-clause-err : goal.returns-clause-err
returns-clause-err c =
    let dump = plain_dump c.args.self.now in
    on_err c.write_reply.result
    (λ same. (same, moves_by _ _ (call_in (bytes_of dump) (documents dump) c.args.line.now) c.in_ok-reply.ensures.answers.moves)) c.write_reply.ensures.err
