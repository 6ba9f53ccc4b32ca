use Rattle.std.proofs.Common.{◌∙◌, ◌++◌, ap, inr}
use Rattle.bd_bson_dump.specs.Collection.{documents}
use Rattle.bd_cursor.specs.SessionView.{dump_of, state_of}
use Rattle.bd_cursor_model.specs.Session.{next_call, reply}
use Rattle.bd_wide_service.proofs.PlacesLemmas.{numbers_are}
use Rattle.bd_wide_service.proofs.ServiceLemmas.{on_err, on_ok}
use Rattle.bd_wide_service.specs.inside.Places.{numbers_text}
use Rattle.bd_wide_service.proofs.places.reply_numbers.Goals as goal

pub returns-clause-ok : goal.returns-clause-ok
returns-clause-ok c =
    let p = c.in_ok-reply.ensures.performs in
    let old = c.args.session.now in
    let r = c.in_ok-reply.reply in
    let same = ap (λ d. numbers_text (documents d) r) (c.dump.ensures ∙ p.unchanged) in
    let is = same ∙ numbers_are (documents (dump_of old)) (reply (state_of old) (next_call c.args.id c.args.batch)) r p.reports p.gives in
    on_ok c.write_numbers.result (λ added. (added ∙ ap (λ x. c.args.text.now.items ++ x) is, p.moves)) c.write_numbers.ensures.ok

pub returns-clause-err : goal.returns-clause-err
returns-clause-err c =
    on_err c.write_numbers.result (λ same. (same, inr (next_call c.args.id c.args.batch, c.in_ok-reply.ensures.performs.moves))) c.write_numbers.ensures.err
