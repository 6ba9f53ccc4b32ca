use Rattle.std.proofs.Common.{◌≡◌, ◌∙◌, ap, option_map}
use Rattle.std.proofs.lemmas.Result.{err_from_is_err_and}
use Rattle.std.specs.Prelude.{codes}
use Rattle.bd_value.specs.Tree.{boolean, leaf}
use Rattle.bd_value.proofs.PrefixLemmas.{prefix_all, prefix_more, prefix_then}
use Rattle.bd_extjson_text.specs.Text.{member, text}
use Rattle.bd_cursor_request.specs.Results.{text_or_null}
use Rattle.bd_cursor_request.specs.Token.{token_text}
use Rattle.bd_cli_service.specs.inside.Reply.{reply_value}
use Rattle.bd_cli_service.proofs.BatchLemmas.{batch_written}
use Rattle.bd_cli_service.proofs.batch.append_batch.Goals as goal

pub returns-in_err-write_member-clause-err : goal.returns-in_err-write_member-clause-err
returns-in_err-write_member-clause-err g c =
    let r = c.from_residual-in_err-write_member in
    let p = err_from_is_err_and r.result r.ensures.1 in
    let begun = prefix_all _ _ c.in_ok-extend_from_slice.ensures.items in
    let listed = prefix_more _ _ _ _ (prefix_more _ _ _ _ begun c.in_ok-write_documents.ensures.ok.2) c.in_ok-push.ensures.items in
    rw p.1 (prefix_then _ _ _ listed c.in_err-write_member.ensures.err)

pub returns-in_err-write_member-2-clause-err : goal.returns-in_err-write_member-2-clause-err
returns-in_err-write_member-2-clause-err g c =
    let r = c.from_residual-in_err-write_member-2 in
    let p = err_from_is_err_and r.result r.ensures.1 in
    let begun = prefix_all _ _ c.in_ok-extend_from_slice.ensures.items in
    let listed = prefix_more _ _ _ _ (prefix_more _ _ _ _ begun c.in_ok-write_documents.ensures.ok.2) c.in_ok-push.ensures.items in
    let ended = prefix_more _ _ _ _ listed c.in_ok-write_member.ensures.ok in
    rw p.1 (prefix_then _ _ _ ended c.in_err-write_member-2.ensures.err)

pub returns-clause-ok : goal.returns-clause-ok
returns-clause-ok g c =
    let wrote = rw c.deref.ensures.value at c.in_ok-write_documents.ensures.ok in
    let token = option_map token_text c.args.batch.now.token in
    let token_is : reply_value c.text_or_null.result ≡ text_or_null token = c.text_or_null.ensures ∙ ap text_or_null (c.as_deref.ensures.value ∙ c.in_ok-token.ensures) in (
      wrote.0,
      wrote.1,
      batch_written wrote.0 (member (codes "end") (text (leaf (boolean c.args.batch.now.end)))) (member (codes "token") (text (text_or_null token)))
          c.args.out.now.items _ _ _ _ _ _ c.in_ok-extend_from_slice.ensures.items wrote.2 c.in_ok-push.ensures.items c.in_ok-write_member.ensures.ok
          (rw token_is at c.in_ok-write_member-2.ensures.ok) c.in_ok-push-2.ensures.items,
    )
