use Rattle.bd_value.proofs.PrefixLemmas.{prefix_all, prefix_more, prefix_then}
use Rattle.std.proofs.lemmas.Result.{on_err_weaker}
use Rattle.bd_cli_service.proofs.member.write_member.Goals as goal

pub returns-clause-err : goal.returns-clause-err
returns-clause-err c =
    let named = prefix_more _ _ _ _ (prefix_all _ _ c.in_ok-push.ensures.items) c.in_ok-write_string.ensures.ok in
    let colon = prefix_more _ _ _ _ named c.in_ok-push-2.ensures.items in
    on_err_weaker c.write_field.result (λ later. prefix_then _ _ _ colon later) c.write_field.ensures.err
