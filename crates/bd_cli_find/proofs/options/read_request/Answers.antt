use Rattle.std.proofs.Common.{◌≡◌, ◌≢◌, ◌∙◌, ap, rules}
use Rattle.bd_value.specs.View.{pairs}
use Rattle.bd_cursor_request.specs.Request.{request_of}
use Rattle.bd_cli_args.specs.FindOptions.{FindOptions}
use Rattle.bd_cli_find.proofs.OptionsLemmas.{reason_reported}
use Rattle.bd_cursor_request.specs.declared.results.Refused.TheVariants as reasons
use Rattle.bd_cli_find.proofs.options.read_request.Goals as goal

pub returns-in-Err-clause-fault : goal.returns-in-Err-clause-fault
returns-in-Err-clause-fault c =
    let other : c.in-Err.refused ≢ reasons.NoMemory = search rules in
    let skip : c.options.inside.skip ≡ c.args.options.now.skip = ap (λ (o : FindOptions). o.skip) c.options.view_is in
    let limit : c.options.inside.limit ≡ c.args.options.now.limit = ap (λ (o : FindOptions). o.limit) c.options.view_is in
    reason_reported (request_of (pairs c.args.query) (pairs c.args.sort) c.args.options.now.skip c.args.options.now.limit) c.in-Err.refused other
    (rw (c.from-skip.ensures ∙ skip, c.from-limit.ensures ∙ limit) at c.in-Err.ensures.refused)
