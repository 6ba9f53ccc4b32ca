use Rattle.std.proofs.Common.{◌∙◌, ◌++◌}
use Rattle.std.specs.Prelude.{codes}
use Rattle.bd_extjson_text.proofs.BufferLemmas.{chained, failed, prefix, then}
use Rattle.bd_wide_dump.specs.RelaxedDate.{instant_text}
use Rattle.bd_wide_dump.proofs.relaxed.append_instant.Goals as goal

pub returns-in_err-at-2 : goal.returns-in_err-at-2
returns-in_err-at-2 c =
    failed _ _ _ _ c.from_residual-in_err-at-2.result c.from_residual-in_err-at-2.ensures.0
    (prefix c.args.end c.in_ok-at.at c.args.out.now.items _ c.append_plain_instant.new.out.items c.requires.1 (c.in_err-at-2.ensures ∙ c.in_ok-at.ensures.text.0))

pub returns : goal.returns
returns c =
    let lead = codes "{\"$date\":\"" in
    let instant = instant_text c.args.day c.args.milliseconds in
    let two = chained c.args.end c.in_ok-at.at c.in_ok-at-2.at c.args.out.now.items c.append_few.new.out.items c.append_plain_instant.new.out.items lead instant c.in_ok-at.ensures.text.0
    c.in_ok-at-2.ensures.0 in
    then c.args.end c.in_ok-at-2.at c.args.out.now.items c.append_plain_instant.new.out.items c.append_few-2.new.out.items (lead ++ instant) (codes "\"}") c.append_few-2.result
    c.requires.1 two c.append_few-2.ensures.text
