use Rattle.std.proofs.Common.{◌∙◌, arith}
use Rattle.bd_extjson_text.proofs.BufferLemmas.{failed, prefix, chained, then}
use Rattle.bd_extjson_text.proofs.TextLemmas.{written-regex}
use Rattle.bd_extjson_text.proofs.scalar.append_regex.Goals as goal

pub returns-in_err-at-2 : goal.returns-in_err-at-2
returns-in_err-at-2 c = failed _ _ _ _ c.from_residual-in_err-at-2.result c.from_residual-in_err-at-2.ensures.0
    (prefix c.args.end c.in_ok-at.at c.args.out.now.items _ c.append_led-2.new.out.items (omega arith) (c.in_err-at-2.ensures ∙ c.in_ok-at.ensures.0))

pub returns : goal.returns
returns c =
    let both = chained c.args.end c.in_ok-at.at c.in_ok-at-2.at c.args.out.now.items _ _ _ _ c.in_ok-at.ensures.0 c.in_ok-at-2.ensures.0 in
    rw (← written-regex c.args.pattern.now c.args.options.now)
    (then c.args.end c.in_ok-at-2.at c.args.out.now.items _ c.append_few.new.out.items _ _ c.append_few.result (omega arith) both c.append_few.ensures.text)
