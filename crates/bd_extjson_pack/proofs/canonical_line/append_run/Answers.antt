use Rattle.std.proofs.Common.{rules, ◌≡◌, ◌∙◌, ◌++◌, ap, sym, take, drop}
use Rattle.bd_extjson_pack.proofs.CanonicalLemmas.{run_read}
use Rattle.bd_extjson_pack.proofs.canonical_line.append_run.Goals as goal

pub returns : goal.returns
returns c =
    let copied = c.in_ok-plain.ensures in
    let text = c.as_bytes.result.now in
    let run = c.in_ok-rest.field-0-0.now in
    let prefix : run ≡ take c.in_ok-plain.plain text = search rules in
    let remaining : c.in_ok-rest.rest.now ≡ drop c.in_ok-plain.plain text = search rules in
    let read = run_read text c.in_ok-rest.rest.now run c.in_ok-plain.plain copied.0 copied.1 prefix remaining in
    (run, read.0, search rules, sym c.as_bytes.ensures.value ∙ read.1, copied.2 ∙ ap (λ x. c.args.out.now.items ++ x) read.2)
