use Rattle.std.proofs.Common.{rules, arith}
use Rattle.bd_extjson_pack.proofs.CanonicalLemmas.{positive_read, negative_read}
use Rattle.bd_extjson_pack.proofs.canonical_line.whole_number.Goals as goal

pub returns-in_ok-after_word-in-None : goal.returns-in_ok-after_word-in-None
returns-in_ok-after_word-in-None c =
    let d = c.in_ok-n-in-None.ensures in
    positive_read c.args.text.now c.in_ok-inside.inside.now c.in_ok-n-in-None.rest.now c.in_ok-after_word-in-None.field-0.now c.in_ok-n-in-None.n _
    c.in_ok-inside.ensures d.0 d.1 c.in_ok-after_word-in-None.ensures (search rules)

pub returns-in_ok-after_word-in-Some : goal.returns-in_ok-after_word-in-Some
returns-in_ok-after_word-in-Some c =
    let d = c.in_ok-n-in-Some.ensures in
    negative_read c.args.text.now c.in_ok-inside.inside.now c.in-Some.inside.now c.in_ok-n-in-Some.rest.now c.in_ok-after_word-in-Some.field-0.now
    c.in_ok-n-in-Some.n _ c.in_ok-inside.ensures c.in-Some.ensures d.0 d.1 c.in_ok-after_word-in-Some.ensures (omega arith) (search rules)
