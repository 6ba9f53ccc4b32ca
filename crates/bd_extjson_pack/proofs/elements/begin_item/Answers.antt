use Rattle.std.proofs.Common.{arith, ◌≡◌, ◌≤◌, ◌-◌, ◌+◌, ◌++◌, ◌∷◌, [], length, ap, ◌∙◌}
use Rattle.std.specs.Prelude.{decimal}
use Rattle.std.proofs.lemmas.Fmt.{length-decimal-le}
use Rattle.std.proofs.lemmas.Result.{IfOk-weaker as if_ok_then}
use Rattle.bd_extjson_pack.proofs.BodyLemmas.{digits_label}
use Rattle.bd_extjson_pack.proofs.elements.begin_item.Goals as goal

pub write_digits-start-requires : goal.write_digits-start-requires
write_digits-start-requires c = (length-decimal-le 20 c.from.result (omega arith) (grind arith) (grind arith), omega arith)

pub overflow_sub-start : goal.overflow_sub-start
overflow_sub-start c =
    let short : length (decimal c.from.result) ≤ 19 = length-decimal-le 19 c.from.result (omega arith) (grind arith) (grind arith) in
    let start = c.write_digits-start.ensures.start in
    omega arith

pub returns-clause-ok : goal.returns-clause-ok
returns-clause-ok c =
    let short : length (decimal c.from.result) ≤ 19 = length-decimal-le 19 c.from.result (omega arith) (grind arith) (grind arith) in
    let written = c.write_digits-start.ensures in
    let start = c.write_digits-start.result in
    let before : (start - 1) + 1 ≡ start = omega (arith, written.start, short) in
    let label = digits_label c.write_digits-start.new.buf _ (start - 1) start c.from.result before written.start written.written in
    let same = ap (λ n. label.0 ∷ (decimal n ++ 0 ∷ [])) c.from.ensures in
    if_ok_then c.begin_element.result _ _ (λ at put. (put.0, (label.0, put.1 (decimal c.args.index) label.0 0 (label.1 ∙ same)))) c.begin_element.ensures.ok
