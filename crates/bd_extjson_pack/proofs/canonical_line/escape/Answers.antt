use Rattle.std.proofs.Common.{rules, ◌≡◌, ◌∙◌, ℕ, List, ap, drop, length, get_or, arith}
use Rattle.bd_extjson_pack.proofs.CanonicalLemmas.{meant}
use Rattle.bd_extjson_pack.proofs.canonical_line.escape.Goals as goal

pub returns : goal.returns
returns c =
    let inside = c.in_ok-inside.inside.now in
    let item = c.in_ok-first.ensures.item.3 in
    let first = c.from-letter.ensures ∙ item.1 0 ∙ ap (λ (x : List ℕ). get_or x 0 0) c.as_bytes.ensures.value in
    let rest : c.in_ok-rest.rest.now ≡ drop 1 inside = search rules in
    meant c.args.text.now inside c.in_ok-rest.rest.now c.from-letter.result (omega arith) c.if-letter-eq0.false c.in_ok-inside.ensures first
    (omega (arith, item.0, ap (λ (x : List ℕ). length x) c.as_bytes.ensures.value)) rest
