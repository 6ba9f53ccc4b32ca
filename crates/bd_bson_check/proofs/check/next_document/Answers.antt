use Rattle.std.proofs.Common.{◌≡◌, ◌+◌, ◌-◌, ◌∙◌, ◌++◌, sym, ap, take, drop, arith}
use Rattle.std.proofs.lemmas.List.{take-append-drop, drop-drop, length-drop, length-take}
use Rattle.bd_bson_check.proofs.check.next_document.Goals as goal

pub returns-clause-next : goal.returns-clause-next
returns-clause-next c =
    let bytes = c.args.bytes.now in
    let at = c.args.at in
    let n = c.in-Some.frame.length in
    let inside = (rw c.in-Some.is at c.in_ok-frame.ensures.meaning).1 in
    let same : at + n - at ≡ n = omega arith in
    let splits = sym (take-append-drop n (drop at bytes)) ∙ ap (λ x. take n (drop at bytes) ++ x) (drop-drop n at bytes) in
    (take n (drop at bytes), rw same at c.in_ok-document.ensures.spelled, splits, omega (arith, inside, length-take n (drop at bytes), length-drop at bytes), inside)
