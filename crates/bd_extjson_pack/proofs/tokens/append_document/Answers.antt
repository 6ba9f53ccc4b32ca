use Rattle.std.proofs.Common.{◌≡◌, [], arith}
use Rattle.std.proofs.lemmas.Result.{err_from_is_err_and}
use Rattle.bd_extjson_pack.proofs.BodyLemmas as bodies
use Rattle.bd_extjson_pack.proofs.tokens.append_document.Goals as goal

pub returns-clause-spelled : goal.returns-clause-spelled
returns-clause-spelled c =
    let g = c.in_ok-append_first.ensures.gives in
    let empty : c.append_first.new.reader ≡ [] = grind arith in
    bodies.packs c.args.text.now c.in_ok-reader.reader c.append_first.new.reader g.0 _ _ c.utf8.text c.in_ok-reader.ensures.ok g.1 empty g.3 c.in_ok-append_first.ensures.within

pub returns-in_err-append_first-clause-refused : goal.returns-in_err-append_first-clause-refused
returns-in_err-append_first-clause-refused c =
    let p = err_from_is_err_and c.from_residual-in_err-append_first.result c.from_residual-in_err-append_first.ensures.1 in
    rw (p.1, p.2) (bodies.unwritten c.args.text.now c.in_ok-reader.reader _ c.in_err-append_first.field-0.0 c.utf8.text c.in_ok-reader.ensures.ok c.in_err-append_first.ensures.gives)
