use Rattle.std.proofs.Common.{◌∙◌, arith}
use Rattle.bd_extjson_text.proofs.BufferLemmas.{chained, prefix, rises}
use Rattle.bd_wide_dump.proofs.IndentLemmas.{double_done}
use Rattle.bd_wide_dump.proofs.LineLemmas.{kept, on_err}
use Rattle.bd_wide_dump.proofs.indent.indent_wrapped.Goals as goal

pub returns-in_err-at-2-clause-err : goal.returns-in_err-at-2-clause-err
returns-in_err-at-2-clause-err c =
    let two = chained c.args.end c.in_ok-at.at c.put-at.result c.args.out.now.items _ _ _ _ c.in_ok-at.ensures.text.0 c.put-at.ensures.text in
    on_err c.from_residual-in_err-at-2.result
    (prefix c.args.end c.put-at.result c.args.out.now.items _ c.append_digits.new.out.items (omega arith) (c.in_err-at-2.ensures.err ∙ two))

pub returns-in_err-at-3-clause-err : goal.returns-in_err-at-3-clause-err
returns-in_err-at-3-clause-err c =
    let two = chained c.args.end c.in_ok-at.at c.put-at.result c.args.out.now.items _ _ _ _ c.in_ok-at.ensures.text.0 c.put-at.ensures.text in
    let three = chained c.args.end c.put-at.result c.in_ok-at-2.at c.args.out.now.items _ _ _ _ two c.in_ok-at-2.ensures.text.written in
    on_err c.from_residual-in_err-at-3.result
    (prefix c.args.end c.in_ok-at-2.at c.args.out.now.items _ c.append_separator.new.out.items (omega arith) (c.in_err-at-3.ensures.text ∙ three))

pub returns-clause-text : goal.returns-clause-text
returns-clause-text c =
    let d = c.in_ok-at-2.ensures.text in
    double_done c.args.level c.args.bits d.text c.args.out.now.items c.append_opening.new.out.items c.put-at.new.out.items c.append_digits.new.out.items c.append_separator.new.out.items
    c.append_closing.new.out.items c.args.end c.in_ok-at.at c.put-at.result c.in_ok-at-2.at c.in_ok-at-3.at c.append_closing.result d.is (omega arith) c.in_ok-at.ensures.text.0
    c.put-at.ensures.text d.written c.in_ok-at-3.ensures.text.0 c.append_closing.ensures

pub returns-clause-err : goal.returns-clause-err
returns-clause-err c =
    let two = chained c.args.end c.in_ok-at.at c.put-at.result c.args.out.now.items _ _ _ _ c.in_ok-at.ensures.text.0 c.put-at.ensures.text in
    let three = chained c.args.end c.put-at.result c.in_ok-at-2.at c.args.out.now.items _ _ _ _ two c.in_ok-at-2.ensures.text.written in
    let four = chained c.args.end c.in_ok-at-2.at c.in_ok-at-3.at c.args.out.now.items _ _ _ _ three c.in_ok-at-3.ensures.text.0 in
    kept c.args.end c.in_ok-at-3.at c.args.out.now.items c.append_separator.new.out.items c.append_closing.new.out.items _ c.append_closing.result
    (rises c.args.end c.in_ok-at-3.at c.args.out.now.items _ c.append_separator.new.out.items (omega arith) four)
    (prefix c.args.end c.in_ok-at-3.at c.args.out.now.items _ c.append_separator.new.out.items (omega arith) four) c.append_closing.ensures
