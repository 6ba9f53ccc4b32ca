use Rattle.std.proofs.Common.{drop, ◌∙◌, ap, arith}
use Rattle.std.proofs.lemmas.List.{length-drop}
use Rattle.bd_bson_view.specs.Raw.{value_tree}
use Rattle.bd_extjson_text.specs.Text.{scalar_text, text}
use Rattle.bd_extjson_text.proofs.BufferLemmas.{chained, failed, prefix}
use Rattle.bd_wide_dump.proofs.IndentLemmas.{date_done, date_here, long_wrapped}
use Rattle.bd_wide_dump.proofs.indent.indent_date.Goals as goal

pub there-inner-requires-clause-sound : goal.there-inner-requires-clause-sound
there-inner-requires-clause-sound c =
    let here = drop c.args.start c.args.bytes.now in
    (date_here c.requires.date.0 here (omega (arith, c.requires.short, length-drop c.args.start c.args.bytes.now)) c.requires.date.1).long

pub indent_string-requires-clause-wrapper : goal.indent_string-requires-clause-wrapper
unfolding scalar_text
indent_string-requires-clause-wrapper c =
    let here = drop c.args.start c.args.bytes.now in
    let d = date_here c.requires.date.0 here (omega (arith, c.requires.short, length-drop c.args.start c.args.bytes.now)) c.requires.date.1 in
    long_wrapped d.z _ (ap text (c.there-inner.ensures.meaning d.long ∙ d.long_is))

pub returns-in_err-at-2 : goal.returns-in_err-at-2
returns-in_err-at-2 c = λ s date.
    let two = chained c.args.end c.in_ok-at.at c.put-at.result c.args.out.now.items _ _ _ _ c.in_ok-at.ensures.text.0 c.put-at.ensures.text in
    failed _ _ _ _ c.from_residual-in_err-at-2.result c.from_residual-in_err-at-2.ensures.0
    (prefix c.args.end c.put-at.result c.args.out.now.items _ c.indent_string.new.out.items (omega arith) (c.in_err-at-2.ensures ∙ two))

pub returns : goal.returns
unfolding scalar_text
returns c = λ s date.
    let here = drop c.args.start c.args.bytes.now in
    let d = date_here s here (omega (arith, c.requires.short, length-drop c.args.start c.args.bytes.now)) date in
    date_done c.args.level d.z (scalar_text s) (text (value_tree c.there-inner.result)) c.args.out.now.items c.append_opening.new.out.items c.put-at.new.out.items c.indent_string.new.out.items
    c.append_closing.new.out.items c.args.end c.in_ok-at.at c.put-at.result c.in_ok-at-2.at c.append_closing.result d.is (ap text (c.there-inner.ensures.meaning d.long ∙ d.long_is)) (omega arith)
    c.in_ok-at.ensures.text.0 c.put-at.ensures.text c.in_ok-at-2.ensures.0 c.append_closing.ensures
