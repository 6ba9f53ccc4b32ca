use Rattle.std.proofs.Common.{ap, sym, subst, ◌∙◌, arith, take, List, ℕ, Some}
use Rattle.std.proofs.lemmas.List.{nil_from_length}
use Rattle.bd_value.specs.Tree.{doc, fields_of}
use Rattle.bd_path.specs.PathNames.{names_of}
use Rattle.bd_extjson_text.proofs.BufferLemmas.{splits}
use Rattle.bd_wide_dump.specs.{Csv.IsCell, Csv.follow, Fields.requested}
use Rattle.bd_wide_dump.proofs.LineLemmas.{document_of, on_err}
use Rattle.bd_wide_dump.proofs.RowLemmas as w
use Rattle.bd_wide_dump.proofs.csv_row.append_csv_row.Goals as goal

pub write_cell-requires : goal.write_cell-requires
write_cell-requires c = document_of c.args.bytes.now (λ i. (c.type_inv.bytes i).fits) c.requires.sound

pub returns-in_err-at-clause-err : goal.returns-in_err-at-clause-err
returns-in_err-at-clause-err c =
    let i = c.loop-rest in
    on_err c.from_residual-in_err-at.result
    (w.row_stopped c.args.bytes.now (requested c.args.paths.now) c.args.buffer.now.items c.args.end i.buffer.items c.append_separator.new.out.items i.at i.later (requested i.rest.now) i.invariant
    c.in_err-at.ensures.text)

pub returns-in_err-at-2-clause-err : goal.returns-in_err-at-2-clause-err
returns-in_err-at-2-clause-err c =
    let i = c.loop-rest in
    let led = w.row_led c.args.bytes.now (requested c.args.paths.now) c.args.buffer.now.items c.args.end i.buffer.items c.append_separator.new.out.items i.at c.in_ok-at.at i.later
    (requested i.rest.now) i.invariant c.in_ok-at.ensures.text.0 in
    on_err c.from_residual-in_err-at-2.result (splits c.args.end c.in_ok-at.at c.append_field.new.out.items c.append_separator.new.out.items led.0 c.in_err-at-2.ensures ∙ led.1)

pub loop-rest-preserved : goal.loop-rest-preserved
loop-rest-preserved c =
    let i = c.loop-rest in
    let cell = take c.in_ok-size.size c.deref.result.now in
    w.row_goes_on c.args.bytes.now (requested c.args.paths.now) c.args.buffer.now.items c.args.end i.buffer.items c.append_separator.new.out.items c.append_field.new.out.items i.at c.in_ok-at.at
    c.in_ok-at-2.at i.later i.rest.now c.path-item.result cell c.in-len1-up.len_at_least c.path-item.is i.invariant
    (λ d is. subst (λ (x : List ℕ). IsCell (follow (Some (doc (fields_of d))) (names_of c.path-item.result)) (take c.in_ok-size.size x)) (sym c.deref.ensures.value) (c.in_ok-size.ensures.text d is))
    c.in_ok-at.ensures.text.0 c.in_ok-at.ensures.text.1 c.in_ok-at-2.ensures.0 c.in_ok-at-2.ensures.1

pub returns-clause-text : goal.returns-clause-text
returns-clause-text c =
    let i = c.loop-rest in
    let d = document_of c.args.bytes.now (λ i. (c.type_inv.bytes i).fits) c.requires.sound in
    w.row_done c.args.bytes.now (requested c.args.paths.now) c.args.buffer.now.items c.args.end i.buffer.items c.end_row.new.out.items i.at i.later (requested i.rest.now) c.requires.buffer
    c.end_row.result d.0 d.1 (ap requested (nil_from_length i.rest.now (omega (arith, c.in_default.len_below)))) i.invariant c.end_row.ensures

pub returns-clause-err : goal.returns-clause-err
returns-clause-err c =
    let i = c.loop-rest in
    w.row_err c.args.bytes.now (requested c.args.paths.now) c.args.buffer.now.items c.args.end i.buffer.items c.end_row.new.out.items i.at i.later (requested i.rest.now) c.requires.buffer
    c.end_row.result i.invariant c.end_row.ensures
