use Rattle.std.proofs.Common.{◌≡◌, ℕ, List, ◌++◌, map, take, subst, ap, ◌∙◌, arith}
use Rattle.std.proofs.lemmas.List.{nil_from_length}
use Rattle.csv.specs.Writing.{default_writer, field_text, row_body}
use Rattle.bd_path.specs.declared.path.Path.{Path}
use Rattle.bd_path.specs.PathNames.{path_text}
use Rattle.bd_extjson_text.proofs.BufferLemmas.{failed}
use Rattle.bd_wide_dump.specs.Csv.{header}
use Rattle.bd_wide_dump.proofs.GoingLemmas as g
use Rattle.bd_wide_dump.proofs.RowLemmas as w
use Rattle.bd_wide_dump.proofs.csv_row.append_csv_header.Goals as goal

pub returns-in_err-at : goal.returns-in_err-at
returns-in_err-at c =
    let i = c.loop-rest in
    let old = c.args.buffer.now.items in
    failed c.args.end old c.append_separator.new.out.items (header c.args.paths.now) c.from_residual.result c.from_residual.ensures.0
    (g.stopped old c.args.end (row_body default_writer (map path_text c.args.paths.now)) i.buffer.items c.append_separator.new.out.items _ i.at i.invariant c.in_err-at.ensures.text)

pub returns-in_err-at-2 : goal.returns-in_err-at-2
returns-in_err-at-2 c =
    let i = c.loop-rest in
    let old = c.args.buffer.now.items in
    let body = row_body default_writer (map path_text c.args.paths.now) in
    let P : List ℕ → Type 0 = λ x. g.Going old c.args.end body i.buffer.items i.at x in
    let so_far = subst P (w.path_to_come i.later i.rest.now c.path-item.result c.in-len1-up.len_at_least c.path-item.is) i.invariant in
    let led = g.goes_on old c.args.end body i.buffer.items c.append_separator.new.out.items _ _ i.at c.in_ok-at.at so_far c.in_ok-at.ensures.text.0 c.in_ok-at.ensures.text.1 in
    failed c.args.end old c.append_field.new.out.items (header c.args.paths.now) c.from_residual-in_err-at-2.result c.from_residual-in_err-at-2.ensures.0
    (g.stopped old c.args.end body c.append_separator.new.out.items c.append_field.new.out.items _ c.in_ok-at.at led c.in_err-at-2.ensures)

pub loop-rest-preserved : goal.loop-rest-preserved
loop-rest-preserved c =
    let i = c.loop-rest in
    let old = c.args.buffer.now.items in
    let body = row_body default_writer (map path_text c.args.paths.now) in
    let P : List ℕ → Type 0 = λ x. g.Going old c.args.end body i.buffer.items i.at x in
    let so_far = subst P (w.path_to_come i.later i.rest.now c.path-item.result c.in-len1-up.len_at_least c.path-item.is) i.invariant in
    let led = g.goes_on old c.args.end body i.buffer.items c.append_separator.new.out.items _ _ i.at c.in_ok-at.at so_far c.in_ok-at.ensures.text.0 c.in_ok-at.ensures.text.1 in
    let text : c.as_bytes.result.now ≡ path_text c.path-item.result = c.as_bytes.ensures.value ∙ c.as_str.ensures in
    let put = c.in_ok-at-2.ensures.0 ∙ ap (λ (x : List ℕ). take c.in_ok-at.at c.append_separator.new.out.items ++ field_text default_writer x) text in
    g.goes_on old c.args.end body c.append_separator.new.out.items c.append_field.new.out.items _ _ c.in_ok-at.at c.in_ok-at-2.at led put c.in_ok-at-2.ensures.1

pub returns : goal.returns
returns c =
    let i = c.loop-rest in
    let old = c.args.buffer.now.items in
    let cells = map path_text c.args.paths.now in
    let P : List Path → Type 0 = λ x. g.Going old c.args.end (row_body default_writer cells) i.buffer.items i.at (w.to_come i.later (map path_text x)) in
    let so_far = subst P (nil_from_length i.rest.now (omega (arith, c.in_default.len_below))) i.invariant in
    w.row_ended cells i.later old i.buffer.items c.end_row.new.out.items c.args.end i.at c.end_row.result c.requires so_far c.end_row.ensures
