use Rattle.std.proofs.Common.{◌∷◌, [], List, ℕ, subst, arith}
use Rattle.std.proofs.lemmas.List.{nil_from_length}
use Rattle.csv.specs.Writing.{default_writer, quoted}
use Rattle.bd_extjson_text.proofs.BufferLemmas.{failed}
use Rattle.bd_wide_dump.proofs.GoingLemmas as g
use Rattle.bd_wide_dump.proofs.CsvLemmas.{escaped_step, escaped_end}
use Rattle.bd_wide_dump.proofs.csv_row.append_quoted.Goals as goal

pub returns-in_err-at-2 : goal.returns-in_err-at-2
returns-in_err-at-2 c =
    let i = c.loop-rest in
    let old = c.args.out.now.items in
    let whole = quoted default_writer c.args.field.now in
    failed c.args.end old c.append_inside.new.out.items whole c.from_residual-in_err-at-2.result c.from_residual-in_err-at-2.ensures.0
    (g.stopped old c.args.end whole i.out.items c.append_inside.new.out.items _ i.at i.invariant c.in_err-at-2.ensures)

pub loop-rest-preserved : goal.loop-rest-preserved
loop-rest-preserved c =
    let i = c.loop-rest in
    let old = c.args.out.now.items in
    let whole = quoted default_writer c.args.field.now in
    let P : List ℕ → Type 0 = λ x. g.Going old c.args.end whole i.out.items i.at x in
    let so_far = subst P (escaped_step i.rest.now (34 ∷ []) 0 c.in-len1-up.len_at_least) i.invariant in
    g.goes_on old c.args.end whole i.out.items c.append_inside.new.out.items _ _ i.at c.in_ok-at-2.at so_far c.in_ok-at-2.ensures.0 c.in_ok-at-2.ensures.1

pub returns : goal.returns
returns c =
    let i = c.loop-rest in
    let old = c.args.out.now.items in
    let whole = quoted default_writer c.args.field.now in
    let P : List ℕ → Type 0 = λ x. g.Going old c.args.end whole i.out.items i.at x in
    let so_far = subst P (escaped_end i.rest.now (34 ∷ []) (nil_from_length i.rest.now (omega (arith, c.in_default.len_below)))) i.invariant in
    g.ended old c.args.end whole i.out.items c.append_few-2.new.out.items (34 ∷ []) i.at c.append_few-2.result so_far c.append_few-2.ensures.text
