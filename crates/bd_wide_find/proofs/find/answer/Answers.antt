use Rattle.std.proofs.Common.{rules, [], ◌≡◌, ap, arith, vec_len, ℕ, List, length, ◌==◌, sym, ◌∙◌, true≢false}
use Rattle.std.proofs.lemmas.{Bool.Decides.nat_tests, List.nil_from_length}
use Rattle.bd_cli_args.specs.FindOptions.{FindOptions}
use Rattle.bd_wide_copy.specs.Dump.{bytes_of}
use Rattle.bd_value.specs.{Tree.fields_of, View.pairs}
use Rattle.bd_wide_query.specs.Types.{longs_of}
use Rattle.bd_wide_number.specs.declared.number.Number.{Number}
use Rattle.bd_wide_find.specs.Find.{HasValues, printing_of}
use Rattle.bd_wide_layout.specs.Layout.{layout_view}
use Rattle.bd_wide_find.proofs.SearchLemmas.{by_value_run, can_print_copied, few_copied, plain_run, refused_run}
use Rattle.bd_wide_find.proofs.find.answer.Goals.{else-is_empty-via-then-is_empty+else-is_plain, else-is_empty-via-else-is_empty}
use Rattle.bd_wide_find.proofs.find.answer.Goals as goal

pub returns-then-is_plain : goal.returns-then-is_plain
returns-then-is_plain g c = λ text file requests read.
    let (ds, dump) = c.is_plain.ensures.0 c.if-is_plain.true in
    let none : c.args.question.query.numbers.items ≡ [] = search (rules, nat_tests, nil_from_length) in
    plain_run text c.args.options.now c.args.question requests (printing_of (layout_view c.args.layout.now) c.args.form) c.args.program.now file (bytes_of c.args.dump) read ds none dump (c.answer_plain.ensures ds dump)

pub print_form-requires-clause-within_limit : goal.print_form-requires-clause-within_limit
print_form-requires-clause-within_limit g c =
    let s = c.in-Ok.ensures.coded in
    few_copied (longs_of (fields_of (pairs c.args.question.query.texts))) (bytes_of c.args.dump) s.table c.in-Ok.field-0.copy s.ds s.has.are s.copies

pub print_form-requires-clause-texts : goal.print_form-requires-clause-texts
print_form-requires-clause-texts g c =
    let s = c.in-Ok.ensures.coded in
    can_print_copied (longs_of (fields_of (pairs c.args.question.query.texts))) (bytes_of c.args.dump) s.table c.in-Ok.field-0.copy s.ds s.has.are s.copies

pub print_form-requires-clause-bytes : goal.print_form-requires-clause-bytes
print_form-requires-clause-bytes g c =
    let s = c.in-Ok.ensures.coded in
    can_print_copied (longs_of (fields_of (pairs c.args.question.query.texts))) (bytes_of c.args.dump) s.table c.in-Ok.field-0.copy s.ds s.has.are s.copies

pub returns-in-Ok : goal.returns-in-Ok
returns-in-Ok g c = λ text file requests read.
    let batch : c.options.inside.batch ≡ c.args.options.now.batch = ap (λ (o : FindOptions). o.batch) c.options.view_is in
    let values : HasValues c.args.question.query.numbers.items (bytes_of c.args.dump) = elim c.else-is_empty.branch [
      | else-is_empty-via-then-is_empty+else-is_plain w ↦ λ none ds dump. true≢false (sym (w.is_plain.ensures.1 (ds, dump)) ∙ w.if-is_plain.false)
      | else-is_empty-via-else-is_empty w ↦ λ none ds dump.
          let zero : vec_len c.args.question.query.numbers ≡ 0 =
          omega (arith, c.args.question.query.numbers.ok.0, ap (λ (xs : List Number). length xs) none) in
          true≢false (sym (ap (λ (n : ℕ). n == 0) zero) ∙ sym c.is_empty.ensures ∙ w.if-is_empty.false)
    ] in
    by_value_run text c.args.options.now c.args.question requests (printing_of (layout_view c.args.layout.now) c.args.form) c.args.program.now file (bytes_of c.args.dump) read c.in-Ok.field-0 c.in-Ok.ensures.coded
    values c.options.inside.batch batch c.print_form.ensures

pub returns : goal.returns
returns g c = λ text file requests read.
    let values : HasValues c.args.question.query.numbers.items (bytes_of c.args.dump) = elim c.else-is_empty.branch [
      | else-is_empty-via-then-is_empty+else-is_plain w ↦ λ none ds dump. true≢false (sym (w.is_plain.ensures.1 (ds, dump)) ∙ w.if-is_plain.false)
      | else-is_empty-via-else-is_empty w ↦ λ none ds dump.
          let zero : vec_len c.args.question.query.numbers ≡ 0 =
          omega (arith, c.args.question.query.numbers.ok.0, ap (λ (xs : List Number). length xs) none) in
          true≢false (sym (ap (λ (n : ℕ). n == 0) zero) ∙ sym c.is_empty.ensures ∙ w.if-is_empty.false)
    ] in
    refused_run text c.args.options.now c.args.question requests (printing_of (layout_view c.args.layout.now) c.args.form) c.args.program.now file (bytes_of c.args.dump) read values (g.O.Output.state c.args.out.now)
    (g.E.Output.state c.args.err.now) (g.E.Output.state c.report_fault.new.err) c.report_fault.result c.in-Err.fault c.in-Err.ensures.fault c.report_fault.ensures
