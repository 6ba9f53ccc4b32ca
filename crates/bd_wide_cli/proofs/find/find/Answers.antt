use Rattle.std.proofs.Common.{inl, inr, refl}
use Rattle.bd_io_device.specs.Devices.{over}
use Rattle.bd_wide_find.specs.Find.{printing_of, wide_find_run}
use Rattle.bd_wide_layout.specs.{Layout.layout_view, Options.layout_named}
use Rattle.bd_wide_cli.proofs.RunLemmas as runs
use Rattle.bd_wide_cli.proofs.find.find.Goals as goal

pub returns-in-Ok-Some : goal.returns-in-Ok-Some
returns-in-Ok-Some g c =
    let file = over g.R.Input.state c.args.file.now c.find.new.input in
    runs.runs_in (layout_named c.args.layout.now) file (λ layout. wide_find_run (printing_of layout c.args.form) c.args.text.now c.args.options.now file) (layout_view c.in-Ok-Some.layout) (rw c.in-Ok-Some.field-0-is at c.in-Ok-Some.ensures)
    c.find.ensures.found

pub returns-in-Ok-None : goal.returns-in-Ok-None
returns-in-Ok-None g c =
    let file = over g.R.Input.state c.args.file.now c.args.file.now in
    runs.refuses_fields (layout_named c.args.layout.now) file (λ layout. wide_find_run (printing_of layout c.args.form) c.args.text.now c.args.options.now file) refl (g.O.Output.state c.args.out.now)
    (over g.E.Output.state c.args.err.now c.report_error.new.err) c.report_error.result (rw c.in-Ok-None.field-0-is at c.in-Ok-None.ensures) c.report_error.ensures

pub returns-in-Err : goal.returns-in-Err
returns-in-Err g c =
    let file = over g.R.Input.state c.args.file.now c.args.file.now in
    runs.runs_out (layout_named c.args.layout.now) file (λ layout. wide_find_run (printing_of layout c.args.form) c.args.text.now c.args.options.now file) refl (g.O.Output.state c.args.out.now)
    (over g.E.Output.state c.args.err.now c.report_no_memory.new.err) c.report_no_memory.result (λ layout. inr (refl, inl refl)) c.report_no_memory.ensures
