use Rattle.std.proofs.Common.{[], inl, refl}
use Rattle.bd_io_device.specs.Devices.{over, zero_reads}
use Rattle.bd_wide_find.specs.Find.{IsRefused, printing_of}
use Rattle.bd_wide_layout.specs.Layout.{layout_view}
use Rattle.bd_wide_find.specs.Find as cases
use Rattle.bd_wide_find.specs.inside.Question.{ReadsOptions}
use Rattle.bd_wide_find.proofs.{SearchLemmas.accepted, FindLemmas.load_reported, FindLemmas.reports_fault}
use Rattle.bd_wide_find.proofs.find.find.Goals as goal

pub returns-in-Err-clause-found : goal.returns-in-Err-clause-found
returns-in-Err-clause-found g c =
    let file = over g.R.Input.state c.args.input.now c.args.input.now in
    reports_fault (printing_of (layout_view c.args.layout.now) c.args.form) c.args.text.now c.args.options.now file (g.O.Output.state c.args.out.now) (g.E.Output.state c.args.err.now) (g.E.Output.state c.report_fault.new.err)
    c.report_fault.result (IsRefused c.args.text.now c.args.options.now) (λ message is. cases.refused message is refl) (λ message is. refl) (inl refl) c.in-Err.fault
    c.in-Err.ensures.fault c.report_fault.ensures

pub returns-in-Err-clause-stops_reading : goal.returns-in-Err-clause-stops_reading
returns-in-Err-clause-stops_reading g c = (0, [], c.args.input.now, zero_reads c.args.input.now, inl refl)

pub returns-in-Ok-load_wide-clause-found : goal.returns-in-Ok-load_wide-clause-found
returns-in-Ok-load_wide-clause-found g c =
    let requests : ReadsOptions c.args.text.now c.args.options.now c.in-Ok.question =
    record { read = c.in-Ok.ensures.query; requested = c.in-Ok.ensures.search; fits = c.in-Ok.ensures.fits } in
    c.answer.ensures c.args.text.now (over g.R.Input.state c.args.input.now c.load_wide.new.input) requests c.in-Ok-load_wide.ensures.loaded.0

pub returns-in-Err-load_wide-clause-found : goal.returns-in-Err-load_wide-clause-found
returns-in-Err-load_wide-clause-found g c =
    let requests : ReadsOptions c.args.text.now c.args.options.now c.in-Ok.question =
    record { read = c.in-Ok.ensures.query; requested = c.in-Ok.ensures.search; fits = c.in-Ok.ensures.fits } in
    load_reported (printing_of (layout_view c.args.layout.now) c.args.form) c.args.text.now c.args.options.now (over g.R.Input.state c.args.input.now c.load_wide.new.input) (g.O.Output.state c.args.out.now)
    (g.E.Output.state c.args.err.now) (g.E.Output.state c.report_load_fault.new.err) c.report_load_fault.result
    (accepted c.args.text.now c.args.options.now c.in-Ok.question requests) c.in-Err-load_wide.fault c.in-Err-load_wide.ensures.fault c.report_load_fault.ensures
