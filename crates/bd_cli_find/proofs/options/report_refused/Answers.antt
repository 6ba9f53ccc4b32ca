use Rattle.std.proofs.Common.{◌++◌, ◌∙◌, rules}
use Rattle.bd_io_device.specs.Devices.{over}
use Rattle.bd_cursor_request.specs.Refused.{refused_words}
use Rattle.bd_cli_scan.specs.{Run.ReportsMessage, Output.error_line, declared.output.Status.TheVariants.Failed}
use Rattle.bd_cli_find.specs.Options.{refused_option}
use Rattle.bd_cli_find.proofs.OptionsLemmas.{filter_reported, plain_reported}
use Rattle.bd_cli_find.proofs.options.report_refused.Goals as goal

pub returns-in-Ok : goal.returns-in-Ok
returns-in-Ok g c =
    filter_reported c.args.program.now (over g.E.Output.state c.args.err.now c.report_error.new.err) c.args.refused.now _ c.deref.result.now c.report_error.result c.in-BadFilter.is
    (c.deref.ensures ∙ c.in-Ok.ensures) c.report_error.ensures

pub returns-in_default : goal.returns-in_default
returns-in_default g c =
    let err = over g.E.Output.state c.args.err.now c.write_refused.new.err in
    let reported : ReportsMessage err (error_line c.args.program.now (refused_option c.args.refused.now ++ refused_words c.args.refused.now)) Failed c.status_of.result = search rules in
    plain_reported c.args.program.now err c.args.refused.now c.status_of.result c.in_default.not-BadFilter reported
