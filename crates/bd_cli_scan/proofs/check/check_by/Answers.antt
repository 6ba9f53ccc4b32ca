use Rattle.std.proofs.Common.{rules, Some, ◌≡◌}
use Rattle.bd_cli_scan.specs.declared.input.InputFault.TheVariants as inputs
use Rattle.bd_cli_scan.proofs.CheckLemmas as checks_each
use Rattle.bd_cli_scan.proofs.check.check_by.Goals as goal

pub returns-in-None-clause-checks : goal.returns-in-None-clause-checks
returns-in-None-clause-checks g c =
    let scan = c.in-Ok.scan in
    checks_each.prints_whole c.args.program.now _ (g.R.Input.state c.args.input.now) (g.R.Input.state c.scan_documents.new.input) (g.O.Output.state c.args.out.now)
    (g.O.Output.state c.scan_documents.new.out) (g.E.Output.state c.args.err.now) (g.E.Output.state c.report_findings.new.err) _ scan.count scan.bad
    (rw c.in-None.is at c.in-Ok.ensures.scans) c.report_findings.ensures

pub returns-in-Some-Faulty-clause-checks : goal.returns-in-Some-Faulty-clause-checks
returns-in-Some-Faulty-clause-checks g c =
    let scan = c.in-Ok.scan in
    let ended : scan.fault ≡ Some (inputs.Faulty c.in-Some-Faulty.field-0-0) = search rules in
    checks_each.prints_faulty c.args.program.now _ (g.R.Input.state c.args.input.now) (g.R.Input.state c.scan_documents.new.input) (g.O.Output.state c.args.out.now)
    (g.O.Output.state c.scan_documents.new.out) (g.E.Output.state c.args.err.now) (g.E.Output.state c.report_findings-in-Some-Faulty.new.err) _ scan.count scan.bad c.in-Some-Faulty.field-0-0
    (rw ended at c.in-Ok.ensures.scans) c.report_findings-in-Some-Faulty.ensures

pub returns-in-Ok-clause-checks : goal.returns-in-Ok-clause-checks
returns-in-Ok-clause-checks g c =
    let scan = c.in-Ok.scan in
    let ended : scan.fault ≡ Some (inputs.Unread c.in-Some-Unread.fault) = search rules in
    checks_each.prints_unread c.args.program.now _ (g.R.Input.state c.args.input.now) (g.R.Input.state c.scan_documents.new.input) (g.O.Output.state c.args.out.now)
    (g.O.Output.state c.scan_documents.new.out) (g.E.Output.state c.args.err.now) (g.E.Output.state c.report_findings-in-Some-Unread.new.err) _ scan.count scan.bad c.in-Some-Unread.fault
    (rw ended at c.in-Ok.ensures.scans) (rw c.words.ensures at c.report_findings-in-Some-Unread.ensures)

pub returns-clause-checks : goal.returns-clause-checks
returns-clause-checks g c =
    checks_each.prints_stop c.args.program.now _ (g.R.Input.state c.args.input.now) (g.R.Input.state c.scan_documents.new.input) (g.O.Output.state c.args.out.now)
    (g.O.Output.state c.scan_documents.new.out) (g.E.Output.state c.args.err.now) (g.E.Output.state c.report_stop.new.err) _ c.in-Err.fault c.in-Err.ensures.stops c.report_stop.ensures
