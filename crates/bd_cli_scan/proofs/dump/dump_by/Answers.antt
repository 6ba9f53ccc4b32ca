use Rattle.bd_cli_scan.proofs.DumpLemmas as runs
use Rattle.bd_cli_scan.proofs.dump.dump_by.Goals as goal

pub returns-in-Ok-clause-dumps : goal.returns-in-Ok-clause-dumps
returns-in-Ok-clause-dumps g c = runs.prints_scan c.args.program.now (g.P.Pieces.form c.args.pieces.now) (g.R.Input.state c.args.input.now) (g.R.Input.state c.print_all.new.input)
    (g.O.Output.state c.args.out.now) (g.O.Output.state c.print_all.new.out)
    (g.E.Output.state c.args.err.now) (g.E.Output.state c.report_scan.new.err) _ c.in-Ok.scan c.in-Ok.ensures.prints c.report_scan.ensures

pub returns-clause-dumps : goal.returns-clause-dumps
returns-clause-dumps g c = runs.prints_stop c.args.program.now (g.P.Pieces.form c.args.pieces.now) (g.R.Input.state c.args.input.now) (g.R.Input.state c.print_all.new.input)
    (g.O.Output.state c.args.out.now) (g.O.Output.state c.print_all.new.out)
    (g.E.Output.state c.args.err.now) (g.E.Output.state c.report_stop.new.err) _ c.in-Err.fault c.in-Err.ensures.stops c.report_stop.ensures
