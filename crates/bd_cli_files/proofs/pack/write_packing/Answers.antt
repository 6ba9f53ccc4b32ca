use Rattle.bd_cli_files.proofs.PackLemmas as packs
use Rattle.bd_cli_files.proofs.pack.write_packing.Goals as goal

pub returns-in-Ok : goal.returns-in-Ok
returns-in-Ok g c text packed =
    packs.prints_packing g.P.LinePacker.form c.args.program.now text c.args.packing.now packed (g.O.Output.state c.args.out.now) (g.O.Output.state c.write_all.new.writer)
    (g.E.Output.state c.args.err.now) (g.E.Output.state c.report_packing.new.err) c.report_packing.result
    (rw c.deref.ensures.value at c.in-Ok.ensures.written) c.report_packing.ensures

pub returns-in-Err : goal.returns-in-Err
returns-in-Err g c text packed =
    packs.prints_unwritten g.P.LinePacker.form c.args.program.now text c.args.packing.now packed (g.O.Output.state c.args.out.now) (g.O.Output.state c.write_all.new.writer)
    (g.E.Output.state c.args.err.now) (g.E.Output.state c.report_unwritten.new.err) c.report_unwritten.result
    (rw c.deref.ensures.value at c.in-Err.ensures.write_failed) c.report_unwritten.ensures
