use Rattle.std.proofs.Common.{ℕ, List, subst, ◌∙◌}
use Rattle.bd_io_device.specs.Devices.{over}
use Rattle.bd_cli_find.specs.Find.{around_documents, around_of, parts}
use Rattle.bd_cli_find.specs.inside.Find.{StopsAmong, WritesPieces}
use Rattle.bd_cli_find.proofs.FindLemmas as finds
use Rattle.bd_cli_find.proofs.around.print_batch.Goals as goal

pub returns-in-Ok : goal.returns-in-Ok
returns-in-Ok g c = λ size cursor is.
    let printing = around_documents (g.P.PlacePrinter.is_text c.args.printer.now c.args.dump.now) (around_of c.args.around.now) in
    let wrote = subst (λ (ps : List ℕ). WritesPieces printing.IsPiece (parts ps) (over g.O.Output.state c.args.out.now c.write_around.new.out))
    (c.deref.ensures.value ∙ is.places) c.in-Ok.ensures.wrote in
    finds.batch_printed c.args.program.now (g.O.Output.state c.args.out.now) (g.O.Output.state c.write_around.new.out) (g.E.Output.state c.args.err.now)
    (g.E.Output.state c.report_batch.new.err) _ printing size cursor wrote (rw (is.places, is.ends, is.token) at c.report_batch.ensures)

pub returns-in-Err : goal.returns-in-Err
returns-in-Err g c = λ size cursor is.
    let printing = around_documents (g.P.PlacePrinter.is_text c.args.printer.now c.args.dump.now) (around_of c.args.around.now) in
    let stops = subst (λ (ps : List ℕ). StopsAmong printing.IsPiece (parts ps) (over g.O.Output.state c.args.out.now c.write_around.new.out) c.in-Err.fault)
    (c.deref.ensures.value ∙ is.places) c.in-Err.ensures.stops in
    finds.batch_stopped c.args.program.now (g.O.Output.state c.args.out.now) (g.O.Output.state c.write_around.new.out) (g.E.Output.state c.args.err.now)
    (g.E.Output.state c.report_stop.new.err) _ printing size cursor c.in-Err.fault stops c.report_stop.ensures
