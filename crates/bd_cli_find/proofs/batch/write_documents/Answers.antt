use Rattle.std.proofs.lemmas.Result.{err_from_is_err_and}
use Rattle.bd_cli_find.specs.Find.{IsEnded}
use Rattle.bd_cli_find.proofs.FindLemmas as finds
use Rattle.bd_cli_find.proofs.batch.write_documents.Goals as goal

pub returns-in_err-piece-clause-stops : goal.returns-in_err-piece-clause-stops
returns-in_err-piece-clause-stops g c =
    let p = err_from_is_err_and c.from_residual.result c.from_residual.ensures.1 in
    rw (p.1, p.2) (finds.runs_out (IsEnded (g.P.PlacePrinter.is_text c.args.printer.now c.args.dump.now) c.args.end.now) c.args.places.now c.loop-place.place-index
    (g.O.Output.state c.args.out.now) (g.O.Output.state c.loop-place.out) c.loop-place.invariant c.loop-place-test.true)

pub returns-in_err-write_all-clause-stops : goal.returns-in_err-write_all-clause-stops
returns-in_err-write_all-clause-stops g c =
    let r = c.from_residual-in_err-write_all in
    let p = err_from_is_err_and r.result r.ensures.1 in
    rw (p.1, p.2) (finds.fails_next (IsEnded (g.P.PlacePrinter.is_text c.args.printer.now c.args.dump.now) c.args.end.now) c.args.places.now c.loop-place.place-index
    (g.O.Output.state c.args.out.now) (g.O.Output.state c.loop-place.out) c.loop-place.invariant (g.O.Output.state c.write_all.new.writer)
    c.in_ok-piece.piece.now c.loop-place-test.true c.in_ok-piece.ensures c.in_err-write_all.ensures.write_failed)

pub loop-place-preserved : goal.loop-place-preserved
loop-place-preserved g c =
    finds.writes_more (IsEnded (g.P.PlacePrinter.is_text c.args.printer.now c.args.dump.now) c.args.end.now) c.args.places.now c.loop-place.place-index
    (g.O.Output.state c.args.out.now) (g.O.Output.state c.loop-place.out) c.loop-place.invariant (g.O.Output.state c.write_all.new.writer)
    c.in_ok-piece.piece.now c.loop-place-test.true c.in_ok-piece.ensures c.in_ok-write_all.ensures.written
