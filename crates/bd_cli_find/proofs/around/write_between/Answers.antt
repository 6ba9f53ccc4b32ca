use Rattle.std.proofs.Common.{ap, sym}
use Rattle.std.proofs.lemmas.Result.{err_from_is_err_and}
use Rattle.bd_cli_find.specs.Find.{IsPart, around_of, before_document}
use Rattle.bd_cli_find.proofs.AroundLemmas as arounds
use Rattle.bd_cli_find.proofs.around.write_between.Goals as goal

pub returns-in_err-piece-clause-stops : goal.returns-in_err-piece-clause-stops
returns-in_err-piece-clause-stops g c =
    let p = err_from_is_err_and c.from_residual.result c.from_residual.ensures.1 in
    rw (p.1, p.2) (arounds.runs_out_between (IsPart (g.P.PlacePrinter.is_text c.args.printer.now c.args.dump.now) (around_of c.args.around.now)) c.args.places.now
    c.loop-place.place-index (g.O.Output.state c.args.out.now) (g.O.Output.state c.loop-place.out) c.loop-place.invariant.wrote c.loop-place-test.true)

pub returns-in_err-write_all-clause-stops : goal.returns-in_err-write_all-clause-stops
returns-in_err-write_all-clause-stops g c =
    let r = c.from_residual-in_err-write_all in
    let p = err_from_is_err_and r.result r.ensures.1 in
    rw (p.1, p.2) (arounds.fails_between (IsPart (g.P.PlacePrinter.is_text c.args.printer.now c.args.dump.now) (around_of c.args.around.now)) c.args.places.now
    c.loop-place.place-index (g.O.Output.state c.args.out.now) (g.O.Output.state c.loop-place.out) c.loop-place.invariant.wrote (g.O.Output.state c.write_all.new.writer)
    c.in_ok-piece.piece.now c.loop-place-test.true (rw c.loop-place.invariant.before at c.in_ok-piece.ensures) c.in_err-write_all.ensures.write_failed)

pub loop-place-preserved : goal.loop-place-preserved
loop-place-preserved g c = record {
  wrote =
      arounds.writes_more_between (IsPart (g.P.PlacePrinter.is_text c.args.printer.now c.args.dump.now) (around_of c.args.around.now)) c.args.places.now
      c.loop-place.place-index (g.O.Output.state c.args.out.now) (g.O.Output.state c.loop-place.out) c.loop-place.invariant.wrote (g.O.Output.state c.write_all.new.writer)
      c.in_ok-piece.piece.now c.loop-place-test.true (rw c.loop-place.invariant.before at c.in_ok-piece.ensures) c.in_ok-write_all.ensures.written;
  before = ap (before_document (around_of c.args.around.now)) (sym (arounds.not_first c.loop-place.place-index));
}
