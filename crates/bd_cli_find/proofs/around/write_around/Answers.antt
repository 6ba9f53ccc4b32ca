use Rattle.std.proofs.Common.{List, [], ◌∷◌, ◌++◌, refl}
use Rattle.std.proofs.lemmas.Result.{err_from_is_err_and}
use Rattle.bd_cli_scan.specs.declared.output.OutputFault.TheVariants.{Unwritten}
use Rattle.bd_cli_find.specs.Find.{IsPart, Part, opens, closes, around_of, document_parts}
use Rattle.bd_cli_find.proofs.AroundLemmas as arounds
use Rattle.bd_cli_find.proofs.FindLemmas.{fails_one, writes_one}
use Rattle.bd_cli_find.proofs.around.write_around.Goals as goal

pub returns-in_err-write_all-clause-stops : goal.returns-in_err-write_all-clause-stops
returns-in_err-write_all-clause-stops g c =
    let r = c.from_residual in
    let p = err_from_is_err_and r.result r.ensures.1 in
    let IsP = IsPart (g.P.PlacePrinter.is_text c.args.printer.now c.args.dump.now) (around_of c.args.around.now) in
    let old = g.O.Output.state c.args.out.now in
    let new = g.O.Output.state c.write_all.new.writer in
    rw (p.1, p.2) (arounds.stops_first IsP (opens ∷ []) (document_parts c.args.places.now ++ closes ∷ []) old new Unwritten
    (fails_one IsP opens _ old new refl c.in_err-write_all.ensures.write_failed))

pub returns-in_err-write_between-clause-stops : goal.returns-in_err-write_between-clause-stops
returns-in_err-write_between-clause-stops g c =
    let r = c.from_residual-in_err-write_between in
    let p = err_from_is_err_and r.result r.ensures.1 in
    let stopped = c.in_err-write_between in
    let IsP = IsPart (g.P.PlacePrinter.is_text c.args.printer.now c.args.dump.now) (around_of c.args.around.now) in
    let old = g.O.Output.state c.args.out.now in
    let mid = g.O.Output.state c.write_all.new.writer in
    let new = g.O.Output.state c.write_between.new.out in
    rw (p.1, p.2) (arounds.stops_second IsP (opens ∷ []) (document_parts c.args.places.now ++ closes ∷ []) (arounds.closes_at_last c.args.places.now) old mid new stopped.field-0.0
    (writes_one IsP opens _ old mid refl c.in_ok-write_all.ensures.written)
    (arounds.stops_first IsP (document_parts c.args.places.now) (closes ∷ []) mid new stopped.field-0.0 stopped.ensures.stops))

pub returns-in_err-write_all-2-clause-stops : goal.returns-in_err-write_all-2-clause-stops
returns-in_err-write_all-2-clause-stops g c =
    let r = c.from_residual-in_err-write_all-2 in
    let p = err_from_is_err_and r.result r.ensures.1 in
    let IsP = IsPart (g.P.PlacePrinter.is_text c.args.printer.now c.args.dump.now) (around_of c.args.around.now) in
    let old = g.O.Output.state c.args.out.now in
    let first = g.O.Output.state c.write_all.new.writer in
    let mid = g.O.Output.state c.write_between.new.out in
    let new = g.O.Output.state c.write_all-2.new.writer in
    let documents = document_parts c.args.places.now in
    let wrote = arounds.writes_both IsP (opens ∷ []) documents old first mid (writes_one IsP opens _ old first refl c.in_ok-write_all.ensures.written)
    c.in_ok-write_between.ensures.wrote in
    rw (p.1, p.2) (arounds.stops_second IsP (opens ∷ documents) (closes ∷ []) (closes, [], refl) old mid new Unwritten wrote
    (fails_one IsP closes _ mid new refl c.in_err-write_all-2.ensures.write_failed))

pub returns-clause-wrote : goal.returns-clause-wrote
returns-clause-wrote g c =
    let IsP = IsPart (g.P.PlacePrinter.is_text c.args.printer.now c.args.dump.now) (around_of c.args.around.now) in
    let old = g.O.Output.state c.args.out.now in
    let first = g.O.Output.state c.write_all.new.writer in
    let mid = g.O.Output.state c.write_between.new.out in
    let new = g.O.Output.state c.write_all-2.new.writer in
    let documents = document_parts c.args.places.now in
    let wrote = arounds.writes_both IsP (opens ∷ []) documents old first mid (writes_one IsP opens _ old first refl c.in_ok-write_all.ensures.written)
    c.in_ok-write_between.ensures.wrote in
    arounds.writes_both IsP (opens ∷ documents) (closes ∷ []) old mid new wrote (writes_one IsP closes _ mid new refl c.in_ok-write_all-2.ensures.written)
