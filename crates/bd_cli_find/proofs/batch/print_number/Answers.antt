use Rattle.std.proofs.Common.{◌≡◌, ◌++◌, ◌∷◌, [], ℕ, List, ap, arith, decimal, length, refl, subst}
use Rattle.bd_cursor_model.specs.Answer.{at_most}
use Rattle.bd_io_device.specs.Devices.{over}
use Rattle.bd_cli_scan.specs.declared.output.OutputFault.TheVariants.{Unwritten}
use Rattle.bd_cli_find.specs.Find.{their_count}
use Rattle.bd_cli_find.specs.inside.Find.{StopsAmong, WritesPieces}
use Rattle.bd_cli_find.proofs.FindLemmas as finds
use Rattle.bd_cli_find.proofs.batch.print_number.Goals as goal

pub returns-in-Ok : goal.returns-in-Ok
returns-in-Ok g c = λ size cursor is.
    let old = g.O.Output.state c.args.out.now in
    let new = g.O.Output.state c.write_count.new.err in
    let n : ℕ = c.len.result in
    let line : List ℕ = decimal n ++ 10 ∷ [] in
    let places = ap (λ (ps : List ℕ). length ps) is.places in
    let counted : n ≡ length (at_most size cursor.remaining) = omega (arith, c.len.ensures, c.args.batch.now.places.ok.0, places) in
    let wrote = subst (λ (m : ℕ). WritesPieces their_count.IsPiece (m ∷ []) (over g.O.Output.state c.args.out.now c.write_count.new.err)) counted
    (finds.writes_one their_count.IsPiece n line old new refl c.in-Ok.ensures.ok) in
    finds.batch_printed c.args.program.now old new (g.E.Output.state c.args.err.now)
    (g.E.Output.state c.report_batch.new.err) _ their_count size cursor wrote (rw (is.places, is.ends, is.token) at c.report_batch.ensures)

pub returns-in-Err : goal.returns-in-Err
returns-in-Err g c = λ size cursor is.
    let old = g.O.Output.state c.args.out.now in
    let new = g.O.Output.state c.write_count.new.err in
    let n : ℕ = c.len.result in
    let line : List ℕ = decimal n ++ 10 ∷ [] in
    let places = ap (λ (ps : List ℕ). length ps) is.places in
    let counted : n ≡ length (at_most size cursor.remaining) = omega (arith, c.len.ensures, c.args.batch.now.places.ok.0, places) in
    let stops = subst (λ (m : ℕ). StopsAmong their_count.IsPiece (m ∷ []) (over g.O.Output.state c.args.out.now c.write_count.new.err) Unwritten) counted
    (finds.fails_one their_count.IsPiece n line old new refl c.in-Err.ensures.err) in
    finds.batch_stopped c.args.program.now old new (g.E.Output.state c.args.err.now)
    (g.E.Output.state c.report_stop.new.err) _ their_count size cursor Unwritten stops c.report_stop.ensures
