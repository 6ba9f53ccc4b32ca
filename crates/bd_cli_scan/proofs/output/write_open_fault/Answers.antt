use Rattle.std.proofs.Common.{◌++◌, ◌∷◌, [], codes}
use Rattle.bd_io_device.proofs.DevicesLemmas.{write_fails_first, write_fails_second}
use Rattle.bd_cli_scan.specs.Output.{open_words}
use Rattle.bd_cli_scan.proofs.OutputLemmas.{on_err, on_err_map, second_ok}
use Rattle.bd_cli_scan.proofs.output.write_open_fault.Goals as goal

pub returns-in_err-write_pair-clause-err : goal.returns-in_err-write_pair-clause-err
returns-in_err-write_pair-clause-err g c =
    let e = g.E.Output.state in
    on_err c.from_residual.result _ (write_fails_first (e c.args.err.now) (e c.write_pair.new.err) (c.args.program.now ++ codes ": ") (open_words c.args.file.now ++ 10 ∷ [])
    c.in_err-write_pair.ensures.err)

pub returns-in_err-write_pair-2-clause-err : goal.returns-in_err-write_pair-2-clause-err
returns-in_err-write_pair-2-clause-err g c =
    let e = g.E.Output.state in
    on_err c.from_residual-in_err-write_pair-2.result _ (write_fails_second (e c.args.err.now) (e c.write_pair.new.err) (e c.write_pair-2.new.err) (c.args.program.now ++ codes ": ") (open_words c.args.file.now ++ 10 ∷ [])
    c.in_ok-write_pair.ensures.ok (write_fails_first (e c.write_pair.new.err) (e c.write_pair-2.new.err) (open_words c.args.file.now) (10 ∷ [])
    c.in_err-write_pair-2.ensures.err))

pub returns-clause-ok : goal.returns-clause-ok
returns-clause-ok g c =
    let e = g.E.Output.state in
    second_ok c.write_all.result (e c.args.err.now) (e c.write_pair.new.err) (e c.write_all.new.writer) (c.args.program.now ++ codes ": ") (open_words c.args.file.now ++ 10 ∷ []) c.in_ok-write_pair.ensures.ok
    (second_ok c.write_all.result (e c.write_pair.new.err) (e c.write_pair-2.new.err) (e c.write_all.new.writer) (open_words c.args.file.now) (10 ∷ []) c.in_ok-write_pair-2.ensures.ok c.write_all.ensures.written)

pub returns-clause-err : goal.returns-clause-err
returns-clause-err g c =
    let e = g.E.Output.state in
    on_err_map c.write_all.result _ _ c.write_all.ensures.write_failed (λ failed_write.
    write_fails_second (e c.args.err.now) (e c.write_pair.new.err) (e c.write_all.new.writer) (c.args.program.now ++ codes ": ") (open_words c.args.file.now ++ 10 ∷ []) c.in_ok-write_pair.ensures.ok
    (write_fails_second (e c.write_pair.new.err) (e c.write_pair-2.new.err) (e c.write_all.new.writer) (open_words c.args.file.now) (10 ∷ []) c.in_ok-write_pair-2.ensures.ok failed_write))
