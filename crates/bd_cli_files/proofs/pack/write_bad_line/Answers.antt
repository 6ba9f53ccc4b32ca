use Rattle.std.proofs.Common.{◌++◌, ◌∷◌, [], codes}
use Rattle.bd_io_device.proofs.DevicesLemmas.{write_fails_first, write_fails_second}
use Rattle.bd_cli_scan.proofs.OutputLemmas.{on_err, on_err_map, second_ok}
use Rattle.bd_cli_scan.specs.Output.{reported_bytes}
use Rattle.bd_cli_files.specs.Pack.{advised, bad_line_text}
use Rattle.bd_cli_files.proofs.pack.write_bad_line.Goals as goal

pub returns-in_err-write_advised-clause-err : goal.returns-in_err-write_advised-clause-err
returns-in_err-write_advised-clause-err g c =
    let e = g.E.Output.state in
    let text = advised (bad_line_text c.args.bad) (reported_bytes c.args.advice) in
    on_err c.from_residual-in_err-write_advised.result _ (write_fails_second (e c.args.err.now) (e c.write_pair.new.err) (e c.write_advised.new.err) (c.args.program.now ++ codes ": ") (text ++ 10 ∷ [])
    c.in_ok-write_pair.ensures.ok (write_fails_first (e c.write_pair.new.err) (e c.write_advised.new.err) text (10 ∷ []) c.in_err-write_advised.ensures.err))

pub returns-clause-ok : goal.returns-clause-ok
returns-clause-ok g c =
    let e = g.E.Output.state in
    let text = advised (bad_line_text c.args.bad) (reported_bytes c.args.advice) in
    second_ok c.write_all.result (e c.args.err.now) (e c.write_pair.new.err) (e c.write_all.new.writer) (c.args.program.now ++ codes ": ") (text ++ 10 ∷ []) c.in_ok-write_pair.ensures.ok
    (second_ok c.write_all.result (e c.write_pair.new.err) (e c.write_advised.new.err) (e c.write_all.new.writer) text (10 ∷ []) c.in_ok-write_advised.ensures.ok c.write_all.ensures.written)

pub returns-clause-err : goal.returns-clause-err
returns-clause-err g c =
    let e = g.E.Output.state in
    let text = advised (bad_line_text c.args.bad) (reported_bytes c.args.advice) in
    on_err_map c.write_all.result _ _ c.write_all.ensures.write_failed (λ failed_write.
    write_fails_second (e c.args.err.now) (e c.write_pair.new.err) (e c.write_all.new.writer) (c.args.program.now ++ codes ": ") (text ++ 10 ∷ []) c.in_ok-write_pair.ensures.ok
    (write_fails_second (e c.write_pair.new.err) (e c.write_advised.new.err) (e c.write_all.new.writer) text (10 ∷ []) c.in_ok-write_advised.ensures.ok failed_write))
