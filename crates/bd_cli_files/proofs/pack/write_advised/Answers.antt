use Rattle.std.proofs.Common.{◌++◌, codes}
use Rattle.bd_io_device.proofs.DevicesLemmas.{write_fails_first}
use Rattle.bd_cli_scan.proofs.OutputLemmas.{on_err, second_err}
use Rattle.bd_cli_files.specs.Pack.{bad_line_text}
use Rattle.bd_cli_files.proofs.pack.write_advised.Goals as goal

pub returns-in_err-write_message-in-Some-clause-err : goal.returns-in_err-write_message-in-Some-clause-err
returns-in_err-write_message-in-Some-clause-err g c =
    let e = g.E.Output.state in
    rw c.in-Some.is (on_err c.from_residual.result _ (write_fails_first (e c.args.err.now) (e c.write_message-in-Some.new.err) (bad_line_text c.args.bad)
    (codes "; " ++ c.in-Some.advice.now) c.in_err-write_message-in-Some.ensures.err))

pub returns-in_ok-write_message-in-Some-clause-err : goal.returns-in_ok-write_message-in-Some-clause-err
returns-in_ok-write_message-in-Some-clause-err g c =
    let e = g.E.Output.state in
    rw c.in-Some.is (second_err c.write_pair.result (e c.args.err.now) (e c.write_message-in-Some.new.err) (e c.write_pair.new.err) (bad_line_text c.args.bad)
    (codes "; " ++ c.in-Some.advice.now) c.in_ok-write_message-in-Some.ensures.ok c.write_pair.ensures.err)
