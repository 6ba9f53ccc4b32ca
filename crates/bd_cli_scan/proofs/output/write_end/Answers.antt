use Rattle.std.proofs.Common.{◌++◌, decimal}
use Rattle.bd_cli_scan.specs.Output.{error_line}
use Rattle.bd_io_device.proofs.DevicesLemmas.{write_fails_first}
use Rattle.bd_cli_scan.proofs.OutputLemmas.{on_err, second_err}
use Rattle.bd_cli_scan.proofs.output.write_end.Goals as goal

pub returns-in_err-write_error-in-Some-clause-err : goal.returns-in_err-write_error-in-Some-clause-err
returns-in_err-write_error-in-Some-clause-err g c =
    let e = g.E.Output.state in
    rw c.in-Some.is (on_err c.from_residual.result _ (write_fails_first (e c.args.err.now) (e c.write_error.new.err) (error_line c.args.program.now c.in-Some.message.now)
    (decimal c.args.count ++ c.args.words.now) c.in_err-write_error-in-Some.ensures.err))

pub returns-in_ok-write_error-in-Some-clause-err : goal.returns-in_ok-write_error-in-Some-clause-err
returns-in_ok-write_error-in-Some-clause-err g c =
    let e = g.E.Output.state in
    rw c.in-Some.is (second_err c.write_count-in-Some.result (e c.args.err.now) (e c.write_error.new.err) (e c.write_count-in-Some.new.err) (error_line c.args.program.now c.in-Some.message.now)
    (decimal c.args.count ++ c.args.words.now) c.in_ok-write_error-in-Some.ensures.ok c.write_count-in-Some.ensures.err)
