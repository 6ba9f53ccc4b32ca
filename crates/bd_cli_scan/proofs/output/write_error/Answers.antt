use Rattle.std.proofs.Common.{◌++◌, ◌∷◌, [], codes}
use Rattle.bd_io_device.proofs.DevicesLemmas.{write_fails_first}
use Rattle.bd_cli_scan.proofs.OutputLemmas.{on_err, second_err}
use Rattle.bd_cli_scan.proofs.output.write_error.Goals as goal

pub returns-in_err-write_pair-clause-err : goal.returns-in_err-write_pair-clause-err
returns-in_err-write_pair-clause-err g c =
    let e = g.E.Output.state in
    on_err c.from_residual.result _ (write_fails_first (e c.args.err.now) (e c.write_pair.new.err) (c.args.program.now ++ codes ": ") (c.args.message.now ++ 10 ∷ [])
    c.in_err-write_pair.ensures.err)

pub returns-clause-err : goal.returns-clause-err
returns-clause-err g c =
    let e = g.E.Output.state in
    second_err c.write_pair-2.result (e c.args.err.now) (e c.write_pair.new.err) (e c.write_pair-2.new.err) (c.args.program.now ++ codes ": ") (c.args.message.now ++ 10 ∷ [])
    c.in_ok-write_pair.ensures.ok c.write_pair-2.ensures.err
