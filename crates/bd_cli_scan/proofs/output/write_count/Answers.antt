use Rattle.std.proofs.Common.{rules, ◌≡◌, decimal}
use Rattle.bd_io_device.proofs.DevicesLemmas.{write_fails_first}
use Rattle.bd_cli_scan.proofs.OutputLemmas.{on_err, second_err}
use Rattle.bd_cli_scan.proofs.output.write_count.Goals as goal

pub returns-in_err-write_all-clause-err : goal.returns-in_err-write_all-clause-err
returns-in_err-write_all-clause-err g c =
    let e = g.E.Output.state in
    let text : c.as_bytes.result.now ≡ decimal c.args.count = search rules in
    on_err c.from_residual.result _ (write_fails_first (e c.args.err.now) (e c.write_all.new.writer) (decimal c.args.count) c.args.words.now (rw text at c.in_err-write_all.ensures.write_failed))

pub returns-clause-err : goal.returns-clause-err
returns-clause-err g c =
    let e = g.E.Output.state in
    let text : c.as_bytes.result.now ≡ decimal c.args.count = search rules in
    second_err c.write_all-2.result (e c.args.err.now) (e c.write_all.new.writer) (e c.write_all-2.new.writer) (decimal c.args.count) c.args.words.now
    (rw text at c.in_ok-write_all.ensures.written) (rw c.as_bytes-2.ensures.value at c.write_all-2.ensures.write_failed)
