use Rattle.std.proofs.Common.{codes}
use Rattle.bd_io_device.proofs.DevicesLemmas.{write_fails_first}
use Rattle.bd_cursor_request.specs.Token.{token_text}
use Rattle.bd_cli_scan.proofs.OutputLemmas.{on_err, second_err}
use Rattle.bd_cli_find.proofs.batch.write_token.Goals as goal

pub returns-in_err-write_all-clause-err : goal.returns-in_err-write_all-clause-err
returns-in_err-write_all-clause-err g c =
    let e = g.E.Output.state in
    rw c.in-Some.is (on_err c.from_residual.result _ (write_fails_first (e c.args.err.now) (e c.write_all.new.writer) (codes ", token ") (token_text c.in-Some.token)
    (rw c.as_bytes.ensures.value at c.in_err-write_all.ensures.write_failed)))

pub returns-clause-err : goal.returns-clause-err
returns-clause-err g c =
    let e = g.E.Output.state in
    rw c.in-Some.is (second_err c.write_all-2.result (e c.args.err.now) (e c.write_all.new.writer) (e c.write_all-2.new.writer) (codes ", token ") (token_text c.in-Some.token)
    (rw c.as_bytes.ensures.value at c.in_ok-write_all.ensures.written) (rw c.characters.ensures at c.write_all-2.ensures.write_failed))
