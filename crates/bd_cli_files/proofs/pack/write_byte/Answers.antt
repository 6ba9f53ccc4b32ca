use Rattle.std.proofs.Common.{◌≡◌, codes, decimal, rules}
use Rattle.std.proofs.lemmas.Result.{err_from_is_err_and}
use Rattle.bd_io_device.proofs.DevicesLemmas.{write_fails_first}
use Rattle.bd_cli_scan.proofs.OutputLemmas.{on_err, second_err, second_ok}
use Rattle.bd_cli_files.proofs.PackLemmas.{byte_is}
use Rattle.bd_cli_files.proofs.pack.write_byte.Goals as goal

pub returns-in_err-write_all-in_default : goal.returns-in_err-write_all-in_default
returns-in_err-write_all-in_default g c =
    let e = g.E.Output.state in
    rw (byte_is (codes ", byte ") c.args.fault.kind c.args.fault.at c.in_default.not-NotADocument) (record {
      ok = rw (err_from_is_err_and c.from_residual.result c.from_residual.ensures.1).1 _;
      err = on_err c.from_residual.result _ (write_fails_first (e c.args.err.now) (e c.write_all.new.writer) (codes ", byte ") (decimal c.args.fault.at) c.in_err-write_all-in_default.ensures.write_failed);
    })

pub returns-in_ok-write_all-in_default : goal.returns-in_ok-write_all-in_default
returns-in_ok-write_all-in_default g c =
    let e = g.E.Output.state in
    let number : c.as_bytes.result.now ≡ decimal c.args.fault.at = search rules in
    rw (byte_is (codes ", byte ") c.args.fault.kind c.args.fault.at c.in_default.not-NotADocument) (record {
      ok = second_ok c.write_all-in_default.result (e c.args.err.now) (e c.write_all.new.writer) (e c.write_all-in_default.new.writer) (codes ", byte ") (decimal c.args.fault.at)
          c.in_ok-write_all-in_default.ensures.written (rw number at c.write_all-in_default.ensures.written);
      err = second_err c.write_all-in_default.result (e c.args.err.now) (e c.write_all.new.writer) (e c.write_all-in_default.new.writer) (codes ", byte ") (decimal c.args.fault.at)
          c.in_ok-write_all-in_default.ensures.written (rw number at c.write_all-in_default.ensures.write_failed);
    })
