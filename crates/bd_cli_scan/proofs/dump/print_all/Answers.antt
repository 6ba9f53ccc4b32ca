use Rattle.std.proofs.Common.{[], inl, refl}
use Rattle.std.proofs.lemmas.Result.{err_from_is_err_and}
use Rattle.bd_io_device.specs.Devices.{zero_reads}
use Rattle.bd_cli_scan.proofs.DumpLemmas.{all_printed, closing_stopped}
use Rattle.bd_cli_scan.proofs.dump.print_all.Goals as goal

pub returns-in_err-write_all-clause-stops_reading : goal.returns-in_err-write_all-clause-stops_reading
returns-in_err-write_all-clause-stops_reading g c = (0, [], c.args.input.now, zero_reads _, inl refl)

pub returns-in_err-write_all-2-clause-stops : goal.returns-in_err-write_all-2-clause-stops
returns-in_err-write_all-2-clause-stops g c =
    let r = c.from_residual-in_err-write_all-2 in
    let p = err_from_is_err_and r.result r.ensures.1 in
    rw (p.1, p.2) (closing_stopped (g.P.Pieces.form c.args.pieces.now) (g.R.Input.state c.args.input.now) (g.R.Input.state c.scan_documents.new.input)
    (g.O.Output.state c.args.out.now) (g.O.Output.state c.write_all.new.writer) (g.O.Output.state c.scan_documents.new.out)
    (rw c.opening.ensures at c.in_ok-write_all.ensures.written) (g.O.Output.state c.write_all-2.new.writer) c.in_ok-scan.scan c.in_ok-scan.ensures.scans
    (rw c.closing_after.ensures at c.in_err-write_all-2.ensures.write_failed))

pub returns-clause-prints : goal.returns-clause-prints
returns-clause-prints g c =
    all_printed (g.P.Pieces.form c.args.pieces.now) (g.R.Input.state c.args.input.now) (g.R.Input.state c.scan_documents.new.input)
    (g.O.Output.state c.args.out.now) (g.O.Output.state c.write_all.new.writer) (g.O.Output.state c.scan_documents.new.out)
    (rw c.opening.ensures at c.in_ok-write_all.ensures.written) (g.O.Output.state c.write_all-2.new.writer) c.in_ok-scan.scan c.in_ok-scan.ensures.scans
    (rw c.closing_after.ensures at c.in_ok-write_all-2.ensures.written)
