use Rattle.std.proofs.Common.{◌≡◌, ◌++◌, codes, decimal, rules}
use Rattle.bd_io_device.proofs.DevicesLemmas.{write_fails_first, write_fails_second}
use Rattle.bd_cli_scan.proofs.OutputLemmas.{on_err, on_err_map}
use Rattle.bd_cli_files.specs.Pack.{line_fault_text}
use Rattle.bd_cli_files.proofs.pack.write_message.Goals as goal

pub returns-in_err-write_all-clause-err : goal.returns-in_err-write_all-clause-err
returns-in_err-write_all-clause-err g c =
    let e = g.E.Output.state in
    on_err c.from_residual.result _ (write_fails_first (e c.args.err.now) (e c.write_all.new.writer) (codes "line ")
    (decimal c.args.bad.number ++ line_fault_text c.args.bad.fault) c.in_err-write_all.ensures.write_failed)

pub returns-in_err-write_all-2-clause-err : goal.returns-in_err-write_all-2-clause-err
returns-in_err-write_all-2-clause-err g c =
    let e = g.E.Output.state in
    let number : c.as_bytes.result.now ≡ decimal c.args.bad.number = search rules in
    on_err c.from_residual-in_err-write_all-2.result _ (write_fails_second (e c.args.err.now) (e c.write_all.new.writer) (e c.write_all-2.new.writer) (codes "line ")
    (decimal c.args.bad.number ++ line_fault_text c.args.bad.fault) c.in_ok-write_all.ensures.written
    (write_fails_first (e c.write_all.new.writer) (e c.write_all-2.new.writer) (decimal c.args.bad.number) (line_fault_text c.args.bad.fault) (rw number at c.in_err-write_all-2.ensures.write_failed)))

pub returns-clause-err : goal.returns-clause-err
returns-clause-err g c =
    let e = g.E.Output.state in
    let number : c.as_bytes.result.now ≡ decimal c.args.bad.number = search rules in
    on_err_map c.write_line_fault.result _ _ c.write_line_fault.ensures.err (λ failed_write.
    write_fails_second (e c.args.err.now) (e c.write_all.new.writer) (e c.write_line_fault.new.err) (codes "line ")
    (decimal c.args.bad.number ++ line_fault_text c.args.bad.fault) c.in_ok-write_all.ensures.written
    (write_fails_second (e c.write_all.new.writer) (e c.write_all-2.new.writer) (e c.write_line_fault.new.err) (decimal c.args.bad.number) (line_fault_text c.args.bad.fault)
    (rw number at c.in_ok-write_all-2.ensures.written) failed_write))
