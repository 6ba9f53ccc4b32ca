use Rattle.std.proofs.Common.{◌++◌, codes}
use Rattle.bd_extjson_fault.specs.JsonFault.{json_fault_words}
use Rattle.bd_io_device.proofs.DevicesLemmas.{write_fails_first}
use Rattle.bd_cli_scan.proofs.OutputLemmas.{on_err, second_err}
use Rattle.bd_cli_files.specs.Pack.{byte_text}
use Rattle.bd_cli_files.proofs.pack.write_line_fault.Goals as goal

pub returns-in_err-write_byte-in-Unread-clause-err : goal.returns-in_err-write_byte-in-Unread-clause-err
returns-in_err-write_byte-in-Unread-clause-err g c =
    let e = g.E.Output.state in
    let f = c.in-Unread.fault in
    rw c.in-Unread.is (on_err c.from_residual.result _ (write_fails_first (e c.args.err.now) (e c.write_byte.new.err) (byte_text (codes ", byte ") f.kind f.at)
    (codes ": " ++ json_fault_words f.kind) c.in_err-write_byte-in-Unread.ensures.err))

pub returns-in_ok-write_byte-in-Unread-clause-err : goal.returns-in_ok-write_byte-in-Unread-clause-err
returns-in_ok-write_byte-in-Unread-clause-err g c =
    let e = g.E.Output.state in
    let f = c.in-Unread.fault in
    rw c.in-Unread.is (second_err c.write_pair.result (e c.args.err.now) (e c.write_byte.new.err) (e c.write_pair.new.err) (byte_text (codes ", byte ") f.kind f.at)
    (codes ": " ++ json_fault_words f.kind) c.in_ok-write_byte-in-Unread.ensures.ok (rw c.words.ensures at c.write_pair.ensures.err))

pub returns-in-TooLong-clause-ok : goal.returns-in-TooLong-clause-ok
returns-in-TooLong-clause-ok g c = rw c.in-TooLong.is c.write_all.ensures.written
