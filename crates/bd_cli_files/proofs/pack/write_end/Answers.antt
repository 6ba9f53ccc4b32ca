use Rattle.std.proofs.Common.{◌++◌, decimal}
use Rattle.bd_cli_scan.specs.Output.{error_line, reported_bytes}
use Rattle.bd_cli_scan.proofs.OutputLemmas.{second_err, second_ok}
use Rattle.bd_cli_files.specs.Pack.{advised, bad_line_text, objects_packed}
use Rattle.bd_cli_files.proofs.pack.write_end.Goals as goal

pub returns-clause-ok : goal.returns-clause-ok
returns-clause-ok g c =
    let e = g.E.Output.state in
    second_ok c.write_count.result (e c.args.err.now) (e c.write_bad_line.new.err) (e c.write_count.new.err) (error_line c.args.program.now (advised (bad_line_text c.args.bad) (reported_bytes c.args.advice)))
    (decimal c.args.count ++ objects_packed) c.in_ok-write_bad_line.ensures.ok c.write_count.ensures.ok

pub returns-clause-err : goal.returns-clause-err
returns-clause-err g c =
    let e = g.E.Output.state in
    second_err c.write_count.result (e c.args.err.now) (e c.write_bad_line.new.err) (e c.write_count.new.err) (error_line c.args.program.now (advised (bad_line_text c.args.bad) (reported_bytes c.args.advice)))
    (decimal c.args.count ++ objects_packed) c.in_ok-write_bad_line.ensures.ok c.write_count.ensures.err
