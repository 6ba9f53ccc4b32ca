use Rattle.std.proofs.Common.{Bool, subst, sym}
use Rattle.bd_io_device.specs.Devices.{over}
use Rattle.bd_cli_scan.specs.Run.{Prints}
use Rattle.bd_wide_copy.specs.Dump.{bytes_of}
use Rattle.bd_wide_service.specs.Serve.{wide_serve_run}
use Rattle.bd_wide_service.proofs.ServeLemmas.{by_value_run, runs_out}
use Rattle.bd_wide_service.proofs.serve.serve_loaded.Goals as goal

pub returns-then-is_served_plainly : goal.returns-then-is_served_plainly
returns-then-is_served_plainly g c = λ file read.
    let plainly = c.is_served_plainly.ensures.plain c.if-is_served_plainly.true in
    subst (λ (b : Bool). Prints c.args.program.now (wide_serve_run g.C.Input.state g.C.Input.read_gives c.args.commands.now c.serve_plain.new.commands b file)
    (over g.O.Output.state c.args.out.now c.serve_plain.new.out) (over g.E.Output.state c.args.err.now c.serve_plain.new.err) c.serve_plain.result)
    (sym plainly) (c.serve_plain.ensures file read)

pub returns-in-Ok : goal.returns-in-Ok
returns-in-Ok g c = λ file read.
    let served = c.is_served_plainly.ensures.by_value c.if-is_served_plainly.false in
    let (v, is_over) = c.in-Ok.ensures.over in
    by_value_run g.C.Input.state g.C.Input.read_gives c.args.by_value file c.args.commands.now c.reply_to_commands.new.commands
    (over g.O.Output.state c.args.out.now c.reply_to_commands.new.out) (over g.E.Output.state c.args.err.now c.reply_to_commands.new.err)
    c.reply_to_commands.result (bytes_of c.args.dump) read served v c.in-Ok.service is_over c.in-Ok.ensures.state c.reply_to_commands.ensures

pub returns-in-Err : goal.returns-in-Err
returns-in-Err g c = λ file read.
    runs_out g.C.Input.state g.C.Input.read_gives c.args.by_value file c.args.commands.now (g.O.Output.state c.args.out.now) (g.E.Output.state c.args.err.now)
    (g.E.Output.state c.report_no_memory.new.err) c.report_no_memory.result (bytes_of c.args.dump) read c.report_no_memory.ensures
