use Rattle.bd_io_device.specs.Devices.{over}
use Rattle.bd_wide_service.proofs.ServeLemmas.{load_reported}
use Rattle.bd_wide_service.proofs.serve.serve.Goals as goal

pub returns-in-Ok-clause-serves : goal.returns-in-Ok-clause-serves
returns-in-Ok-clause-serves g c = c.serve_loaded.ensures (over g.F.Input.state c.args.file.now c.load_wide.new.input) c.in-Ok.ensures.loaded.0

pub returns-in-Err-clause-serves : goal.returns-in-Err-clause-serves
returns-in-Err-clause-serves g c =
    load_reported g.C.Input.state g.C.Input.read_gives c.args.by_value (over g.F.Input.state c.args.file.now c.load_wide.new.input) c.args.commands.now
    (g.O.Output.state c.args.out.now) (g.E.Output.state c.args.err.now) (g.E.Output.state c.report_load_fault.new.err) c.report_load_fault.result
    c.in-Err.fault c.in-Err.ensures.fault c.report_load_fault.ensures
