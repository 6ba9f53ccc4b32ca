use Rattle.bd_bson_dump.specs.Collection.{bytes_of, documents}
use Rattle.bd_io_device.specs.Devices.{over}
use Rattle.bd_cli.proofs.ServeLemmas.{load_reported, over_dump}
use Rattle.bd_cli.proofs.serve.serve.Goals as goal

pub returns-in-Ok-clause-serves : goal.returns-in-Ok-clause-serves
returns-in-Ok-clause-serves g c =
    over_dump g.C.Input.state g.C.Input.read_gives (over g.F.Input.state c.args.file.now c.load.new.input) (bytes_of c.in-Ok.dump) (documents c.in-Ok.dump) c.in-Ok.ensures.loaded
    c.args.commands.now c.serve_dump.new.commands (over g.O.Output.state c.args.out.now c.serve_dump.new.out) (over g.E.Output.state c.args.err.now c.serve_dump.new.err) _
    c.serve_dump.ensures

pub returns-in-Err-clause-serves : goal.returns-in-Err-clause-serves
returns-in-Err-clause-serves g c =
    load_reported g.C.Input.state g.C.Input.read_gives (over g.F.Input.state c.args.file.now c.load.new.input) c.args.commands.now (g.O.Output.state c.args.out.now)
    (over g.E.Output.state c.args.err.now c.report_load_fault.new.err) _ c.in-Err.fault c.in-Err.ensures.fault c.report_load_fault.ensures
