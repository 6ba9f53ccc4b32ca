use Rattle.std.proofs.Common.{◌∙◌, List, false, refl, subst}
use Rattle.std.specs.Prelude.{ℕ}
use Rattle.bd_io_device.specs.Devices.{over}
use Rattle.bd_bson_check.specs.Dump.{IsDump}
use Rattle.bd_bson_dump.specs.Collection.{documents}
use Rattle.bd_wide_copy.specs.Dump.{bytes_of}
use Rattle.bd_wide_service.proofs.ServeLemmas.{plain_run, runs_out}
use Rattle.bd_wide_service.proofs.serve.serve_plain.Goals as goal

pub returns-in-Ok : goal.returns-in-Ok
returns-in-Ok g c = λ file read.
    let is = subst (λ (b : List ℕ). IsDump (documents c.in-Ok.dump) b) c.into_bytes.ensures c.in-Ok.ensures.dump in
    plain_run g.C.Input.state g.C.Input.read_gives false file c.args.commands.now c.reply_to_commands.new.commands
    (over g.O.Output.state c.args.out.now c.reply_to_commands.new.out) (over g.E.Output.state c.args.err.now c.reply_to_commands.new.err)
    c.reply_to_commands.result (bytes_of c.args.dump) read refl c.in-Ok.dump c.new-service.result (c.in-Ok.ensures.bytes ∙ c.into_bytes.ensures) is
    c.new-service.ensures.dump c.new-service.ensures.state c.reply_to_commands.ensures

pub returns : goal.returns
returns g c = λ file read.
    runs_out g.C.Input.state g.C.Input.read_gives false file c.args.commands.now (g.O.Output.state c.args.out.now) (g.E.Output.state c.args.err.now)
    (g.E.Output.state c.report_no_memory.new.err) c.report_no_memory.result (bytes_of c.args.dump) read c.report_no_memory.ensures
