use Rattle.std.proofs.Common.{◌≡◌}
use Rattle.bd_bson_dump.specs.Collection.{bytes_of, documents}
use Rattle.bd_io_device.specs.Devices.{over}
use Rattle.bd_cli_service.specs.ServiceView.{KeepsState, RepliesTo, service_dump, service_state}
use Rattle.bd_cli_service.specs.Talk.{IsUnchanged, RepliesInText}
use Rattle.bd_cli_service.proofs.ServedLemmas.{machine_replies}
use Rattle.bd_cli.proofs.ServeLemmas.{represented_run}
use Rattle.bd_cli.proofs.serve.serve_dump.Goals as goal

pub returns : goal.returns
returns g c =
    rw c.new-service.ensures.state at (represented_run service_state (λ s. service_dump s ≡ c.args.dump) RepliesTo (RepliesInText (bytes_of c.args.dump) (documents c.args.dump))
    (λ s t line text. machine_replies c.args.dump s t line text) KeepsState IsUnchanged (λ s t fact same. same)
    g.C.Input.state g.C.Input.read_gives c.args.commands.now c.reply_to_commands.new.commands c.new-service.result c.new-service.ensures.dump
    c.args.program.now (over g.O.Output.state c.args.out.now c.reply_to_commands.new.out) (over g.E.Output.state c.args.err.now c.reply_to_commands.new.err) _
    c.reply_to_commands.ensures)
