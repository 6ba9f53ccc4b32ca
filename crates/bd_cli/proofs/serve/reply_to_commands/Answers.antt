use Rattle.std.proofs.Common.{refl}
use Rattle.bd_io_device.specs.Devices.{over}
use Rattle.bd_cli.proofs.ServeLemmas.{to_a_fault, to_the_end}
use Rattle.bd_io_lines.specs.declared.serving.ServeFault.TheVariants as faults
use Rattle.bd_cli.proofs.serve.reply_to_commands.Goals as goal

pub returns-in-Ok : goal.returns-in-Ok
returns-in-Ok g c =
    to_the_end g.C.Input.state g.C.Input.read_gives c.args.commands.now c.reply_to_lines.new.reader g.S.Replier.replies g.S.Replier.stays
    c.args.session.now c.reply_to_lines.new.session (over g.O.Output.state c.args.out.now c.reply_to_lines.new.out) c.args.program.now _
    (g.E.Output.state c.args.err.now) c.in-Ok.ensures.serves refl

pub returns-in-Err-Unread : goal.returns-in-Err-Unread
returns-in-Err-Unread g c =
    to_a_fault g.C.Input.state g.C.Input.read_gives c.args.commands.now c.reply_to_lines.new.reader g.S.Replier.replies g.S.Replier.stays
    c.args.session.now c.reply_to_lines.new.session (over g.O.Output.state c.args.out.now c.reply_to_lines.new.out) c.args.program.now _
    (over g.E.Output.state c.args.err.now c.report_read_fault.new.err) (faults.Unread c.in-Err-Unread.fault)
    (rw c.in-Err-Unread.field-0-is at c.in-Err-Unread.ensures.stops) c.report_read_fault.ensures

pub returns-in-Err-NoMemory : goal.returns-in-Err-NoMemory
returns-in-Err-NoMemory g c =
    to_a_fault g.C.Input.state g.C.Input.read_gives c.args.commands.now c.reply_to_lines.new.reader g.S.Replier.replies g.S.Replier.stays
    c.args.session.now c.reply_to_lines.new.session (over g.O.Output.state c.args.out.now c.reply_to_lines.new.out) c.args.program.now _
    (over g.E.Output.state c.args.err.now c.report_no_memory.new.err) faults.NoMemory
    (rw c.in-Err-NoMemory.field-0-is at c.in-Err-NoMemory.ensures.stops) c.report_no_memory.ensures

pub returns-in-Err-Unwritten : goal.returns-in-Err-Unwritten
returns-in-Err-Unwritten g c =
    to_a_fault g.C.Input.state g.C.Input.read_gives c.args.commands.now c.reply_to_lines.new.reader g.S.Replier.replies g.S.Replier.stays
    c.args.session.now c.reply_to_lines.new.session (over g.O.Output.state c.args.out.now c.reply_to_lines.new.out) c.args.program.now _
    (over g.E.Output.state c.args.err.now c.report_unwritten.new.err) faults.Unwritten
    (rw c.in-Err-Unwritten.field-0-is at c.in-Err-Unwritten.ensures.stops) c.report_unwritten.ensures
