use Rattle.std.proofs.Common.{refl}
use Rattle.bd_io_device.specs.Devices.{over}
use Rattle.bd_cli.proofs.RunsLemmas.{found_failed}
use Rattle.bd_cli.proofs.runs.run.Goals as goal

pub returns-in-Dump-clause-ran : goal.returns-in-Dump-clause-ran
returns-in-Dump-clause-ran g c = rw c.in-Dump.is c.dump.ensures.dumps

pub returns-in-Check-clause-ran : goal.returns-in-Check-clause-ran
returns-in-Check-clause-ran g c = rw c.in-Check.is c.check.ensures.checks

pub returns-in-Pack-clause-ran : goal.returns-in-Pack-clause-ran
returns-in-Pack-clause-ran g c = rw c.in-Pack.is c.pack.ensures.packs

pub returns-in-Find-clause-ran : goal.returns-in-Find-clause-ran
returns-in-Find-clause-ran g c = rw c.in-Find.is c.find.ensures.found

pub returns-in-Find-clause-file : goal.returns-in-Find-clause-file
returns-in-Find-clause-file g c = rw c.in-Find.is c.find.ensures.unread

pub returns-in-Find-clause-failed : goal.returns-in-Find-clause-failed
returns-in-Find-clause-failed g c fails =
    found_failed c.in-Find.options (over g.F.Input.state c.args.file.now c.find.new.input) (over g.C.Input.state c.args.commands.now c.args.commands.now)
    (over g.O.Output.state c.args.out.now c.find.new.out) (over g.E.Output.state c.args.err.now c.find.new.err) _ refl c.find.ensures.found fails

pub returns-in-Serve-clause-ran : goal.returns-in-Serve-clause-ran
returns-in-Serve-clause-ran g c = rw c.in-Serve.is c.serve.ensures.serves
