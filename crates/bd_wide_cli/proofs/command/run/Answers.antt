use Rattle.std.proofs.Common.{sym}
use Rattle.bd_wide_cli.proofs.command.run.Goals as goal

pub returns-in-Dump-clause-ran : goal.returns-in-Dump-clause-ran
returns-in-Dump-clause-ran g c = rw c.in-Dump.is c.dump.ensures

pub returns-in-Find-clause-ran : goal.returns-in-Find-clause-ran
returns-in-Find-clause-ran g c = rw (c.in-Find.is, sym c.query_text-text.ensures) c.find.ensures

pub returns-in-Serve-clause-ran : goal.returns-in-Serve-clause-ran
returns-in-Serve-clause-ran g c = rw c.in-Serve.is c.serve.ensures.serves
