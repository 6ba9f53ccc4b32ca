use Rattle.std.proofs.Common.{rules}
use Rattle.bd_value.specs.View.{pairs, tree_of}
use Rattle.bd_cli_command.proofs.CommandOfLemmas.{name_found, name_skipped}
use Rattle.bd_cli_command.proofs.command_of.is_before_field.Goals as goal

pub returns-then-eq : goal.returns-then-eq
returns-then-eq c =
    name_found c.args.field.now (pairs c.args.document.now) c.loop-i.i c.args.end (c.pair.result.0.now, tree_of c.pair.result.1.now) (search rules) c.pair.ensures c.loop-i.invariant c.if-eq.ensures

pub loop-i-preserved : goal.loop-i-preserved
loop-i-preserved c =
    name_skipped c.args.field.now (pairs c.args.document.now) c.loop-i.i c.args.end (c.pair.result.0.now, tree_of c.pair.result.1.now) (search rules) c.pair.ensures c.loop-i.invariant c.if-eq.ensures
