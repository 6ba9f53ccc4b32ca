use Rattle.std.proofs.Common.{◌≡◌, drop, take}
use Rattle.bd_value.specs.{Tree.first_of, View.pairs}
use Rattle.bd_cli_command.proofs.command_of.is_before_field.Given as goal

-- the remaining fields decide
abbrev pub invariant-loop-i : goal.invariant-loop-i
invariant-loop-i l = first_of l.field (drop l.i (take l.end (pairs l.document))) ≡ first_of l.field (take l.end (pairs l.document))
