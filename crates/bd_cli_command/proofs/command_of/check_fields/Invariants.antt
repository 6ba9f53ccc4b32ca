use Rattle.std.proofs.Common.{◌≡◌, [], drop, take}
use Rattle.bd_value.specs.View.{pairs}
use Rattle.bd_cli_command.specs.CommandOf.{pairs_fault}
use Rattle.bd_cli_command.proofs.command_of.check_fields.Given as goal

-- the remaining fields have the first fault
abbrev pub invariant-loop-i : goal.invariant-loop-i
invariant-loop-i l = pairs_fault l.command (take l.i (pairs l.document)) (drop l.i (pairs l.document)) ≡ pairs_fault l.command [] (pairs l.document)
