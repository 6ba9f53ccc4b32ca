use Rattle.std.proofs.Common.{◌≡◌, false, drop, map}
use Rattle.clap.specs.{Words.app_of, declared.builder.command.Command.TheViews.out-Command as fields_of}
use Rattle.bd_cli_args.specs.FileCommands.{with_file_commands}
use Rattle.bd_cli_args.proofs.file_commands.with_file_commands.Given as goal

-- with the remaining commands it is the whole
abbrev pub invariant-loop-name : goal.invariant-loop-name
invariant-loop-name l = record {
  app : with_file_commands (app_of l.with) (map (λ name. name.now) (drop l.name-index l.names)) ≡ with_file_commands (app_of l.fn.line) (map (λ name. name.now) l.names);
  local : (fields_of l.with).has_globals ≡ false;
}
