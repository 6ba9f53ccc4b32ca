use Rattle.std.proofs.Common.{◌≡◌, false, drop, map}
use Rattle.clap.specs.{Words.app_of, declared.builder.command.Command.TheViews.out-Command as fields_of}
use Rattle.bd_cli_args.specs.WideLine.{with_flags}
use Rattle.bd_cli_args.proofs.wide_line.with_flags.Given as goal

-- with the remaining flags it is the whole
abbrev pub invariant-loop-name : goal.invariant-loop-name
invariant-loop-name l = record {
  app : with_flags (app_of l.with) (map (λ name. name.now) (drop l.name-index l.names)) ≡ with_flags (app_of l.fn.command) (map (λ name. name.now) l.names);
  local : (fields_of l.with).has_globals ≡ false;
}
