use Rattle.std.proofs.Common.{◌≡◌, false, drop, map}
use Rattle.clap.specs.{Words.app_of, declared.builder.command.Command.TheViews.out-Command as fields_of}
use Rattle.bd_cli_args.specs.CommandLine.{with_options}
use Rattle.bd_cli_args.proofs.command_line.with_options.Given as goal

-- with the remaining options it is the whole
abbrev pub invariant-loop-name : goal.invariant-loop-name
invariant-loop-name l = record {
  app : with_options (app_of l.with) (map (λ o. (o.0.now, o.1)) (drop l.name-index l.options)) ≡ with_options (app_of l.fn.command) (map (λ o. (o.0.now, o.1)) l.options);
  local : (fields_of l.with).has_globals ≡ false;
}
