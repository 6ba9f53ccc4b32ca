-- What the command lines of both programs share: commands that take a FILE, and how a refusal of `clap` is reported.
use Rattle.std.specs.Prelude.{List, [], ◌∷◌, true, Option, Some, codes, option_and_then, option_map, slice_get}
use Rattle.clap.specs.Simple.{App, new_app, new_rule, on_top, subcommand_of, with_rule, with_subcommand}
use Rattle.clap.specs.Walk.{Row, Rule, Text}
use Rattle.clap.specs.Faults.{fault_of}
use Rattle.clap.specs.declared.builder.action.ArgAction.{ArgAction}
use Rattle.clap.specs.declared.error.kind.ErrorKind.{ErrorKind}
use Rattle.bd_cli_args.specs.declared.order.WordsFault.{WordsFault}

-- the argument FILE, which each command requires once
abbrev pub file_rule : Rule
file_rule = record (new_rule (codes "file")) { required = true; action = Some ArgAction.Set }

-- the command of this name, which takes one file and nothing else
abbrev pub file_app : Text → App
file_app name = with_rule (new_app name) file_rule

-- the command line of a program before its commands are added: one of them is required
abbrev pub top_app : Text → App
top_app name = on_top (λ s. record s { no_binary_name = true; subcommand_required = true; disable_help_subcommand = true })
    (new_app name)

-- the command line with these commands too, each of which takes one file and nothing else
abbrev pub with_file_commands : App → List Text → App
with_file_commands app [] = app
with_file_commands app (name ∷ names) = with_file_commands (with_subcommand app (file_app name).top) names

-- the command line of a program that has these commands, each with one file and nothing else, and one more
abbrev pub program_app : Text → List Text → App → App
program_app name files more = with_subcommand (with_file_commands (top_app name) files) more.top

-- how a refusal of the parser is reported: as a request for help, as out of memory, else by the usage
abbrev pub explain_refusal : ErrorKind → WordsFault
explain_refusal ErrorKind.DisplayHelp = WordsFault.Help
explain_refusal ErrorKind.OutOfMemory = WordsFault.NoMemory
explain_refusal _ = WordsFault.Usage

-- the command that arguments mean for a program with this command line, by the meaning of the parsed arguments of each command;
-- None if they are refused
abbrev pub order_by : {V : Type 0} → App → (Text → List Row → Option V) → List Text → Option V
order_by line ordered words = option_and_then (λ p. ordered p.0 p.1) (subcommand_of line words)

-- how the parser's refusal of arguments is reported; None if it accepts them.
-- All its faults are reported as the first one.
abbrev pub refusal_by : App → List Text → Option WordsFault
refusal_by line words = option_map explain_refusal (slice_get (fault_of line words) 0)
