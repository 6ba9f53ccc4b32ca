-- Commands as they are built.
use Rattle.std.specs.Prelude.{◌≡◌, false}
use Rattle.clap.specs.Simple.{App}
use Rattle.clap.specs.Words.{app_of}
use Rattle.clap.specs.declared.builder.command.Command.{Command}
use Rattle.clap.specs.declared.builder.command.Command.TheViews.{out-Command}

-- The command is built as this line or command, and no argument of it is global.
abbrev pub IsBuiltAs : App → Command → Type 0
IsBuiltAs app command = (app_of command ≡ app) × ((out-Command command).has_globals ≡ false)
