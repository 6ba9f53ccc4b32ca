-- What a run of each command prints.
use Rattle.std.specs.Prelude.{◌⊎◌, ◌<◌, ◌++◌, List, ℕ, Option, codes}
use Rattle.bd_io_device.specs.Devices.{Over, Reader, Writer}
use Rattle.bd_cli_scan.specs.{Check.check_run, Dump.dump_run, Run.Run}
use Rattle.bd_cli_files.specs.{Pack.pack_run}
use Rattle.bd_cli_args.specs.{declared.order.Order.Order}
use Rattle.bd_cli_main.specs.Usage.{WriterFails}
use Rattle.bd_cli_find.specs.{Find.find_run, Options.RequestsNothing}
use Rattle.bd_cli.specs.Serve.{serve_run}
use Rattle.bd_cli_args.specs.declared.order.Order.TheVariants as orders

-- For the reader of the commands of `serve`: what its reads may give, and its state before and after.
module _ {C : Type 0} (state : C → Reader) (gives : C → Option (List ℕ) → C → Type 0) (old new : C) where
  -- a run of the command on this file
  abbrev pub order_run : Order → Over Reader → Run
  order_run (orders.Dump path) file = dump_run file
  order_run (orders.Check path) file = check_run file
  order_run (orders.Pack path) file = pack_run file
  order_run (orders.Find path options) file = find_run options file
  order_run (orders.Serve path) file = serve_run state gives old new file

-- The command is a `find` whose options are refused, whatever the file contains, so the file is not read.
abbrev pub ReadsNoFile : Order → Type 0
ReadsNoFile (orders.Find path options) = RequestsNothing options
ReadsNoFile _ = ⊥

-- The command is not `serve`, so no commands are read.
abbrev pub ReadsNoCommands : Order → Type 0
ReadsNoCommands (orders.Serve path) = ⊥
ReadsNoCommands _ = Unit {0}

-- A read or a write failed: a count of failures rose.
abbrev pub DeviceFails : Over Reader → Over Reader → Over Writer → Over Writer → Type 0
DeviceFails file commands out err =
    (file.before.failures < file.after.failures) ⊎ (commands.before.failures < commands.after.failures)
    ⊎ WriterFails out err

-- the usage of `bsonfind`
abbrev pub usage : List ℕ
usage = codes "usage: bsonfind dump FILE\n"
    ++ codes "       bsonfind check FILE\n"
    ++ codes "       bsonfind pack FILE\n"
    ++ codes "       bsonfind find FILE [--query Q] [--sort S] [--skip N] [--limit N] [--batch N] [--index PATH] [--after TOKEN]\n"
    ++ codes "       bsonfind serve FILE\n"
