-- The command that arguments mean, and what a run of each command prints.
use Rattle.std.specs.Prelude.{codes, ℕ, Bool, true, false, if◌then◌else◌, List, Option, Some, None, unwrap_or}
use Rattle.std.specs.Option.{option_map_or, option_or}
use Rattle.clap.specs.Walk.{Text}
use Rattle.bd_io_device.specs.Devices.{Over, Reader, Writer}
use Rattle.bd_cli_args.specs.{FindOptions.FindOptions, declared.order.WordsFault.WordsFault, declared.wide_line.WideOrder.WideOrder}
use Rattle.bd_cli_args.specs.WideLine.{OrderView, fault_for, order_of}
use Rattle.bd_cli_args.specs.WideLine.OrderView.{check, dump, find, pack, serve}
use Rattle.bd_bson_check.specs.declared.profile.Profile.TheVariants.{All}
use Rattle.bd_cli_scan.specs.{Check.check_run_under, Dump.dump_run_by, Run.Prints, declared.output.Status.Status}
use Rattle.bd_cli_files.specs.Pack.{pack_run_by}
use Rattle.bd_wide_find.specs.Find.{printing_of, wide_find_run}
use Rattle.bd_wide_layout.specs.Options.{go_together, layout_named}
use Rattle.bd_wide_service.specs.Serve.{wide_serve_run}
use Rattle.bd_wide_cli.specs.{Dump.laid_out, Dump.layout_run}
use Rattle.bd_wide_cli.specs.Pack as packing
use Rattle.bd_cli_args.specs.declared.wide_line.WideOrder.TheVariants as orders

-- whether the options of a command's layout go together
abbrev pub has_one_layout : OrderView → Bool
has_one_layout (dump file layout) = go_together layout
has_one_layout (find file query_file options layout form) = go_together layout
has_one_layout _ = true

-- how arguments are refused: by the command line, or for options that are no layout together; None if they are accepted
abbrev pub words_fault : List Text → Option WordsFault
words_fault words =
    option_or (fault_for words) (if option_map_or has_one_layout (order_of words) true then None else Some WordsFault.Usage)

-- the text of the query of `find`: what was read of its file, if it has one, else that of the options;
-- without either it is `{}`
abbrev pub query_text : Option (List ℕ) → FindOptions → List ℕ
query_text read options = unwrap_or (option_or read options.query) (codes "{}")

-- For the reader of the commands of `serve`: what its reads may give, and its state before and after.
module _ {C : Type 0} (state : C → Reader) (gives : C → Option (List ℕ) → C → Type 0) (old new : C) where
  -- A run of the command did this, by what was read of the file of its query, if it has one.
  abbrev pub RunsCommand : Option (List ℕ) → WideOrder → Over Reader → Over Writer → Over Writer → Status → Type 0
  RunsCommand query (orders.Check path) file out err status = Prints (codes "bsonwide") (check_run_under All file) out err status
  RunsCommand query (orders.Dump path options) file out err status =
      Prints (codes "bsonwide") (layout_run (layout_named options) file (λ layout. dump_run_by (laid_out layout) file)) out err status
  RunsCommand query (orders.Pack path) file out err status = Prints (codes "bsonwide") (pack_run_by packing.all_types file) out err status
  RunsCommand query (orders.Find path query_file options layout form) file out err status =
      Prints (codes "bsonwide") (layout_run (layout_named layout) file
      (λ layout. wide_find_run (printing_of layout form) (query_text query options) options file)) out err status
  RunsCommand query (orders.Serve path by_value) file out err status =
      Prints (codes "bsonwide") (wide_serve_run state gives old new by_value file) out err status

-- The command is not `serve`, so no commands are read.
abbrev pub ReadsNoCommands : WideOrder → Type 0
ReadsNoCommands (orders.Serve path by_value) = ⊥
ReadsNoCommands _ = Unit {0}

-- the file of a command
abbrev pub file_in : OrderView → Text
file_in (dump file layout) = file
file_in (check file) = file
file_in (pack file) = file
file_in (find file query_file options layout form) = file
file_in (serve file by_value) = file

-- the file of a command's query, if it names one
abbrev pub query_file_in : OrderView → Option Text
query_file_in (find file query_file options layout form) = query_file
query_file_in _ = None

-- whether a command is `serve`
abbrev pub is_serve : OrderView → Bool
is_serve (serve file by_value) = true
is_serve _ = false

-- whether a command reads its whole file before it prints anything
abbrev pub reads_first : OrderView → Bool
reads_first (find file query_file options layout form) = true
reads_first (serve file by_value) = true
reads_first _ = false
