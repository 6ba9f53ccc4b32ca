-- The command lines that `bsonwide` accepts, by the parser's own definition,
-- and the command that each one means.
use Rattle.std.specs.Prelude.{List, [], ◌∷◌, ◌&&◌, ◌||◌, Bool, false, if◌then◌else◌, is_some, codes, string_bytes, Option, Some, None}
use Rattle.std.specs.{Prelude.option_map, Prelude.option_and_then, Option.option_map_or, Option.option_or, Map.lookup}
use Rattle.std.specs.Str.{bytes_eq}
use Rattle.clap.specs.Simple.{App, new_rule, subcommand_of, with_rule, with_subcommand}
use Rattle.clap.specs.Walk.{Row, Rule, Text, first_of}
use Rattle.clap.specs.declared.builder.action.ArgAction.{ArgAction}
use Rattle.bd_cli_args.specs.CommandLine.{find_app as options_app, find_options_in, with_options}
use Rattle.bd_cli_args.specs.FileCommands.{file_app, order_by, program_app, refusal_by}
use Rattle.bd_cli_args.specs.{FindOptions.FindOptions, LayoutOptions.LayoutOptions}
use Rattle.bd_cli_args.specs.declared.order.WordsFault.{WordsFault}
use Rattle.bd_cli_args.specs.declared.wide_line.{Form.Form, WideOrder.WideOrder}

-- a flag `--name`
abbrev pub flag_rule : Text → Rule
flag_rule name = record (new_rule name) { long = Some name; action = Some ArgAction.SetTrue }

-- a command with these flags too
abbrev pub with_flags : App → List Text → App
with_flags app [] = app
with_flags app (name ∷ names) = with_flags (with_rule app (flag_rule name)) names

-- a command with the options of a layout too
abbrev pub with_layout : App → App
with_layout app =
    let more = with_options app ((codes "type", false) ∷ (codes "jsonFormat", false) ∷ (codes "fields", false) ∷ []) in
    with_flags more (codes "noId" ∷ codes "noHeaderLine" ∷ codes "jsonArray" ∷ codes "pretty" ∷ [])

-- `dump` with its file and a layout
abbrev pub dump_app : App
dump_app = with_layout (file_app (codes "dump"))

-- `find` with its file, the options of `bsonfind`, one more, two flags and a layout
abbrev pub find_app : App
find_app = let app = with_options options_app ((codes "queryFile", false) ∷ []) in
    with_layout (with_rule (with_rule app (flag_rule (codes "count"))) (flag_rule (codes "bson")))

-- `serve` with its file and a flag
abbrev pub serve_app : App
serve_app = with_rule (file_app (codes "serve")) (flag_rule (codes "byValue"))

-- the command lines that the parser of `bsonwide` accepts: `check` or `pack` with one file, `find` with one file, its options and
-- its flags, `dump` with one file and a layout, and `serve` with one file and its flag
abbrev pub line_app : App
line_app = let files = codes "check" ∷ codes "pack" ∷ [] in
    with_subcommand (with_subcommand (program_app (codes "bsonwide") files find_app) dump_app.top) serve_app.top

-- a command: the meaning of the arguments, with texts as their bytes
pub data OrderView : Type 0 where
  dump : Text → LayoutOptions → OrderView
  check : Text → OrderView
  pack : Text → OrderView
  find : Text → Option Text → FindOptions → LayoutOptions → Form → OrderView
  serve : Text → Bool → OrderView

-- the command that a `WideOrder` in memory represents
abbrev pub meant : WideOrder → OrderView
meant (WideOrder.Dump file layout) = dump (string_bytes file) layout
meant (WideOrder.Check file) = check (string_bytes file)
meant (WideOrder.Pack file) = pack (string_bytes file)
meant (WideOrder.Find file query_file options layout form) =
    find (string_bytes file) (option_map string_bytes query_file) options layout form
meant (WideOrder.Serve file by_value) = serve (string_bytes file) by_value

-- whether a flag is given
abbrev pub flag_in : Text → List Row → Bool
flag_in name rows = option_map_or (λ text. bytes_eq text (codes "true")) (first_of name rows) false

-- what the flags of `find` request; without one, lines
abbrev pub form_in : List Row → Form
form_in rows = if flag_in (codes "count") rows then Form.Count else (if flag_in (codes "bson") rows then Form.Bson else Form.Lines)

-- whether an option is given
abbrev pub option_in : Text → List Row → Bool
option_in name rows = is_some (first_of name rows)

-- whether FILE or an option is given as standard input, `-`
abbrev pub is_input : Text → List Row → Bool
is_input name rows = option_map_or (λ text. bytes_eq text (codes "-")) (first_of name rows) false

-- the options of a layout
abbrev pub layout_in : List Row → LayoutOptions
layout_in rows = record {
  output = first_of (codes "type") rows;
  format = first_of (codes "jsonFormat") rows;
  fields = first_of (codes "fields") rows;
  no_id = flag_in (codes "noId") rows;
  no_header = flag_in (codes "noHeaderLine") rows;
  is_array = flag_in (codes "jsonArray") rows;
  is_pretty = flag_in (codes "pretty") rows;
}

-- whether an option of a layout is given
abbrev pub lays_out : List Row → Bool
lays_out rows =
    ((option_in (codes "type") rows || option_in (codes "jsonFormat") rows || option_in (codes "fields") rows)
    || (flag_in (codes "noId") rows || flag_in (codes "noHeaderLine") rows))
    || (flag_in (codes "jsonArray") rows || flag_in (codes "pretty") rows)

-- whether `--bson` or `--count` is given, and an option of a layout beside it
abbrev pub prints_no_text : List Row → Bool
prints_no_text rows = (flag_in (codes "bson") rows || flag_in (codes "count") rows) && lays_out rows

-- whether `--count` is given, and `--bson` or `--batch` beside it
abbrev pub counts_more : List Row → Bool
counts_more rows = flag_in (codes "count") rows && (flag_in (codes "bson") rows || option_in (codes "batch") rows)

-- whether `--query` and `--queryFile` are given, or the dump and the query are both read from standard input
abbrev pub queries_twice : List Row → Bool
queries_twice rows = (option_in (codes "query") rows && option_in (codes "queryFile") rows)
    || (is_input (codes "file") rows && is_input (codes "queryFile") rows)

-- whether the options of `find` do not go together
abbrev pub conflicts : List Row → Bool
conflicts rows = counts_more rows || queries_twice rows || prints_no_text rows

-- what each command does with its FILE, by its name
abbrev pub wide_commands : List Row → List (Text × (Text → OrderView))
wide_commands rows = (codes "dump", λ file. dump file (layout_in rows)) ∷ (codes "check", check) ∷ (codes "pack", pack)
    ∷ (codes "serve", λ file. serve file (flag_in (codes "byValue") rows))
    ∷ (codes "find", λ file. find file (first_of (codes "queryFile") rows) (find_options_in rows) (layout_in rows) (form_in rows))
    ∷ []

-- the command that a name and its parsed arguments mean
abbrev pub ordered_by : Text → List Row → Option OrderView
ordered_by name rows =
    option_and_then (λ says. option_map says (first_of (codes "file") rows)) (lookup (bytes_eq name) (wide_commands rows))

-- the command that arguments mean; None if the parser refuses them
abbrev pub order_of : List Text → Option OrderView
order_of = order_by line_app ordered_by

-- whether the arguments, as the parser reads them, have options that do not go together
abbrev pub conflicts_in : List Text → Bool
conflicts_in words = option_map_or (λ p. conflicts p.1) (subcommand_of line_app words) false

-- how arguments are refused as the parser refuses them, or because options do not go together; None if they are not
abbrev pub parser_refusal : List Text → Option WordsFault
parser_refusal words = option_or (refusal_by line_app words) (if conflicts_in words then Some WordsFault.Usage else None)

-- whether the command is `serve -`: the commands come from standard input, so the dump cannot
abbrev pub is_serve_of_input : OrderView → Bool
is_serve_of_input (serve file by_value) = bytes_eq file (codes "-")
is_serve_of_input _ = false

-- whether the arguments, as the parser reads them, mean `serve` of standard input
abbrev pub serves_input : List Text → Bool
serves_input words = option_map_or is_serve_of_input (order_of words) false

-- how arguments are refused: by the parser, for options that do not go together, or because they mean `serve -`;
-- None if they are accepted
abbrev pub fault_for : List Text → Option WordsFault
fault_for words = option_or (parser_refusal words) (if serves_input words then Some WordsFault.Usage else None)
