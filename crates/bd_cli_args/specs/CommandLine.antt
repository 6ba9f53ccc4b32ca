-- The command lines that `bsonfind` accepts, by the parser's own definition,
-- and the command that each one means.
use Rattle.std.specs.Prelude.{◌≡◌, ◌==◌, ◌⊎◌, ℕ, List, [], ◌∷◌, Bool, true, false, not, if◌then◌else◌, map}
use Rattle.std.specs.Prelude.{slice_get, codes, String, string_bytes, Option, Some, None, option_map, option_and_then}
use Rattle.std.specs.{Prelude.unwrap_or, Prelude.Result, Prelude.MatchResult, Option.option_map_or, Option.option_or}
use Rattle.std.specs.Map.{lookup}
use Rattle.std.specs.Str.{bytes_eq, Parse.digits_value, Parse.without_leading_plus}
use Rattle.clap.specs.Simple.{App, new_rule, with_rule}
use Rattle.clap.specs.Walk.{Row, Rule, Text, first_of, one_of}
use Rattle.clap.specs.declared.builder.{value_parser.ValueParser.ValueParser, action.ArgAction.ArgAction}
use Rattle.clap.specs.ValueTests.{is_unsigned_in}
use Rattle.bd_value.specs.Limits.{greatest_count}
use Rattle.bd_cli_args.specs.FileCommands.{file_app, order_by, program_app, refusal_by}
use Rattle.bd_cli_args.specs.FindOptions.{FindOptions}
use Rattle.bd_cli_args.specs.declared.order.{Order.Order, WordsFault.WordsFault}

-- ---- the command lines that are accepted, as the parser defines them

-- an option `--name` of `find`, with a text, or with a number from 0 to 2,147,483,647
abbrev pub option_rule : Text → Bool → Rule
option_rule name takes_number = record (new_rule name) {
  long = Some name;
  action = Some ArgAction.Set;
  parser = if takes_number then Some (ValueParser.Unsigned 0 greatest_count) else None;
}

-- a command with these options too, and whether each takes a number
abbrev pub with_options : App → List (Text × Bool) → App
with_options app [] = app
with_options app (o ∷ os) = with_options (with_rule app (option_rule o.0 o.1)) os

-- `find` with its file and its seven options
abbrev pub find_app : App
find_app = with_options (file_app (codes "find"))
    ((codes "query", false) ∷ (codes "sort", false) ∷ (codes "skip", true) ∷ (codes "limit", true)
    ∷ (codes "batch", true) ∷ (codes "index", false) ∷ (codes "after", false) ∷ [])

-- the command lines that `bsonfind` accepts: `dump`, `check`, `pack` or `serve` with one file,
-- and `find` with one file and its options
abbrev pub line_app : App
line_app = program_app (codes "bsonfind") (codes "dump" ∷ codes "check" ∷ codes "pack" ∷ codes "serve" ∷ []) find_app

-- a command: the meaning of the arguments, with texts as their bytes
pub data OrderView : Type 0 where
  dump : Text → OrderView
  check : Text → OrderView
  pack : Text → OrderView
  find : Text → FindOptions → OrderView
  serve : Text → OrderView

-- The name is that of a command that takes one file and nothing else, and this is the meaning of its arguments.
abbrev pub IsFileCommand : Text → (Text → OrderView) → Type 0
IsFileCommand name order = ((name ≡ codes "dump") × (order ≡ dump)) ⊎ ((name ≡ codes "check") × (order ≡ check))
    ⊎ ((name ≡ codes "pack") × (order ≡ pack)) ⊎ ((name ≡ codes "serve") × (order ≡ serve))

-- the command that an `Order` in memory represents
abbrev pub meant : Order → OrderView
meant (Order.Dump file) = dump (string_bytes file)
meant (Order.Check file) = check (string_bytes file)
meant (Order.Pack file) = pack (string_bytes file)
meant (Order.Find file options) = find (string_bytes file) options
meant (Order.Serve file) = serve (string_bytes file)

-- the file of a command
abbrev pub file_in : OrderView → Text
file_in (dump file) = file
file_in (check file) = file
file_in (pack file) = file
file_in (find file options) = file
file_in (serve file) = file

-- whether the command is a session
abbrev pub is_serve : OrderView → Bool
is_serve (serve file) = true
is_serve _ = false

-- arguments in memory, each as its UTF-8 bytes
abbrev pub words_of : {Z : Type 0} → List (String Z) → List Text
words_of = map string_bytes

-- the number in the text of an option, if it fits 32 bits
abbrev pub number_read : Text → Option ℕ
number_read text = if is_unsigned_in 0 4294967295 text then Some (digits_value 10 (without_leading_plus text)) else None

-- the number of an option, if it is given
abbrev pub option_number : Text → List Row → Option ℕ
option_number name rows = option_and_then number_read (one_of name rows)

-- the options of `find`; skip and limit are 0 if they are not given
abbrev pub find_options_in : List Row → FindOptions
find_options_in rows = record {
  query = first_of (codes "query") rows;
  sort = first_of (codes "sort") rows;
  skip = unwrap_or (option_number (codes "skip") rows) 0;
  limit = unwrap_or (option_number (codes "limit") rows) 0;
  batch = option_number (codes "batch") rows;
  index = first_of (codes "index") rows;
  after = first_of (codes "after") rows;
}

-- what each command does with its FILE, by its name
abbrev pub commands : List Row → List (Text × (Text → OrderView))
commands rows =
    (codes "dump", dump) ∷ (codes "check", check) ∷ (codes "pack", pack) ∷ (codes "serve", serve)
    ∷ (codes "find", λ file. find file (find_options_in rows)) ∷ []

-- the command that a name and its parsed arguments mean
abbrev pub ordered_by : Text → List Row → Option OrderView
ordered_by name rows =
    option_and_then (λ says. option_map says (first_of (codes "file") rows)) (lookup (bytes_eq name) (commands rows))

-- the command that arguments mean; None if they are refused
abbrev pub order_of : List Text → Option OrderView
order_of = order_by line_app ordered_by

-- how the parser's refusal of arguments is reported; None if it accepts them
abbrev pub parser_refusal : List Text → Option WordsFault
parser_refusal = refusal_by line_app

-- whether the command is `serve -`: the commands come from standard input, so the dump cannot
abbrev pub is_serve_of_input : OrderView → Bool
is_serve_of_input (serve file) = bytes_eq file (codes "-")
is_serve_of_input _ = false

-- whether the arguments, as the parser reads them, mean `serve` of standard input
abbrev pub serves_input : List Text → Bool
serves_input words = option_map_or is_serve_of_input (order_of words) false

-- how arguments are refused: as the parser refuses them, or because they mean `serve -`;
-- None if they are accepted
abbrev pub fault_for : List Text → Option WordsFault
fault_for words = option_or (parser_refusal words) (if serves_input words then Some WordsFault.Usage else None)

-- The result is this command, or memory ran out.
abbrev pub GivesOrder : Result Order WordsFault → OrderView → Type 0
GivesOrder answer order = MatchResult answer (λ o. meant o ≡ order) (λ f. f ≡ WordsFault.NoMemory)

-- whether the first argument is `help`
abbrev pub is_help_line : List Text → Bool
is_help_line words = option_map_or (λ word. bytes_eq word (codes "help")) (slice_get words 0) false

-- whether an argument may be FILE, or follow `--index` or `--after`:
-- if it has two bytes or more, it does not begin with a hyphen
abbrev pub is_file_word : Text → Bool
is_file_word (x ∷ y ∷ rest) = not (x == 45)
is_file_word _ = true
