-- Accepted command lines of `bsonwide` have a command.
use Rattle.std.proofs.Common.{◌≡◌, ◌⊎◌, inl, inr, refl, ap, ap₂, ◌∙◌, Bool, false, List, codes, Option, Some, None, is_some, option_and_then, option_map, if◌then◌else◌}
use Rattle.std.specs.{Map.lookup, Option.option_map_or, Option.option_or, Str.bytes_eq}
use Rattle.clap.specs.Simple.{subcommand_of}
use Rattle.clap.specs.declared.error.kind.ErrorKind.TheVariants.{MissingSubcommand}
use Rattle.clap.specs.Walk.{Row, Text, first_of}
use Rattle.clap.proofs.{WalkLemmas.first_value-rows, WalkLemmas.one_text-rows, WalkLemmas.raw_values-rows}
use Rattle.bd_cli_args.specs.CommandLine.{find_options_in}
use Rattle.bd_cli_args.specs.FileCommands.{file_app, refusal_by}
use Rattle.bd_cli_args.specs.declared.order.WordsFault.{WordsFault}
use Rattle.bd_cli_args.specs.declared.order.WordsFault.TheVariants.{NoMemory, Usage}
use Rattle.bd_cli_args.specs.WideLine.{OrderView, wide_commands, check, conflicts, conflicts_in, dump, dump_app, pack, flag_in, parser_refusal, serve, serve_app, find_app, form_in, layout_in, line_app, ordered_by}
use Rattle.bd_cli_args.proofs.ProgramLemmas.{EachShape, HasOrders, IsProgram, file_given, file_orders, refused, shape_in}

pub is_program : IsProgram line_app ordered_by
unfolding EachShape
is_program = record {
  simple = refl;
  free = refl;
  plain = refl;
  requires_one = λ rows c. refused MissingSubcommand c;
  each = (
    of_file (codes "check") check (λ rows. refl),
    (of_file (codes "pack") pack (λ rows. refl), (finds, (dumps, (serves, tt)))),
  );
}
  where
    of_file : (name : Text) (says : Text → OrderView) → ((rows : List Row) → ordered_by name rows ≡ option_map says (first_of (codes "file") rows)) → HasOrders line_app ordered_by (shape_in line_app (file_app name))
    of_file name says is = file_orders line_app ordered_by (shape_in line_app (file_app name)) (λ rows. says) refl (λ rows c. file_given _ _ c) is

    finds : HasOrders line_app ordered_by (shape_in line_app find_app)
    finds = file_orders line_app ordered_by (shape_in line_app find_app) (λ rows file. OrderView.find file (first_of (codes "queryFile") rows) (find_options_in rows) (layout_in rows) (form_in rows)) refl (λ rows c. file_given _ _ c) (λ rows. refl)

    dumps : HasOrders line_app ordered_by (shape_in line_app dump_app)
    dumps = file_orders line_app ordered_by (shape_in line_app dump_app) (λ rows file. dump file (layout_in rows)) refl (λ rows c. file_given _ _ c) (λ rows. refl)

    serves : HasOrders line_app ordered_by (shape_in line_app serve_app)
    serves = file_orders line_app ordered_by (shape_in line_app serve_app) (λ rows file. serve file (flag_in (codes "byValue") rows)) refl (λ rows c. file_given _ _ c) (λ rows. refl)

-- what the getters read from the matches
pub ruleset readings = (first_value-rows, one_text-rows, raw_values-rows)

-- whatever the command, without a FILE there is no order
no_order : (o : Option (Text → OrderView)) → option_and_then (λ says. option_map says None) o ≡ None
no_order None = refl
no_order (Some says) = refl

-- without FILE there is no command
pub no_file : (name : Text) (rows : List Row) → first_of (codes "file") rows ≡ None → ordered_by name rows ≡ None
no_file name rows e = rw e (no_order (lookup (bytes_eq name) (wide_commands rows)))

pub some_mapped : {X Y : Type 0} (f : X → Y) (o : Option X) → is_some (option_map f o) ≡ is_some o
some_mapped f None = refl
some_mapped f (Some x) = refl

-- ---- how arguments are refused

-- by the parser's refusal, and by whether they have options that do not go together
pub explained_by : (words : List Text) (refusal : Option WordsFault) (both : Bool) → refusal_by line_app words ≡ refusal → conflicts_in words ≡ both
    → parser_refusal words ≡ option_or refusal (if both then Some Usage else None)
explained_by words refusal both refused counts =
    ap₂ (λ (r : Option WordsFault) (b : Bool). option_or r (if b then Some Usage else None)) refused counts

-- what the parser refuses is refused
pub refused_too : (words : List Text) (f : WordsFault) → (f ≡ NoMemory) ⊎ (refusal_by line_app words ≡ Some f)
    → (f ≡ NoMemory) ⊎ (parser_refusal words ≡ Some f)
refused_too words f (inl memory) = inl memory
refused_too words f (inr refused) = inr (explained_by words (Some f) (conflicts_in words) refused refl)

pub conflicts_by : (words : List Text) (name : Text) (rows : List Row) (both : Bool) → subcommand_of line_app words ≡ Some (name, rows) → conflicts rows ≡ both
    → conflicts_in words ≡ both
conflicts_by words name rows both is e = ap (λ o. option_map_or (λ (p : Text × List Row). conflicts p.1) o false) is ∙ e
