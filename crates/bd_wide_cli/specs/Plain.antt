-- What `bsonwide find` prints with no options but those of `bsonfind`, and which queries and files both programs treat alike.
use Rattle.std.specs.Prelude.{◌≡◌, ◌⊎◌, ℕ, List, [], ◌++◌, false, drop, Option, None, Ok}
use Rattle.std.specs.{Io.KnownBytes.Consumes, List.All}
use Rattle.bd_value.specs.Tree.{Doc}
use Rattle.bd_io_device.specs.Devices.{Over, Reader}
use Rattle.bd_io_lines.specs.Lines.{AreWhole, commands_of}
use Rattle.bd_bson_check.specs.{Dump.IsDumpScan, Fault.Fault, FirstFault.ReportsNoNumber}
use Rattle.bd_extjson.specs.Read.{reading}
use Rattle.bd_extjson_fault.specs.TextFault.{text_fault}
use Rattle.bd_extjson_fault.specs.declared.json_fault.JsonFaultKind.TheVariants.{NotInProfile}
use Rattle.bd_cli_args.specs.{FindOptions.FindOptions, LayoutOptions.LayoutOptions, declared.wide_line.Form.Form}
use Rattle.bd_cli_scan.specs.{Input.ReadsInput, Run.Run}
use Rattle.bd_wide_find.specs.Find.{printing_of, wide_find_run}
use Rattle.bd_wide_layout.specs.Options.{layout_named}
use Rattle.bd_wide_service.specs.Places.{absent, placed_line}
use Rattle.bd_wide_substitute.specs.{Both.HasNoValues, Reported.begins_number, Substitutes.wrapper_at}
use Rattle.bd_wide_cli.specs.{Command.query_text, Dump.layout_run}

-- the options of a layout if none of its words is given
abbrev pub no_words : LayoutOptions
no_words = record {
  output = None;
  format = None;
  fields = None;
  no_id = false;
  no_header = false;
  is_array = false;
  is_pretty = false;
}

-- a run of `bsonwide find` with no options but those of `bsonfind find`
abbrev pub plain_find_run : FindOptions → Over Reader → Run
plain_find_run options file = layout_run (layout_named no_words) file
    (λ layout. wide_find_run (printing_of layout Form.Lines) (query_text None options) options file)

-- If `bsonfind` does not support what is at the fault of a text, that is no number and no wrapper of a double, a decimal128, a date
-- or a UUID.
abbrev pub FailsElsewhere : List ℕ → Type 0
FailsElsewhere text = (text_fault text).kind ≡ NotInProfile → let here = drop (text_fault text).at text in
    (begins_number here ≡ false) × (wrapper_at here ≡ None)

-- If `bsonfind` refuses the text, it has no double, no decimal128, and no date or UUID that is a text, and none of these is at its fault.
abbrev pub IsReadAlike : List ℕ → Type 0
IsReadAlike text = reading text ≡ None → HasNoValues text × FailsElsewhere text

-- In all bytes that a file gives, the first fault by the nineteen types, if there is one, is neither a double nor a decimal128.
abbrev pub GivesNoNumber : Over Reader → Type 0
GivesNoNumber file = (bytes : List ℕ) → ReadsInput file (Ok bytes)
    → (ds : List Doc) × (end : Option Fault) × IsDumpScan ds end bytes × ReportsNoNumber end

-- No command that was read asks for the numbers of documents, by the field `places`.
abbrev pub AskForDocuments : Reader → Reader → Type 0
AskForDocuments before after = (given rest : List ℕ) → Consumes before.remaining after.remaining (given ++ rest)
    → (rest ≡ []) ⊎ AreWhole given → All (λ command. placed_line command ≡ absent) (commands_of given)
