-- The layout that options request.
use Rattle.std.specs.Prelude.{ℕ, List, [], Bool, true, false, not, ◌==◌, ◌&&◌, ◌||◌, if◌then◌else◌, codes, is_some, Option, Some, None, option_map, option_and_then}
use Rattle.std.specs.{List.slice_split, Str.bytes_eq}
use Rattle.csv.specs.Writing.{default_writer, row_text}
use Rattle.bd_path.specs.Reach.{Names}
use Rattle.bd_cli_args.specs.LayoutOptions.{LayoutOptions}
use Rattle.bd_wide_dump.specs.declared.format.JsonFormat.{JsonFormat}
use Rattle.bd_wide_dump.specs.Fields.{columns_named, fields_named}
use Rattle.bd_wide_layout.specs.Layout.{LayoutView, json, csv}

-- whether the word of `--type` is `csv`
abbrev pub is_csv : Option (List ℕ) → Bool
is_csv None = false
is_csv (Some word) = bytes_eq word (codes "csv")

-- whether the word of `--type` is `json`, or is not given
abbrev pub is_json : Option (List ℕ) → Bool
is_json None = true
is_json (Some word) = bytes_eq word (codes "json")

-- whether the word of `--jsonFormat` names a format, or is not given
abbrev pub is_format : Option (List ℕ) → Bool
is_format None = true
is_format (Some word) = bytes_eq word (codes "canonical") || bytes_eq word (codes "relaxed")

-- whether options are those of a layout of CSV: `--fields` is given, and no word for JSON alone
abbrev pub go_with_csv : LayoutOptions → Bool
go_with_csv o = (is_some o.fields && not o.no_id) && (not (is_some o.format) && (not o.is_array && not o.is_pretty))

-- whether options are those of a layout of JSON: the words are known, no header is left out, and `--noId` has `--fields` beside it
abbrev pub go_with_json : LayoutOptions → Bool
go_with_json o = (is_json o.output && is_format o.format) && (not o.no_header && (is_some o.fields || not o.no_id))

-- whether options are those of one layout
abbrev pub go_together : LayoutOptions → Bool
go_together o = if is_csv o.output then go_with_csv o else go_with_json o

-- the format that the word of `--jsonFormat` names; canonical if it is not `relaxed`
abbrev pub format_named : Option (List ℕ) → JsonFormat
format_named None = JsonFormat.Canonical
format_named (Some word) = if bytes_eq word (codes "relaxed") then JsonFormat.Relaxed else JsonFormat.Canonical

-- the paths that the text of `--fields` requests, or None without a text; None if the text is refused
abbrev pub paths_named : Bool → Option (List ℕ) → Option (Option (List Names))
paths_named no_id None = Some None
paths_named no_id (Some text) = option_map (λ paths. Some paths) (fields_named no_id text)

-- the layout of JSON that options request; None if their fields are refused
abbrev pub json_named : LayoutOptions → Option LayoutView
json_named o = option_map (λ paths. json (record {
  format = format_named o.format;
  paths = paths;
  is_array = o.is_array;
  is_pretty = o.is_pretty;
})) (paths_named o.no_id o.fields)

-- what is before the rows of the fields in a text: the header row, which is the texts between its commas, or nothing
abbrev pub header_named : Bool → List ℕ → List ℕ
header_named no_header text = if no_header then [] else row_text default_writer (slice_split (λ c. c == 44) text)

-- the layout of CSV that the text of `--fields` requests; None if the text is refused
abbrev pub csv_named : Bool → List ℕ → Option LayoutView
csv_named no_header text = option_map (λ columns. csv columns (header_named no_header text)) (columns_named text)

-- the layout that options request; None if their fields are refused, or CSV has none
abbrev pub layout_named : LayoutOptions → Option LayoutView
layout_named o = if is_csv o.output then option_and_then (csv_named o.no_header) o.fields else json_named o
