-- What the options of `find` request, or why they are refused.
use Rattle.std.specs.Prelude.{◌≡◌, ◌⊎◌, ℕ, nat_le, Bool, true, List, [], ◌++◌, codes, Option, Some, None}
use Rattle.std.specs.Prelude.{Result, Ok, Err, IsErr, if◌then◌else◌, string_bytes}
use Rattle.std.specs.{List.join_with_byte, Option.ok_or}
use Rattle.bd_value.specs.{Limits.greatest_count, Tree.Doc}
use Rattle.bd_extjson_fault.specs.{JsonFault.json_fault_words, TextFault.text_fault}
use Rattle.bd_extjson_fault.specs.{declared.json_fault.JsonFault.JsonFault}
use Rattle.bd_extjson_text.specs.Text.{quoted}
use Rattle.bd_extjson.specs.Read.{reading}
use Rattle.bd_path.specs.{Path.path_fault_words, declared.path.PathFault.PathFault}
use Rattle.bd_query_filter.specs.Fault.{Refusal, filter_fault_words}
use Rattle.bd_cursor_request.specs.{declared.results.Refused.Refused, declared.token.Token.Token}
use Rattle.bd_cursor_request.specs.Refused.{Reason, bad_filter, plain, reason_of, refused_words, then_part, error_as}
use Rattle.bd_cursor_request.specs.Request.{Request, named_index, request_of, token_part}
use Rattle.bd_cli_args.specs.FindOptions.{FindOptions}
use Rattle.bd_io_device.specs.Devices.{Over, Writer}
use Rattle.bd_cli_scan.specs.{Run.ReportsMessage, Output.error_line, declared.output.Status.Status}
use Rattle.bd_cli_scan.specs.declared.output.Status.TheVariants.{Failed}
use Rattle.bd_cli_files.specs.{Pack.byte_text}
use Rattle.bd_cli_find.specs.declared.options.SearchFault.{SearchFault}
use Rattle.bd_cli_find.specs.declared.options.SearchFault.TheVariants as faults
use Rattle.bd_cursor_request.specs.declared.results.Refused.TheVariants as reasons

-- ---- the texts of faults

-- the message for a query or a sort that is no Extended JSON document, after the name of the option
abbrev pub json_fault_text : List ℕ → JsonFault → List ℕ
json_fault_text name f = name ++ (byte_text (codes ": byte ") f.kind f.at ++ (codes ": " ++ json_fault_words f.kind))

-- the message for a filter that is refused: the path to the pair or member, joined by dots,
-- and which rule it breaks
abbrev pub refusal_text : Refusal → List ℕ
refusal_text r = codes "query: place "
    ++ (quoted (join_with_byte 46 r.place) ++ (codes ": " ++ filter_fault_words r.kind))

-- the message for an option `--index` that is not a path
abbrev pub index_fault_text : PathFault → List ℕ
index_fault_text fault = codes "index: " ++ path_fault_words fault

-- the name of the refused option, if it is an option that is refused
abbrev pub refused_option : Refused → List ℕ
refused_option reasons.BadSort = codes "sort: "
refused_option reasons.BadToken = codes "token: "
refused_option reasons.ForeignToken = codes "token: "
refused_option reasons.TokenPlace = codes "token: "
refused_option _ = []

-- the message for a refusal, after the name of its option
abbrev pub refused_text : Reason → List ℕ
refused_text (bad_filter r) = refusal_text r
refused_text (plain refused) = refused_option refused ++ refused_words refused

-- the document of a query or a sort, or the message of the fault of its text; without a text it is `{}`
abbrev pub document_in : List ℕ → Option (List ℕ) → Result Doc (List ℕ)
document_in name None = Ok []
document_in name (Some text) = ok_or (reading text) (json_fault_text name (text_fault text))

-- whether the size of a batch is at most 2,147,483,647
abbrev pub fits_batch : Option ℕ → Bool
fits_batch None = true
fits_batch (Some n) = nat_le n greatest_count

-- the option `--batch`, refused if it is above 2,147,483,647
abbrev pub batch_part : Option ℕ → Result (Unit {0}) Reason
batch_part size = if fits_batch size then Ok tt else Err (plain reasons.Range)

-- the token of the option `--after`, if it is given; a text that is not a token is refused
abbrev pub after_part : Option (List ℕ) → Result (Option Token) Reason
after_part None = Ok None
after_part (Some text) = then_part (token_part text) (λ t. Ok (Some t))

-- What a query, a sort and the other options request, or the message of the first refusal:
-- of the request, the batch size, the path of the index, the token.
abbrev pub search_of : FindOptions → Doc → Doc → Result (Request × Option Token) (List ℕ)
search_of options query sort =
    then_part (error_as refused_text (request_of query sort options.skip options.limit)) (λ request.
    then_part (error_as refused_text (batch_part options.batch)) (λ _.
    then_part (error_as index_fault_text (named_index options.index)) (λ _.
    then_part (error_as refused_text (after_part options.after)) (λ token. Ok (request, token)))))

-- What a query and the options request, or the message of the first refusal: of the sort's text, then the rest.
abbrev pub requested_with : FindOptions → Doc → Result (Request × Option Token) (List ℕ)
requested_with options query = then_part (document_in (codes "sort") options.sort) (search_of options query)

-- What the options of `find` request, and the token after which it resumes; or the message of the first refusal:
-- of the query's text, the sort's text, then the rest.
abbrev pub requested_by : FindOptions → Result (Request × Option Token) (List ℕ)
requested_by options = then_part (document_in (codes "query") options.query) (requested_with options)

-- The options of `find` are refused, whatever the file contains.
abbrev pub RequestsNothing : FindOptions → Type 0
RequestsNothing options = IsErr (requested_by options)

-- ---- how a refusal is reported

-- The fault reports the message with which the part is refused, or that memory ran out.
abbrev pub ReportsSearchFault : {Given : Type 0} → Result Given (List ℕ) → SearchFault → Type 0
ReportsSearchFault part faults.NoMemory = Unit {0}
ReportsSearchFault part (faults.Refused refused) = part ≡ Err (refused_text (reason_of refused))
ReportsSearchFault part (faults.Message message) = part ≡ Err (string_bytes message)

-- The line of the refusal was written; for a filter it may say instead that memory ran out.
abbrev pub ReportsRefusal : List ℕ → Over Writer → Reason → Status → Type 0
ReportsRefusal program err (plain refused) status = ReportsMessage err (error_line program (refused_text (plain refused))) Failed status
ReportsRefusal program err (bad_filter r) status = ReportsMessage err (error_line program (refusal_text r)) Failed status
    ⊎ ReportsMessage err (error_line program (codes "no memory")) Failed status
