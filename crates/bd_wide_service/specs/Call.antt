-- The call in a line of a session over a dump of all types: numbers match, and are sorted, by their values.
use Rattle.std.specs.Prelude.{◌≡◌, ◌⊎◌, ℕ, ℤ, List, [], ◌∷◌, codes, Some, None, Result, Ok, Err}
use Rattle.std.specs.List.{join_with_byte}
use Rattle.bd_value.specs.{Tree.Doc, Tree.doc, Tree.fields_of, Tree.leaf, Tree.text, Fits.Fits}
use Rattle.bd_extjson_fault.specs.declared.json_fault.JsonFault.{JsonFault}
use Rattle.bd_extjson_fault.specs.declared.json_fault.JsonFaultKind.TheVariants.{NotADocument}
use Rattle.bd_cursor_model.specs.Session.{Call, explain_call, find_call, resume_call}
use Rattle.bd_cursor_request.specs.{Refused.error_as, Request.Request, Request.token_part, declared.token.Token.Token}
use Rattle.bd_cursor_sort.specs.Selection.{query_to}
use Rattle.bd_cursor.specs.{Explanation.explanation_for, SessionView.positioned_token}
use Rattle.bd_cli_command.specs.{CommandOf.command_of, declared.command.CommandFault.CommandFault}
use Rattle.bd_cli_command.specs.Command.{Command, FindCommand, explains, finds, resumes}
use Rattle.bd_cli_service.specs.Reply.{ReportedRefusal, command_refusal, json_refusal, session_refusal}
use Rattle.bd_cli_service.specs.Talk.{call_of, hint_path, request_for, way_by}
use Rattle.bd_wide_number.specs.declared.number.Number.{Number}
use Rattle.bd_wide_rank.specs.{Rank.code, Worth.worth}
use Rattle.bd_wide_copy.specs.{Classes.no_longs, Copy.number_coded, Dump.IsCopyOfDump, Dump.coded_documents}
use Rattle.bd_wide_substitute.specs.Both.{IsRead, IsUnread}
use Rattle.bd_wide_query.specs.{Coded.coded_query, Coded.valued_query, Split.Split, Split.first_split}
use Rattle.bd_wide_find.specs.Find.{HasTable, request_by_value}

-- A dump of these bytes by value: its documents, the worth of each number in them once, and a copy of the dump in which each number
-- is its rank among those. The types of numbers are one class.
pub record ByValue (bytes : List ℕ) : Type 0 where
  pub ds : List Doc
  pub table : List ℤ
  pub has : HasTable no_longs bytes ds table
  pub copy : List ℕ
  pub copied : IsCopyOfDump no_longs worth (code table) bytes copy

-- the documents of the copy
abbrev pub copies : {bytes : List ℕ} → ByValue bytes → List Doc
copies v = coded_documents (number_coded (code v.table)) v.ds

-- ---- commands

-- The line is a command, as two: with whole numbers for its doubles and decimal128, and with empty texts; these are the numbers.
pub record IsCommandIn (line : List ℕ) (wholes texts : Command) (numbers : List Number) : Type 0 where
  pub whole : Doc
  pub text : Doc
  pub read : IsRead line whole text numbers
  pub of_wholes : command_of whole ≡ Ok wholes
  pub of_texts : command_of text ≡ Ok texts

-- The line is no document, or no command; a double or a decimal128 is neither a text nor a whole number.
abbrev pub IsNoCommandIn : List ℕ → ReportedRefusal → Type 0
IsNoCommandIn line why = ((fault : JsonFault) × IsUnread line fault × (why ≡ json_refusal fault))
    ⊎ ((whole : Doc) × (text : Doc) × (numbers : List Number) × (fault : CommandFault) × IsRead line whole text numbers
    × ((command_of text ≡ Err fault) ⊎ (((texts : Command) × (command_of text ≡ Ok texts)) × (command_of whole ≡ Err fault)))
    × (why ≡ command_refusal fault))

-- the filter of a command; `{}` if it has none
abbrev pub filter_in : Command → Doc
filter_in (finds f) = f.filter
filter_in (resumes token f) = f.filter
filter_in (explains f) = f.filter
filter_in c = []

-- ---- searches

-- a search with another filter
abbrev pub with_filter : Doc → FindCommand → FindCommand
with_filter filter f = record f { filter = filter }

-- the refusal of a `$type` of some of the types of numbers: layer `numbers`, with its place in the filter as that of a filter's fault
abbrev pub types_refusal : List (List ℕ) → ReportedRefusal
types_refusal place = record {
  layer = codes "numbers";
  number = 1;
  words = codes "the types of numbers are not told apart here";
  place = (codes "place", leaf (text (join_with_byte 46 place))) ∷ [];
}

-- For the numbers of a table, and a search with empty texts in place of these numbers, with the filter that has whole numbers:
module _ (table : List ℤ) (numbers : List Number) (wholes : Doc) (f : FindCommand) where
  -- the search by value
  abbrev pub search_by_value : FindCommand
  search_by_value = with_filter (valued_query no_longs numbers wholes f.filter) f

  -- the search with ranks
  abbrev pub coded_search : FindCommand
  coded_search = with_filter (coded_query table no_longs numbers wholes f.filter) f

  -- This is its request by value, with NaN as in MongoDB. The text is that of the request with ranks.
  pub record IsSearch (r : Request) : Type 0 where
    pub by_texts : Request
    pub requested_by_texts : request_for f ≡ Ok by_texts
    pub fits : Fits (doc (fields_of coded_search.filter))
    pub request : Request
    pub requested : request_for search_by_value ≡ Ok request
    pub alike : first_split no_longs (fields_of f.filter) ≡ None
    pub coded : Request
    pub written : request_for coded_search ≡ Ok coded
    pub is : r ≡ request_by_value table request coded

  -- The filter with ranks is no document.
  abbrev pub IsUnfit : ReportedRefusal → Type 0
  IsUnfit why = (Fits (doc (fields_of coded_search.filter)) → ⊥) × (why ≡ json_refusal (record { kind = NotADocument; at = 0 }))

  -- The search by value is refused, or a `$type` of its filter splits the types of numbers: then the refusal has the place of the first one.
  abbrev pub IsRefusedByValue : ReportedRefusal → Type 0
  IsRefusedByValue why = (request_for search_by_value ≡ Err why)
      ⊎ ((request : Request) × (split : Split) × (request_for search_by_value ≡ Ok request)
      × (first_split no_longs (fields_of f.filter) ≡ Some split) × (why ≡ types_refusal split.path))

  -- It is refused: by what it requests with empty texts, otherwise for its filter with ranks, otherwise by value.
  abbrev pub IsNoSearch : ReportedRefusal → Type 0
  IsNoSearch why = (request_for f ≡ Err why)
      ⊎ (((by_texts : Request) × (request_for f ≡ Ok by_texts))
      × (IsUnfit why ⊎ (Fits (doc (fields_of coded_search.filter)) × IsRefusedByValue why)))

-- ---- calls

module _ {bytes : List ℕ} (v : ByValue bytes) (numbers : List Number) (wholes : Doc) where
  -- A command, with empty texts in place of numbers, is this call, by value over the documents. Of the copy only its digest is
  -- used, for the tokens of cursors.
  abbrev pub IsCall : Command → Call → Type 0
  IsCall (finds f) call = (r : Request) × IsSearch v.table numbers wholes f r
      × (call ≡ find_call (query_to v.copy v.ds r) (hint_path f.hint))
  IsCall (resumes token f) call = (t : Token) × (r : Request) × (token_part token ≡ Ok t) × IsSearch v.table numbers wholes f r
      × (call ≡ resume_call (query_to v.copy v.ds r) (hint_path f.hint) (positioned_token t))
  IsCall (explains f) call = (r : Request) × IsSearch v.table numbers wholes f r
      × (call ≡ explain_call (hint_path f.hint) (explanation_for v.ds r (way_by f.hint)))
  IsCall c call = call_of v.copy v.ds c ≡ Ok call

  -- A command is refused; for `resume` the token is checked first.
  abbrev pub IsNoCall : Command → ReportedRefusal → Type 0
  IsNoCall (finds f) why = IsNoSearch v.table numbers wholes f why
  IsNoCall (resumes token f) why = (error_as session_refusal (token_part token) ≡ Err why)
      ⊎ (((t : Token) × (token_part token ≡ Ok t)) × IsNoSearch v.table numbers wholes f why)
  IsNoCall (explains f) why = IsNoSearch v.table numbers wholes f why
  IsNoCall c why = call_of v.copy v.ds c ≡ Err why

-- A line is this call, or it is refused for this reason.
abbrev pub IsCallIn : {bytes : List ℕ} → ByValue bytes → List ℕ → Result Call ReportedRefusal → Type 0
IsCallIn v line (Ok call) = (wholes : Command) × (texts : Command) × (numbers : List Number) × IsCommandIn line wholes texts numbers
    × IsCall v numbers (filter_in wholes) texts call
IsCallIn v line (Err why) = IsNoCommandIn line why
    ⊎ ((wholes : Command) × (texts : Command) × (numbers : List Number) × IsCommandIn line wholes texts numbers
    × IsNoCall v numbers (filter_in wholes) texts why)
