-- A session over lines: the call in a line, the replies to lines, and the laws about them.
use Rattle.std.specs.Prelude.{◌≡◌, ◌==◌, ℕ, List, [], ◌∷◌, ◌++◌, map, if◌then◌else◌, Option, Some}
use Rattle.std.specs.Prelude.{option_map, Result, Ok, Err}
use Rattle.std.specs.{List.filter_map, List.flat_map, List.zip, Option.ok_or, Result.result_ok}
use Rattle.bd_value.specs.Tree.{Doc}
use Rattle.bd_cursor_model.specs.Laws.{GivesInTurn, new_state}
use Rattle.bd_cursor_model.specs.Session.{Call, GivenBatch, Query, State, drop_call, explain_call, find_call, gave, kill_call}
use Rattle.bd_cursor_model.specs.Session.{next_call, resume_call, state_after}
use Rattle.bd_path.specs.Path.{path_of}
use Rattle.bd_cursor_request.specs.{Refused.then_part, Refused.error_as, Refused.plain, Results.positioned_text}
use Rattle.bd_cursor_request.specs.Request.{Request, named_index, request_of, token_part}
use Rattle.bd_cursor_sort.specs.Selection.{query_to}
use Rattle.bd_cursor.specs.Access.{Way, by_any, by_none, by_one}
use Rattle.bd_cursor.specs.Explanation.{explanation_for}
use Rattle.bd_cursor.specs.SessionView.{make_of, positioned_token, path_named}
use Rattle.bd_cli_command.specs.Command.{Command, FindCommand, Hint, any_way, by_index, by_scan, creates_index, drops_index}
use Rattle.bd_cli_command.specs.Command.{finds, gets_more, kills_cursor, resumes}
use Rattle.bd_cli_command.specs.CommandOf.{command_of}
use Rattle.bd_cli_service.specs.Reply.{LineReply, ReportedRefusal, command_refusal, done, explains, gives, json_refusal, makes}
use Rattle.bd_cli_service.specs.Reply.{opens, path_refusal, refuses, reply_text, session_refusal}
use Rattle.bd_extjson_fault.specs.TextFault.{text_fault}
use Rattle.bd_extjson.specs.Read.{reading}
use Rattle.bd_bson_dump.specs.Collection.{documents_at}
use Rattle.bd_cursor_model.specs.Session as machine
use Rattle.bd_cli_command.specs.Command as commands
use Rattle.bd_cursor_request.specs.declared.results.Refused.TheVariants as reasons

-- which index the field `use` requests
abbrev pub way_by : Hint → Way
way_by any_way = by_any
way_by by_scan = by_none
way_by (by_index path) = by_one path

-- the path of the index that `use` names; None for `"auto"` and `"scan"`
abbrev pub hint_path : Hint → Option (List ℕ)
hint_path hint = path_named (way_by hint)

-- the request of a search, or its first refusal: of the request, then of the path of its index
abbrev pub request_for : FindCommand → Result Request ReportedRefusal
request_for f =
    then_part (error_as session_refusal (request_of f.filter f.sort f.skip f.limit)) (λ request.
    then_part (error_as path_refusal (named_index (hint_path f.hint))) (λ _. Ok request))

-- Over a dump of these bytes, which are these documents:
-- the call that a command means, or its first refusal; for `resume` the token is checked first.
abbrev pub call_of : List ℕ → List Doc → Command → Result Call ReportedRefusal
call_of bytes ds (creates_index path sparse) =
    then_part (error_as path_refusal (path_of path)) (λ _. Ok (make_of ds (record { path = path; is_sparse = sparse })))
call_of bytes ds (drops_index path) = then_part (error_as path_refusal (path_of path)) (λ _. Ok (drop_call path))
call_of bytes ds (finds f) = then_part (request_for f) (λ r. Ok (find_call (query_to bytes ds r) (hint_path f.hint)))
call_of bytes ds (resumes token f) =
    then_part (error_as session_refusal (token_part token)) (λ t.
    then_part (request_for f) (λ r. Ok (resume_call (query_to bytes ds r) (hint_path f.hint) (positioned_token t))))
call_of bytes ds (gets_more id batch) = Ok (next_call id batch)
call_of bytes ds (kills_cursor id) = Ok (kill_call id)
call_of bytes ds (commands.explains f) =
    then_part (request_for f) (λ r. Ok (explain_call (hint_path f.hint) (explanation_for ds r (way_by f.hint))))

-- the call that a document means, or its first refusal
abbrev pub document_call : List ℕ → List Doc → Doc → Result Call ReportedRefusal
document_call bytes ds d = then_part (error_as command_refusal (command_of d)) (call_of bytes ds)

-- the reply to a line, made from the session's reply: with the documents of a batch instead of their numbers
abbrev pub reply_output : List Doc → machine.Reply → LineReply
reply_output ds (machine.opened id) = opens id
reply_output ds (machine.gave b) = gives (documents_at ds b.places) b.ends (option_map positioned_text b.token)
reply_output ds machine.killed = done
reply_output ds (machine.made counts) = makes counts
reply_output ds machine.dropped = done
reply_output ds (machine.explained e) = explains e
reply_output ds machine.no_index = refuses (session_refusal (plain reasons.NoIndex))
reply_output ds machine.index_there = refuses (session_refusal (plain reasons.IndexThere))
reply_output ds machine.too_many_indexes = refuses (session_refusal (plain reasons.TooManyIndexes))
reply_output ds machine.too_many_cursors = refuses (session_refusal (plain reasons.TooManyCursors))
reply_output ds machine.no_cursor = refuses (session_refusal (plain reasons.NoCursor))
reply_output ds machine.foreign_token = refuses (session_refusal (plain reasons.ForeignToken))
reply_output ds machine.token_place = refuses (session_refusal (plain reasons.TokenPlace))
reply_output ds machine.out_of_range = refuses (session_refusal (plain reasons.Range))

-- the document that a line is, or the fault of its text
abbrev pub line_document : List ℕ → Result Doc ReportedRefusal
line_document line = ok_or (reading line) (json_refusal (text_fault line))

-- the call in a line, or why there is none
abbrev pub call_in : List ℕ → List Doc → List ℕ → Result Call ReportedRefusal
call_in bytes ds line = then_part (line_document line) (document_call bytes ds)

-- the reply to a line: that of the session to its call, or the refusal of a line that is no call
abbrev pub reply_to : List Doc → State → Result Call ReportedRefusal → LineReply
reply_to ds s (Ok call) = reply_output ds (machine.reply s call)
reply_to ds s (Err why) = refuses why

-- the state after a line: that after its call; unchanged if the line is refused
abbrev pub state_then : State → Result Call ReportedRefusal → State
state_then s (Ok call) = state_after s call
state_then s (Err why) = s

-- A session over a dump of these bytes, which are these documents, answers the line with this reply,
-- and its state becomes t.
pub record Answers (bytes : List ℕ) (ds : List Doc) (s : State) (line : List ℕ)
    (r : LineReply) (t : State) : Type 0 where
  pub reports : r ≡ reply_to ds s (call_in bytes ds line)
  pub moves : t ≡ state_then s (call_in bytes ds line)

-- The state is unchanged.
abbrev pub IsUnchanged : State → State → Type 0
IsUnchanged s t = t ≡ s

-- The session answers the line with this text, and its state becomes t.
abbrev pub RepliesInText : List ℕ → List Doc → State → List ℕ → List ℕ → State → Type 0
RepliesInText bytes ds s line text t = (r : LineReply) × Answers bytes ds s line r t × (text ≡ reply_text r)

-- Over a dump of these bytes, which are these documents:
-- these lines have these replies in turn, and the state becomes t.
abbrev pub Talks : List ℕ → List Doc → State → List (List ℕ) → List LineReply → State → Type 0
Talks bytes ds s [] [] t = t ≡ s
Talks bytes ds s [] (r ∷ rs) t = ⊥
Talks bytes ds s (line ∷ lines) [] t = ⊥
Talks bytes ds s (line ∷ lines) (r ∷ rs) t =
    (mid : State) × Answers bytes ds s line r mid × Talks bytes ds mid lines rs t

-- replies as a text, each on its own line
abbrev pub reply_lines : List LineReply → List ℕ
reply_lines [] = []
reply_lines (r ∷ rs) = reply_text r ++ 10 ∷ reply_lines rs

-- the call in a line, if any
abbrev pub line_call : List ℕ → List Doc → List ℕ → Option Call
line_call bytes ds line = result_ok (call_in bytes ds line)

-- the calls in lines, in order; lines without a call are left out
abbrev pub calls_in : List ℕ → List Doc → List (List ℕ) → List Call
calls_in bytes ds lines = filter_map (line_call bytes ds) lines

-- the reply, if it has a batch
abbrev pub given_in : LineReply → List LineReply
given_in (gives ds ends token) = gives ds ends token ∷ []
given_in _ = []

-- the reply to a call, if it requests a batch of the cursor of this number and gets one
abbrev pub batch_is_output : ℕ → Option Call → LineReply → List LineReply
batch_is_output id (Some (next_call i n)) r = if i == id then given_in r else []
batch_is_output id _ r = []

-- the batches of the cursor of this number among the replies to lines
abbrev pub batches_output : List ℕ → List Doc → ℕ → List (List ℕ) → List LineReply → List LineReply
batches_output bytes ds id lines rs = flat_map (λ p. batch_is_output id (line_call bytes ds p.0) p.1) (zip lines rs)

-- The replies have these documents in batches of the requested sizes, with tokens that resume after them.
pub record PrintsInTurn (bytes : List ℕ) (ds : List Doc) (q : Query) (id : ℕ) (ps : List ℕ)
    (lines : List (List ℕ)) (rs : List LineReply)
    : Type 0 where
  pub given : List GivenBatch
  pub in_turn : GivesInTurn q id ps (calls_in bytes ds lines) given
  pub output : batches_output bytes ds id lines rs ≡ map (λ b. reply_output ds (gave b)) given

-- A line is this call and opens a cursor; some lines come before it and others after.
pub record OpensInTalk (bytes : List ℕ) (ds : List Doc) (call : Call) (id : ℕ)
    (lines : List (List ℕ)) (rs : List LineReply)
    : Type 0 where
  pub earlier : List (List ℕ)
  pub replies : List LineReply
  pub before : State
  pub line : List ℕ
  pub after : State
  pub end : State
  pub begins : Talks bytes ds new_state earlier replies before
  pub requests : line_call bytes ds line ≡ Some call
  pub opened : Answers bytes ds before line (opens id) after
  pub goes_on : Talks bytes ds after lines rs end
