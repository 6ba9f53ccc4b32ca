-- How a call, and a line, changes a session in memory.
use Rattle.std.specs.Prelude.{◌≡◌, List, Result, Ok, Err, ℕ}
use Rattle.std.specs.declared.alloc.AllocError.{AllocError}
use Rattle.bd_cursor_model.specs.Session.{State, state_after, drop_call, find_call, kill_call, next_call, resume_call}
use Rattle.bd_bson_dump.specs.{Collection.bytes_of, Collection.documents, declared.collection.Dump.Dump}
use Rattle.bd_path.specs.PathNames.{path_text}
use Rattle.bd_cursor_request.specs.{Request.token_part, declared.token.Token.Token}
use Rattle.bd_cursor_sort.specs.Selection.{query_of}
use Rattle.bd_cursor.specs.SessionView.{IsRefused, dump_of, state_of, explain_request, given_batch, hint_of, make_index, positioned_token}
use Rattle.bd_cursor.specs.declared.session.Session.{Session}
use Rattle.bd_cli_command.specs.Command.{Command, gets_more, kills_cursor, resumes}
use Rattle.bd_cli_service.specs.Reply.{LineReply, ReportedRefusal, line_reply, reply_text, reported_refusal}
use Rattle.bd_cli_service.specs.declared.{call.Call.Call, call.CallFault.CallFault, reply.Reply.Reply, service.Service.Service}
use Rattle.bd_cli_service.specs.Talk.{Answers, reply_output}
use Rattle.bd_cursor_model.specs.Session as machine
use Rattle.bd_cursor_request.specs.declared.results.Refused.TheVariants as reasons
use Rattle.bd_cli_service.specs.declared.reply.Reply.TheVariants as replies
use Rattle.bd_cli_service.specs.declared.call.Call.TheVariants as calls
use Rattle.bd_cli_service.specs.declared.call.CallFault.TheVariants as faults

-- ---- calls

-- the call to a session over this dump that a `Call` in memory represents
abbrev pub session_call : Dump → Call → machine.Call
session_call dump (calls.CreateIndex path sparse) = make_index sparse dump path
session_call dump (calls.DropIndex path) = drop_call (path_text path)
session_call dump (calls.Find request choice) = find_call (query_of dump request) (hint_of choice)
session_call dump (calls.Resume request choice token) =
    resume_call (query_of dump request) (hint_of choice) (positioned_token token)
session_call dump (calls.GetMore id batch) = next_call id batch
session_call dump (calls.KillCursor id) = kill_call id
session_call dump (calls.Explain request choice) = explain_request dump request choice

-- The part of a command is refused for this reason, or memory ran out.
abbrev pub RefusesPart : {A : Type 0} → Result A ReportedRefusal → CallFault → Type 0
RefusesPart part faults.NoMemory = Unit {0}
RefusesPart part (faults.Refused why) = part ≡ Err (reported_refusal why)

-- Reading the command may need memory: not if it has only numbers, nor if its token is refused.
abbrev pub MayRunOut : Command → Type 0
MayRunOut (gets_more id batch) = ⊥
MayRunOut (kills_cursor id) = ⊥
MayRunOut (resumes token f) = (t : Token) × (token_part token ≡ Ok t)
MayRunOut _ = Unit {0}

-- The reply of the machine is this batch, if the reply in memory is one.
abbrev pub GivesBatch : Reply → machine.Reply → Type 0
GivesBatch (replies.Gave batch) r = r ≡ machine.gave (given_batch batch)
GivesBatch _ r = Unit {0}

-- The call was made: the reply and the state after it are those of the machine, and the dump is unchanged.
pub record Performs (call : machine.Call) (old : Session) (r : Reply) (new : Session) : Type 0 where
  pub reports : line_reply (documents (dump_of old)) r
      ≡ reply_output (documents (dump_of old)) (machine.reply (state_of old) call)
  pub gives : GivesBatch r (machine.reply (state_of old) call)
  pub moves : state_of new ≡ state_after (state_of old) call
  pub unchanged : dump_of new ≡ dump_of old

-- The call was made, and a refusal is a reply too; or memory ran out, and nothing changed.
abbrev pub IsPerformed : machine.Call → Session → Result Reply AllocError → Session → Type 0
IsPerformed call old (Ok r) new = Performs call old r new
IsPerformed call old (Err e) new = IsRefused reasons.NoMemory call old new

-- ---- lines

-- the state of the machine that the session of a service represents
abbrev pub service_state : Service → State
service_state s = state_of s.session

-- the dump whose documents a service returns
abbrev pub service_dump : Service → Dump
service_dump s = dump_of s.session

-- The text is a reply to the line, and the session has the state after it, over the same dump.
pub record RepliesTo (old : Service) (line text : List ℕ) (new : Service) : Type 0 where
  pub reply : LineReply
  pub answers : Answers (bytes_of (service_dump old)) (documents (service_dump old))
      (service_state old) line reply (service_state new)
  pub written : text ≡ reply_text reply
  pub unchanged : service_dump new ≡ service_dump old

-- The state of the session is unchanged.
abbrev pub KeepsState : Service → Service → Type 0
KeepsState old new = service_state new ≡ service_state old
