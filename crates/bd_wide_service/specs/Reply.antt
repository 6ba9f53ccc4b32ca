-- The replies of a session over a dump of all types.
use Rattle.std.specs.Prelude.{◌≡◌, ℕ, nat_lt, List, [], length, option_map, Result, Ok, Err}
use Rattle.std.specs.List.{filter}
use Rattle.bd_cursor_model.specs.Session.{Call, Reply, State, gave}
use Rattle.bd_cursor_model.specs.Session as machine
use Rattle.bd_cursor_request.specs.Results.{positioned_text}
use Rattle.bd_cli_service.specs.Reply.{AreTextsAt, ReportedRefusal, given_text, refuses, reply_text}
use Rattle.bd_cli_service.specs.Talk.{reply_output, state_then}
use Rattle.bd_wide_find.specs.Printer.{IsWideText}
use Rattle.bd_wide_service.specs.Call.{ByValue, IsCallIn}

-- the reply to a line: that of the session to its call, or the refusal of a line that is no call
abbrev pub reply_by : State → Result Call ReportedRefusal → Result Reply ReportedRefusal
reply_by s (Ok call) = Ok (machine.reply s call)
reply_by s (Err why) = Err why

-- The session answers the line with this reply, and its state becomes t.
pub record AnswersByValue {bytes : List ℕ} (v : ByValue bytes) (s : State) (line : List ℕ) (reply : Result Reply ReportedRefusal)
    (t : State) : Type 0 where
  pub call : Result Call ReportedRefusal
  pub is : IsCallIn v line call
  pub reports : reply ≡ reply_by s call
  pub moves : t ≡ state_then s call

-- This is the text of a reply. The documents of a batch are those of the dump itself.
abbrev pub IsReplyText : {bytes : List ℕ} → ByValue bytes → Result Reply ReportedRefusal → List ℕ → Type 0
IsReplyText {bytes} v (Ok (gave b)) text = (texts : List (List ℕ))
    × AreTextsAt (IsWideText bytes) (filter (λ place. nat_lt place (length v.ds)) b.places) texts
    × (text ≡ given_text texts b.ends (option_map positioned_text b.token))
IsReplyText v (Ok r) text = text ≡ reply_text (reply_output [] r)
IsReplyText v (Err why) text = text ≡ reply_text (refuses why)

-- The session answers the line with this text, and its state becomes t.
abbrev pub RepliesByValue : {bytes : List ℕ} → ByValue bytes → State → List ℕ → List ℕ → State → Type 0
RepliesByValue v s line text t = (reply : Result Reply ReportedRefusal) × AnswersByValue v s line reply t × IsReplyText v reply text
