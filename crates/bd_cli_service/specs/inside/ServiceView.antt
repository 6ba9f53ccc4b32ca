-- How a call changes a session in memory.
use Rattle.std.specs.Prelude.{Result, Ok, Err}
use Rattle.bd_cursor.specs.SessionView.{IsRefused}
use Rattle.bd_cursor.specs.declared.session.Session.{Session}
use Rattle.bd_cursor_request.specs.declared.results.Refused.{Refused}
use Rattle.bd_cli_service.specs.ServiceView.{Performs}
use Rattle.bd_cli_service.specs.declared.reply.Reply.{Reply}
use Rattle.bd_cursor_model.specs.Session as machine

-- The call was made, or the session refuses it for this reason, and nothing changed.
abbrev pub IsAnswered : machine.Call → Session → Result Reply Refused → Session → Type 0
IsAnswered call old (Ok r) new = Performs call old r new
IsAnswered call old (Err why) new = IsRefused why call old new
