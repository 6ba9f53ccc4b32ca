-- The reply to a line is that to its call, or says why it is no call.
use Rattle.std.proofs.Common.{◌≡◌, ℕ, List, Result, Ok, Err, refl, inr}
use Rattle.std.specs.{Prelude.IfOk, Prelude.OnErr, declared.alloc.AllocError.AllocError}
use Rattle.bd_io_lines.specs.Serving.{RunsOutAt}
use Rattle.bd_bson_dump.specs.Collection.{bytes_of, documents}
use Rattle.bd_cursor.specs.{SessionView.dump_of, SessionView.state_of, declared.session.Session.Session}
use Rattle.bd_cli_service.specs.{Reply.refuses, Reply.line_reply, Reply.reported_refusal, declared.reply.LineRefusal.LineRefusal, declared.reply.Reply.Reply}
use Rattle.bd_cli_service.specs.{Talk.Answers, Talk.call_in, declared.service.Service.Service}
use Rattle.bd_cli_service.specs.ServiceView.{KeepsState, RepliesTo, service_dump, service_state}
use Rattle.bd_cli_service.specs.ServiceView.{IsPerformed}
use Rattle.bd_cursor_model.specs.Session as machine

pub answered : (old new : Session) (line : List ℕ) (call : machine.Call) (result : Result Reply AllocError)
    → call_in (bytes_of (dump_of old)) (documents (dump_of old)) line ≡ Ok call → IsPerformed call old result new
    → IfOk result (λ r. Answers (bytes_of (dump_of old)) (documents (dump_of old)) (state_of old) line (line_reply (documents (dump_of old)) r) (state_of new))
answered old new line call (Ok r) reads p = record { reports = rw reads p.reports; moves = rw reads p.moves }
answered old new line call (Err e) reads p = tt

pub turned_away : (s : Session) (line : List ℕ) (why : LineRefusal)
    → call_in (bytes_of (dump_of s)) (documents (dump_of s)) line ≡ Err (reported_refusal why)
    → Answers (bytes_of (dump_of s)) (documents (dump_of s)) (state_of s) line (refuses (reported_refusal why)) (state_of s)
turned_away s line why reads = record { reports = rw reads refl; moves = rw reads refl }

-- if no text was written, the call was made without its reply
pub remaining_by_call : {A : Type 0} (old new : Service) (line : List ℕ) (r : Reply) (result : Result A AllocError)
    → Answers (bytes_of (service_dump old)) (documents (service_dump old)) (service_state old) line (line_reply (documents (service_dump old)) r) (service_state new)
    → service_dump new ≡ service_dump old → OnErr result (RunsOutAt KeepsState RepliesTo old line new)
remaining_by_call old new line r (Ok x) answers unchanged = tt
remaining_by_call old new line r (Err e) answers unchanged =
    inr (_, record { reply = line_reply (documents (service_dump old)) r; answers = answers; written = refl; unchanged = unchanged })
