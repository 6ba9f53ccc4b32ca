-- The reply to a line without the field `places`, and the text of a reply in memory.
use Rattle.std.specs.Prelude.{◌≡◌, ◌⊎◌, ℕ, List, Result, length, nat_lt, option_map}
use Rattle.std.specs.List.{filter}
use Rattle.bd_bson_dump.specs.Collection.{bytes_of as bytes_of_dump, documents}
use Rattle.bd_cursor_model.specs.Session as machine
use Rattle.bd_cursor_request.specs.Token.{token_text}
use Rattle.bd_cursor.specs.SessionView.{dump_of}
use Rattle.bd_cli_service.specs.Reply.{AreTextsAt, ReportedRefusal, given_text, line_reply, reply_text}
use Rattle.bd_cli_service.specs.Talk.{RepliesInText}
use Rattle.bd_cli_service.specs.declared.reply.Reply.{Reply}
use Rattle.bd_cli_service.specs.declared.reply.Reply.TheVariants as replies
use Rattle.bd_wide_copy.specs.Dump.{bytes_of}
use Rattle.bd_wide_find.specs.Printer.{IsWideText}
use Rattle.bd_wide_service.specs.{Call.ByValue, Reply.AnswersByValue, Reply.RepliesByValue}
use Rattle.bd_wide_service.specs.ServiceView.{IsServiceOver, plain_dump, plain_state, service_state}
use Rattle.bd_wide_service.specs.declared.plain.PlainService.{PlainService}
use Rattle.bd_wide_service.specs.declared.service.WideService.{WideService}

-- By value, whatever dump the service is over: the text is a reply to the line, and the session has the state after it, over the same
-- dump.
abbrev pub RepliesTo : WideService → List ℕ → List ℕ → WideService → Type 0
RepliesTo old line text new = (bytes : List ℕ) (v : ByValue bytes) → IsServiceOver v old
    → RepliesByValue v (service_state old) line text (service_state new) × IsServiceOver v new

-- By value, whatever dump the service is over: the state is unchanged, or it is the one after the line, whose reply was not made.
abbrev pub LacksReplyTo : WideService → List ℕ → WideService → Type 0
LacksReplyTo old line new = (bytes : List ℕ) (v : ByValue bytes) → IsServiceOver v old
    → ((service_state new ≡ service_state old)
    ⊎ ((reply : Result machine.Reply ReportedRefusal) × AnswersByValue v (service_state old) line reply (service_state new)))
    × IsServiceOver v new

-- Over a dump without doubles and decimal128: the text is a reply to the line, and the session has the state after it.
abbrev pub RepliesPlainly : PlainService → List ℕ → List ℕ → PlainService → Type 0
RepliesPlainly old line text new =
    RepliesInText (bytes_of_dump (plain_dump old)) (documents (plain_dump old)) (plain_state old) line text (plain_state new)

-- The text is that of a reply in memory. The documents of a batch are those of the dump itself.
abbrev pub IsWritten : WideService → Reply → List ℕ → Type 0
IsWritten s (replies.Gave batch) text = (texts : List (List ℕ))
    × AreTextsAt (IsWideText (bytes_of s.dump)) (filter (λ place. nat_lt place (length (documents (dump_of s.session)))) batch.places.items) texts
    × (text ≡ given_text texts batch.end (option_map token_text batch.token))
IsWritten s reply text = text ≡ reply_text (line_reply (documents (dump_of s.session)) reply)
