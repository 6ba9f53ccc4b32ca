-- How a line changes a session in memory over a dump of all types.
use Rattle.std.specs.Prelude.{◌≡◌, ◌⊎◌, ℕ, List}
use Rattle.bd_bson_dump.specs.Collection.{bytes_of as bytes_of_dump, documents}
use Rattle.bd_bson_dump.specs.declared.collection.Dump.{Dump}
use Rattle.bd_cursor_model.specs.Session.{Call, State, state_after}
use Rattle.bd_cursor.specs.SessionView.{dump_of, state_of}
use Rattle.bd_cli_service.specs.{Talk.RepliesInText}
use Rattle.bd_wide_copy.specs.Dump.{bytes_of}
use Rattle.bd_wide_rank.specs.Table.{worths}
use Rattle.bd_wide_service.specs.{Call.ByValue, Call.copies, Places.RepliesWithPlaces, Reply.RepliesByValue}
use Rattle.bd_wide_service.specs.declared.plain.PlainService.{PlainService}
use Rattle.bd_wide_service.specs.declared.service.WideService.{WideService}

-- the state of the machine that the session of a service represents
abbrev pub service_state : WideService → State
service_state s = state_of s.session

-- The service is over this dump by value: it has its bytes, its table and its copy.
pub record IsServiceOver {bytes : List ℕ} (v : ByValue bytes) (s : WideService) : Type 0 where
  pub bytes_are : bytes_of s.dump ≡ bytes
  pub table_is : v.table ≡ worths s.table
  pub copy_is : bytes_of_dump (dump_of s.session) ≡ v.copy
  pub copies_are : documents (dump_of s.session) ≡ copies v

-- ---- with the field `places`

-- The state is unchanged, or it is the one after a call.
abbrev pub MovesAtMost : State → State → Type 0
MovesAtMost s t = (t ≡ s) ⊎ ((call : Call) × (t ≡ state_after s call))

-- By value, whatever dump the service is over: the text is a reply to the line, which may have the field, and the session has the state
-- after it, over the same dump.
abbrev pub RepliesInAll : WideService → List ℕ → List ℕ → WideService → Type 0
RepliesInAll old line text new = (bytes : List ℕ) (v : ByValue bytes) → IsServiceOver v old
    → RepliesWithPlaces (RepliesByValue v) (service_state old) line text (service_state new) × IsServiceOver v new

-- Whatever dump the service is over: the state is unchanged, or it is the one after a call whose reply was not made.
abbrev pub LacksSomeReply : WideService → WideService → Type 0
LacksSomeReply old new = (bytes : List ℕ) (v : ByValue bytes) → IsServiceOver v old
    → MovesAtMost (service_state old) (service_state new) × IsServiceOver v new

-- ---- over a dump without doubles and decimal128

-- the state of the machine that the session of a service represents
abbrev pub plain_state : PlainService → State
plain_state s = state_of s.session

-- the dump whose documents a service returns
abbrev pub plain_dump : PlainService → Dump
plain_dump s = dump_of s.session

-- The text is a reply to a line, which may have the field, and the session has the state after it, over the same dump.
abbrev pub RepliesInPlain : PlainService → List ℕ → List ℕ → PlainService → Type 0
RepliesInPlain old line text new = RepliesWithPlaces (RepliesInText (bytes_of_dump (plain_dump old)) (documents (plain_dump old)))
    (plain_state old) line text (plain_state new) × (plain_dump new ≡ plain_dump old)

-- The state is unchanged, or it is the one after a call whose reply was not made.
abbrev pub LacksPlain : PlainService → PlainService → Type 0
LacksPlain old new = MovesAtMost (plain_state old) (plain_state new)
