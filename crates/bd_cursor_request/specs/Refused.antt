-- Why a call is refused, as a message and as a number.
use Rattle.std.specs.Prelude.{◌≡◌, ◌⊎◌, ℕ, List, Result, Ok, Err, codes}
use Rattle.std.specs.Result.{result_map_both}
use Rattle.bd_query_filter.specs.Fault.{Refusal, filter_fault_words, refusal_of}
use Rattle.bd_cursor_request.specs.{declared.results.Refused.Refused}
use Rattle.bd_cursor_request.specs.declared.results.Refused.TheVariants as reasons

-- the number of a session's refusal in a reply
abbrev pub refused_number : Refused → ℕ
refused_number reasons.BadSort = 1
refused_number reasons.NoIndex = 2
refused_number reasons.IndexThere = 3
refused_number reasons.TooManyIndexes = 4
refused_number reasons.TooManyCursors = 5
refused_number reasons.NoCursor = 6
refused_number reasons.BadToken = 7
refused_number reasons.ForeignToken = 8
refused_number reasons.TokenPlace = 9
refused_number reasons.Range = 10
refused_number reasons.NoMemory = 11
refused_number (reasons.BadFilter fault) = 12

-- the message of a session's refusal; that of a filter is the message of its fault
unfoldable pub refused_words : Refused → List ℕ
refused_words (reasons.BadFilter fault) = filter_fault_words fault.kind
refused_words reasons.BadSort = codes "not a sort"
refused_words reasons.NoIndex = codes "no such index"
refused_words reasons.IndexThere = codes "index is there"
refused_words reasons.TooManyIndexes = codes "too many indexes"
refused_words reasons.TooManyCursors = codes "too many cursors"
refused_words reasons.NoCursor = codes "no such cursor"
refused_words reasons.BadToken = codes "not a token"
refused_words reasons.ForeignToken = codes "token of another dump or request"
refused_words reasons.TokenPlace = codes "token place past the dump"
refused_words reasons.Range = codes "number out of range"
refused_words reasons.NoMemory = codes "no memory"

-- why something is refused: the rule that its filter breaks and where, or another refusal
pub data Reason : Type 0 where
  bad_filter : Refusal → Reason
  plain : Refused → Reason

-- the reason that a `Refused` in memory represents
abbrev pub reason_of : Refused → Reason
reason_of (reasons.BadFilter fault) = bad_filter (refusal_of fault)
reason_of refused = plain refused

-- the next step after a part that is not refused; a refusal stays
abbrev pub then_part : {A B Why : Type 0} → Result A Why → (A → Result B Why) → Result B Why
then_part (Ok x) next = next x
then_part (Err why) next = Err why

-- the part, with the reason of its refusal in another form
abbrev pub error_as : {A Why Explained : Type 0} → (Why → Explained) → Result A Why → Result A Explained
error_as explain part = result_map_both (λ x. x) explain part

-- It is refused for the reason of this part; or memory ran out.
abbrev pub IsRefusedPart : {A : Type 0} → Result A Reason → Refused → Type 0
IsRefusedPart part refused = (refused ≡ reasons.NoMemory) ⊎ (part ≡ Err (reason_of refused))
