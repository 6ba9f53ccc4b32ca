-- Replies to the commands of a device, each written before a later read.
use Rattle.std.specs.Prelude.{◌≡◌, ◌≤◌, ◌⊎◌, ℕ, List, [], ◌∷◌, ◌++◌, Bool, true, false, Option}
use Rattle.std.specs.List.{count_by}
use Rattle.bd_io_device.specs.declared.reading.{Limits.Limits, ReadFault.ReadFault}
use Rattle.bd_io_device.specs.Devices.{WriteFailsAfter, Over, Reader, TakesText, Writer}
use Rattle.bd_io_lines.specs.Lines.{AreShort, AreWhole, IsFirstLine, commands_of, is_empty_line, is_newline}
use Rattle.bd_io_lines.specs.LineBuffer.{GivesBeforeLast, GivesBytes, IsCause, StopsReading}
use Rattle.bd_io_lines.specs.declared.serving.ServeFault.{ServeFault}

-- The text is the replies to these commands in turn, each followed by a newline; they lead from state s to t.
abbrev pub RepliesInTurn : {S : Type 0} → (S → List ℕ → List ℕ → S → Type 0) → S → List (List ℕ) → List ℕ → S → Type 0
RepliesInTurn replies s [] text t = (t ≡ s) × (text ≡ [])
RepliesInTurn {S} replies s (command ∷ commands) text t =
    (reply : List ℕ) × (mid : S) × (rest : List ℕ) × replies s command reply mid
    × RepliesInTurn replies mid commands rest t × (text ≡ reply ++ 10 ∷ rest)

-- Memory ran out at this command: the state is unchanged, or it is one after the command,
-- whose reply was not made.
abbrev pub RunsOutAt : {S : Type 0} → (S → S → Type 0) → (S → List ℕ → List ℕ → S → Type 0) → S → List ℕ → S → Type 0
RunsOutAt stays replies s command t = stays s t ⊎ ((reply : List ℕ) × replies s command reply t)

-- No reply was late: no read was made, or the reads before the last
-- gave no more newlines than these lines have.
abbrev pub IsReadInTime : {R : Type 0} → (R → Option (List ℕ) → R → Type 0) → List ℕ → List ℕ → R → R → Type 0
IsReadInTime gives whole given old new = ((given ≡ []) × (new ≡ old))
    ⊎ ((prefix : List ℕ) × (count_by is_newline prefix ≤ count_by is_newline whole)
    × GivesBeforeLast gives prefix old given new)

-- For a reader whose reads may give these bytes, and for the replies that a command may have.
-- The reader changes from `old` to `new`.
module _ {R S : Type 0} (state : R → Reader) (gives : R → Option (List ℕ) → R → Type 0)
    (replies : S → List ℕ → List ℕ → S → Type 0) (limits : Limits) (old new : R) where
  -- A command was read, and the text is the replies to those before it, which led from state s to t.
  pub record ServesBefore (s : S) (command text : List ℕ) (t : S) : Type 0 where
    pub whole : List ℕ
    pub rest : List ℕ
    pub after : List ℕ
    pub remaining : Limits
    pub ended : Bool
    pub ends : AreWhole whole
    pub short : AreShort whole
    pub reads : GivesBytes state gives limits remaining ended (whole ++ rest) old new
    pub in_time : IsReadInTime gives whole (whole ++ rest) old new
    pub line : IsFirstLine rest command after ended
    pub is_command : is_empty_line command ≡ false
    pub replied : RepliesInTurn replies s (commands_of whole) text t

  -- The reader gave all its bytes, and the text is the replies to all commands in them.
  pub record ServesAll (s : S) (text : List ℕ) (t : S) : Type 0 where
    pub remaining : Limits
    pub given : List ℕ
    pub short : AreShort given
    pub reads : GivesBytes state gives limits remaining true given old new
    pub replied : RepliesInTurn replies s (commands_of given) text t

  -- Reading failed in the line after some whole lines,
  -- and the text is the replies to the commands among these.
  pub record StopsUnread (s : S) (text : List ℕ) (t : S) (fault : ReadFault) : Type 0 where
    pub whole : List ℕ
    pub rest : List ℕ
    pub ends : AreWhole whole
    pub short : AreShort whole
    pub stops : StopsReading state gives limits (whole ++ rest) old new fault
    pub cause : IsCause gives limits stops.turns rest (whole ++ rest) old new fault
    pub in_time : IsReadInTime gives whole (whole ++ rest) old new
    pub replied : RepliesInTurn replies s (commands_of whole) text t

  -- A reply was not written: it is the next piece after this text, which is the replies before it.
  abbrev pub IsNextReply : S → List ℕ → List ℕ → S → Type 0
  IsNextReply s text piece t = (command : List ℕ) × (reply : List ℕ) × (mid : S) × ServesBefore s command text mid
      × replies mid command reply t × (piece ≡ reply ++ 10 ∷ [])

  -- A reply was not made, since memory ran out: the text is the replies before it, and `stays` says what is unchanged.
  abbrev pub LacksReply : (S → S → Type 0) → S → List ℕ → S → Type 0
  LacksReply stays s text t =
      (command : List ℕ) × (mid : S) × ServesBefore s command text mid × RunsOutAt stays replies mid command t

  -- Not every command had a reply, for this reason, and the replies before it were written.
  abbrev pub StopsServing : Over Writer → S → S → (S → S → Type 0) → ServeFault → Type 0
  StopsServing out s t stays (ServeFault.Unread fault) = (text : List ℕ) × StopsUnread s text t fault × TakesText out text
  StopsServing out s t stays ServeFault.NoMemory = (text : List ℕ) × LacksReply stays s text t × TakesText out text
  StopsServing out s t stays ServeFault.Unwritten =
      (text : List ℕ) × (piece : List ℕ) × IsNextReply s text piece t × WriteFailsAfter out text piece
