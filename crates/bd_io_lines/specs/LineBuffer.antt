-- What reading the next line of a device does to the device and to the buffer of the line.
use Rattle.std.specs.Prelude.{◌≡◌, ◌<◌, ◌≤◌, ◌+◌, ◌⊎◌, ℕ, suc, List, [], ◌++◌, length, Bool, true, false, Option}
use Rattle.std.specs.{Prelude.Some, Prelude.None, Io.KnownBytes.Consumes, Io.KnownBytes.IsAtEnd}
use Rattle.bd_io_device.specs.{Devices.after_more, Devices.AreReads, Devices.Reader}
use Rattle.bd_io_device.specs.declared.reading.{Limits.Limits, ReadFault.ReadFault}
use Rattle.bd_value.specs.Limits.{longest_command}
use Rattle.bd_io_lines.specs.{Lines.IsFirstLine, Lines.IsLine, Lines.IsPart, Lines.IsWholeLine}

-- the next line of a device, what is buffered after it, and what may still be read
pub record Buffered : Type 0 where
  -- how much may still be read from the device
  pub remaining : Limits
  -- the line that was read last
  pub line : List ℕ
  -- the bytes that the device gave after it
  pub rest : List ℕ
  -- how many bytes the last read gave
  pub block : ℕ
  -- the end of the device was found
  pub ended : Bool
  -- the fault of an earlier call
  pub failed : Option ReadFault

-- For a reader: a read of the first state may give these bytes, or fail (None), and lead to the second state.
module _ {R : Type 0} (gives : R → Option (List ℕ) → R → Type 0) where
  -- Reads gave these bytes, each at least one; if the end was found, the last of the reads gave none.
  abbrev pub ReadsTo : Bool → ℕ → R → List ℕ → R → Type 0
  ReadsTo false turns old given new = AreReads gives turns old given new
  ReadsTo true turns old given new =
      (n : ℕ) × (last : R) × (turns ≡ suc n) × AreReads gives n old given last × gives last (Some []) new

  -- Reads gave this prefix, and one more read gave this part, or it failed and gave none.
  abbrev pub EndsByOneRead : List ℕ → List ℕ → R → R → Type 0
  EndsByOneRead prefix part old new = (turns : ℕ) × (last : R) × AreReads gives turns old prefix last
      × (gives last (Some part) new ⊎ ((part ≡ []) × gives last None new))

  -- Reads gave these bytes, and those before the last read gave this prefix.
  abbrev pub GivesBeforeLast : List ℕ → R → List ℕ → R → Type 0
  GivesBeforeLast prefix old given new = (part : List ℕ) × (given ≡ prefix ++ part) × EndsByOneRead prefix part old new

  -- No read was made once the line had its newline:
  -- there was none, or the bytes before the last one are part of the line.
  abbrev pub IsLazy : List ℕ → List ℕ → R → R → Type 0
  IsLazy head given old new =
      ((given ≡ []) × (new ≡ old)) ⊎ ((prefix : List ℕ) × IsLine (head ++ prefix) × GivesBeforeLast prefix old given new)

  -- Why the line that begins with these bytes was not read; `turns` reads gave `given`.
  -- `TooLong`: the line is too long; or the last read, with a part of the line buffered, exceeded the limit.
  -- `NoMemory`: the line is not too long, and it is whole, or another read was allowed.
  abbrev pub IsCause : Limits → ℕ → List ℕ → List ℕ → R → R → ReadFault → Type 0
  IsCause limits turns bytes given old new ReadFault.TooLong =
      (((line : List ℕ) × (rest : List ℕ) × (bytes ≡ line ++ rest) × IsLine line × (longest_command < length line))
      × (length given ≤ limits.bytes))
      ⊎ ((line : List ℕ) × (prefix : List ℕ) × (part : List ℕ) × (bytes ≡ line ++ part) × IsPart line
      × (given ≡ prefix ++ part) × (length prefix ≤ limits.bytes) × (limits.bytes < length given)
      × EndsByOneRead prefix part old new)
  IsCause limits turns bytes given old new ReadFault.NoMemory =
      (IsWholeLine bytes ⊎ (IsPart bytes × (turns < limits.turns))) × (length given ≤ limits.bytes)
  IsCause limits turns bytes given old new fault = IsPart bytes × (length given ≤ limits.bytes)

-- For such a reader, and what contracts see of each of its states.
module _ {R : Type 0} (state : R → Reader) (gives : R → Option (List ℕ) → R → Type 0) where
  -- The reader gave these bytes, and what may still be read fell from `limits` to `remaining`.
  pub record GivesBytes (limits remaining : Limits) (ended : Bool) (given : List ℕ) (old new : R) : Type 0 where
    pub turns : ℕ
    pub gave : Consumes (state old).remaining (state new).remaining given
    pub reads : ReadsTo gives ended turns old given new
    pub capacity : remaining.bytes + length given ≡ limits.bytes
    pub turned : remaining.turns + turns ≡ limits.turns
    pub calls : (state new).calls ≡ after_more (state old).calls turns
    pub no_failure : (state new).failures ≡ (state old).failures
    pub end : ended ≡ true → IsAtEnd (state new).remaining

  -- the next line was read, and no block after the one that ends it
  pub record ReadsLine (before after : Buffered) (old new : R) : Type 0 where
    pub given : List ℕ
    pub reads : GivesBytes before.remaining after.remaining after.ended given old new
    pub line : IsFirstLine (before.rest ++ given) after.line after.rest after.ended
    pub lazy : IsLazy gives before.rest given old new

  -- there is no next line
  pub record FindsNoLine (before after : Buffered) (old new : R) : Type 0 where
    pub none : (before.rest ≡ []) × (after.line ≡ [])
    pub ended : after.ended ≡ true
    pub reads : before.ended ≡ false → GivesBytes before.remaining after.remaining true [] old new

  -- Reads gave these bytes, and reading ended with this fault.
  abbrev pub LastRead : Limits → ℕ → R → List ℕ → R → ReadFault → Type 0
  LastRead limits turns old given new ReadFault.Device =
      (last : R) × AreReads gives turns old given last × gives last None new
      × ((state new).failures ≡ after_more (state old).failures 1)
  LastRead limits turns old given new ReadFault.TooManyTurns =
      AreReads gives turns old given new × ((state new).failures ≡ (state old).failures)
      × (turns ≡ limits.turns) × ((state new).calls ≡ after_more (state old).calls limits.turns)
  LastRead limits turns old given new fault =
      AreReads gives turns old given new × ((state new).failures ≡ (state old).failures)

  -- The reader gave these bytes, and then reading failed with this fault.
  pub record StopsReading (limits : Limits) (given : List ℕ) (old new : R) (fault : ReadFault) : Type 0 where
    pub turns : ℕ
    pub within : turns ≤ limits.turns
    pub gave : Consumes (state old).remaining (state new).remaining given
    pub reads : LastRead limits turns old given new fault
    pub calls : (state new).calls ≤ after_more (state old).calls limits.turns

  -- The line that begins with these bytes was not read, because of this fault.
  pub record FailsToReadLine (limits : Limits) (head : List ℕ) (old new : R) (fault : ReadFault) : Type 0 where
    pub given : List ℕ
    pub stops : StopsReading limits given old new fault
    pub cause : IsCause gives limits stops.turns (head ++ given) given old new fault
    pub lazy : IsLazy gives head given old new
