-- Documents that a device gives one after the other, by the lengths that they begin with.
use Rattle.std.specs.Prelude.{◌≡◌, ◌<◌, ◌≤◌, ◌+◌, ◌-◌, ◌⊎◌, ℕ, List, [], ◌∷◌, ◌++◌, length, take, Option, Some, None, suc}
use Rattle.std.specs.Prelude.{Result, Ok, Err, IfSome, IsTrue, Bool, false}
use Rattle.std.specs.Io.KnownBytes.{Consumes, IsAtEnd}
use Rattle.bd_value.specs.Limits.{longest_document}
use Rattle.bd_io_device.specs.{Devices.after_more, Devices.AreReads, Devices.Over, Devices.Reader, Devices.ReadsUntil, Devices.over}
use Rattle.bd_io_device.specs.declared.reading.{Limits.Limits, ReadFault.ReadFault}
use Rattle.bd_bson_check.specs.{Dump.frame_length, Dump.stated_length, declared.fault.FaultKind.FaultKind}
use Rattle.bd_bson_stream.specs.declared.{doc_buffer.DocBuffer.DocBuffer, doc_buffer.DocFault.DocFault}
use Rattle.bd_bson_stream.specs.declared.{doc_reader.DocReader.DocReader, doc_reader.RawBytes.RawBytes}

-- The bytes begin with the length of a document, and are exactly that many.
abbrev pub IsFrame : List ℕ → Type 0
IsFrame bytes = frame_length bytes ≡ Ok (Some (length bytes))

-- The bytes are these documents by their lengths, one after the other.
abbrev pub AreFrames : List (List ℕ) → List ℕ → Type 0
AreFrames [] bytes = bytes ≡ []
AreFrames (frame ∷ frames) bytes = (rest : List ℕ) × IsFrame frame × AreFrames frames rest × (bytes ≡ frame ++ rest)

-- The bytes are fewer than a document: fewer than four, or fewer than they state, if that length could be a document's.
abbrev pub IsCutShort : List ℕ → Type 0
IsCutShort bytes = (length bytes < 4)
    ⊎ ((5 ≤ stated_length bytes) × (stated_length bytes ≤ longest_document) × (length bytes < stated_length bytes))

-- The bytes are within one document: at most four, or no more than they state, if that length could be a document's.
abbrev pub IsWithinOne : List ℕ → Type 0
IsWithinOne bytes = (length bytes ≤ 4)
    ⊎ ((5 ≤ stated_length bytes) × (stated_length bytes ≤ longest_document) × (length bytes ≤ stated_length bytes))

-- The bytes are documents by their lengths and a part of one more,
-- and with the last bytes the part is still within that one.
abbrev pub EndsWithinOne : List ℕ → List ℕ → Type 0
EndsWithinOne bytes last = (frames : List (List ℕ)) × (prefix : List ℕ) × (part : List ℕ) × AreFrames frames prefix
    × (bytes ≡ prefix ++ part) × IsWithinOne (part ++ last)

-- The head and what the device still gives after it (if that is unknown,
-- some bytes) begin with no length of a document, for this reason.
abbrev pub HasNoFrame : List ℕ → Option (List ℕ) → FaultKind → Type 0
HasNoFrame head remaining kind = (bytes : List ℕ) × IfSome remaining (λ rest. bytes ≡ head ++ rest)
    × (frame_length bytes ≡ Err kind)

-- how much may still be read from the device
abbrev pub limits_remaining : DocBuffer → Limits
limits_remaining documents = documents.remaining

-- the offset of the next document's first byte
abbrev pub next_offset : DocBuffer → ℕ
next_offset documents = documents.offset

-- the number of the next document
abbrev pub next_number : DocBuffer → ℕ
next_number documents = documents.number

-- an earlier call had an error
abbrev pub has_failed : DocBuffer → Bool
has_failed documents = documents.failed

-- all bytes of the buffer; the current document is at its start
abbrev pub buffer_bytes : DocBuffer → List ℕ
buffer_bytes documents = documents.buffer.items

-- how many of them are those of the current document
abbrev pub held_size : DocBuffer → ℕ
held_size documents = documents.size

-- the bytes of the current document
abbrev pub buffered_bytes : DocBuffer → List ℕ
buffered_bytes documents = take documents.size documents.buffer.items

-- the buffer is the same
abbrev pub KeepsBuffer : DocBuffer → DocBuffer → Type 0
KeepsBuffer before after = after.buffer ≡ before.buffer

module _ {R : Type 0} where
  -- the device of a reader
  abbrev pub device_of : DocReader R → R
  device_of reader = reader.reader

  -- the buffer of a reader
  abbrev pub buffer_of : DocReader R → DocBuffer
  buffer_of reader = reader.documents

-- the buffer is unchanged in length, or as long as a document needs
abbrev pub BuffersAsMuch : ℕ → ℕ → ℕ → Type 0
BuffersAsMuch before after size = (after ≡ before) ⊎ ((before < size) × (after ≡ size))

-- The buffer is unchanged in length, or it has grown to the length that these first bytes of a document state.
abbrev pub GrowsFor : ℕ → ℕ → List ℕ → Type 0
GrowsFor before after bytes = (after ≡ before) ⊎ ((4 ≤ length bytes) × BuffersAsMuch before after (stated_length bytes))

-- Each read takes one from the reads that remain.
abbrev pub CountsReads : DocBuffer → DocBuffer → Over Reader → Type 0
CountsReads before after file = (after.remaining.turns ≤ before.remaining.turns)
    × (file.after.calls ≡ after_more file.before.calls (before.remaining.turns - after.remaining.turns))

-- No document is buffered, and the next one is still the same.
pub record BuffersNone (before after : DocBuffer) : Type 0 where
  pub offset : after.offset ≡ before.offset
  pub number : after.number ≡ before.number
  pub capacity : after.remaining.bytes ≡ before.remaining.bytes
  pub empty : after.size ≡ 0

-- The reads after this head of a document: the end came inside it, or its four bytes are a bad length,
-- after which nothing is read.
abbrev pub ReadsToFault : {R : Type 0} → (R → Option (List ℕ) → R → Type 0) → List ℕ → R → List ℕ → R → Type 0
ReadsToFault gives head old given new = (turns : ℕ)
    × ((IsCutShort (head ++ given) × ReadsUntil gives turns old given (Some []) new)
    ⊎ ((length (head ++ given) ≡ 4) × AreReads gives turns old given new))

-- For a reader with this state, whose reads may give these bytes, or fail (None), and lead from one reader to the next.
module _ {R : Type 0} (state : R → Reader) where
  module _ (gives : R → Option (List ℕ) → R → Type 0) where
    -- There is no next document: one read found the end of the device.
    pub record FindsEnd (before after : DocBuffer) (old new : R) : Type 0 where
      pub unchanged : BuffersNone before after
      pub end : IsAtEnd (state new).remaining
      pub gave : Consumes (state old).remaining (state new).remaining []
      pub one : (before.remaining.turns ≡ suc after.remaining.turns) × gives old (Some []) new
      pub counted : CountsReads before after (over state old new)
      pub no_failure : (state new).failures ≡ (state old).failures
      pub grown : length after.buffer.items ≡ length before.buffer.items

    -- The next document was read, and no byte after it.
    pub record ReadsDocument (before after : DocBuffer) (old new : R) : Type 0 where
      pub frame : IsFrame (buffered_bytes after)
      pub gave : Consumes (state old).remaining (state new).remaining (buffered_bytes after)
      pub reads : AreReads gives (before.remaining.turns - after.remaining.turns) old (buffered_bytes after) new
      pub offset : after.offset ≡ before.offset + after.size
      pub number : after.number ≡ before.number + 1
      pub capacity : after.remaining.bytes + after.size ≡ before.remaining.bytes
      pub counted : CountsReads before after (over state old new)
      pub no_failure : (state new).failures ≡ (state old).failures
      pub grown : BuffersAsMuch (length before.buffer.items) (length after.buffer.items) after.size

    -- why a document was not read, of which the reader gave these bytes after its head; memory is needed once the four
    -- bytes of its length were read, and no byte is read after them;
    -- if a length is bad, no byte is read beyond what it counts
    abbrev pub IsReason : DocBuffer → R → R → List ℕ → List ℕ → DocFault → Type 0
    IsReason before old new head given (DocFault.Frame f) =
        (f.offset ≡ before.offset) × (f.document ≡ before.number) × HasNoFrame head (state old).remaining f.kind
        × (frame_length (head ++ given) ≡ Err f.kind) × (length (head ++ given) ≤ before.remaining.bytes)
        × ((state new).failures ≡ (state old).failures) × IsWithinOne (head ++ given)
        × ReadsToFault gives head old given new
    IsReason before old new head given (DocFault.Read ReadFault.Device) =
        IsCutShort (head ++ given) × (length (head ++ given) ≤ before.remaining.bytes)
        × ((state new).failures ≡ after_more (state old).failures 1)
        × ((turns : ℕ) × ReadsUntil gives turns old given None new)
    IsReason before old new head given (DocFault.Read ReadFault.TooLong) =
        (prefix : List ℕ) × (last : List ℕ) × (given ≡ prefix ++ last) × IsCutShort (head ++ prefix)
        × (length (head ++ prefix) ≤ before.remaining.bytes) × (before.remaining.bytes < length (head ++ prefix) + length last)
        × IsWithinOne (head ++ given) × ((state new).failures ≡ (state old).failures)
        × ((turns : ℕ) × ReadsUntil gives turns old prefix (Some last) new)
    IsReason before old new head given (DocFault.Read ReadFault.TooManyTurns) =
        IsCutShort (head ++ given) × (length (head ++ given) ≤ before.remaining.bytes)
        × AreReads gives before.remaining.turns old given new
        × ((state new).calls ≡ after_more (state old).calls before.remaining.turns)
        × ((state new).failures ≡ (state old).failures)
    IsReason before old new head given (DocFault.Read ReadFault.NoMemory) = IsCutShort (head ++ given)
        × (length (head ++ given) ≤ before.remaining.bytes) × ((state new).failures ≡ (state old).failures)
        × (length (head ++ given) ≡ 4) × ((turns : ℕ) × AreReads gives turns old given new)
    IsReason before old new head given DocFault.Failed = ⊥

    -- The rest of a document that begins with this head was not read:
    -- the reader gave only these bytes, for this reason.
    pub record FailsToRead (head : List ℕ) (before after : DocBuffer) (old new : R) (fault : DocFault) : Type 0 where
      pub given : List ℕ
      pub gave : Consumes (state old).remaining (state new).remaining given
      pub unchanged : BuffersNone before after
      pub counted : (state new).calls ≤ after_more (state old).calls before.remaining.turns
      pub grown : GrowsFor (length before.buffer.items) (length after.buffer.items) (head ++ given)
      pub reason : IsReason before old new head given fault

    -- What a call for the next document did to the buffer and the device:
    -- a document was read, there is none, or reading failed.
    abbrev pub Leaves : DocBuffer → R → Result (Option RawBytes) DocFault → DocBuffer → R → Type 0
    Leaves before old (Ok (Some document)) after new =
        ReadsDocument before after old new × (document.bytes.now ≡ buffered_bytes after) × (after.failed ≡ false)
    Leaves before old (Ok None) after new = FindsEnd before after old new × (after.failed ≡ false)
    Leaves before old (Err fault) after new =
        IsTrue after.failed × (before.failed ≡ false → FailsToRead [] before after old new fault)
        × (IsTrue before.failed → (new ≡ old) × BuffersNone before after × (after.buffer ≡ before.buffer))
