-- Devices before calls and after them, even if their bytes are unknown: what was read and what was written.
use Rattle.std.specs.Prelude.{◌≡◌, ◌≢◌, ℕ, ◌+◌, ◌<◌, ◌⊎◌, min, suc, ◌≤◌, List, [], ◌++◌, length, take, drop, codes}
use Rattle.std.specs.Prelude.{Option, None, Some, Result, Ok, Err}
use Rattle.std.specs.Io.KnownBytes.{Appends, Consumes}
use Rattle.bd_io_device.specs.declared.{input.Tally.Tally, reading.Limits.Limits, reading.ReadFault.ReadFault}
use Rattle.bd_io_device.specs.declared.reading.ReadFault.TheVariants as reads

-- the greatest count of 64 bits, 2^64 - 1
abbrev pub greatest : ℕ
greatest = 18446744073709551615

-- the count n after `more` further calls; it stays at the greatest of 64 bits
abbrev pub after_more : ℕ → ℕ → ℕ
after_more n more = min (n + more) greatest

-- a reader: the bytes that it will still give (None: unknown), how many reads were made, and how many failed
pub record Reader : Type 0 where
  pub remaining : Option (List ℕ)
  pub calls : ℕ
  pub failures : ℕ

-- a writer: the bytes that it contains (None: unknown), how many writes were made, and how many failed
pub record Writer : Type 0 where
  pub contents : Option (List ℕ)
  pub calls : ℕ
  pub failures : ℕ

-- a reader with these bytes to give (None: unknown) after these counts of
-- reads and of failures, each at most 2^64 - 1
abbrev pub reader_of : Option (List ℕ) → Tally → Reader
reader_of remaining tally = record { remaining = remaining; calls = min tally.calls greatest; failures = min tally.failures greatest }

-- a writer that took these bytes (None: unknown) after these counts of
-- writes and of failures, each at most 2^64 - 1
abbrev pub writer_of : Option (List ℕ) → Tally → Writer
writer_of contents tally = record { contents = contents; calls = min tally.calls greatest; failures = min tally.failures greatest }

-- the two states of a device around a run: the one before it and the one after it
pub record Over (Device : Type 0) : Type 0 where
  pub before : Device
  pub after : Device

-- the two states of a device around a run: the one before it and the one after it
abbrev pub between : {Device : Type 0} → Device → Device → Over Device
between before after = record { before = before; after = after }

-- the two states around a run of the device that a value has
abbrev pub over : {D Device : Type 0} → (D → Device) → D → D → Over Device
over state old new = between (state old) (state new)

-- The writer took the whole text, and no write failed; for an empty text no write was made.
abbrev pub TakesText : Over Writer → List ℕ → Type 0
TakesText out text = Appends out.before.contents out.after.contents text × (out.after.failures ≡ out.before.failures)
    × (text ≡ [] → out.after ≡ out.before)

-- The writer took a prefix of the text, and no write failed.
abbrev pub TakesPrefix : Over Writer → List ℕ → Type 0
TakesPrefix out text = (prefix : List ℕ) × (rest : List ℕ) × (text ≡ prefix ++ rest) × TakesText out prefix

-- the writer took the first text whole and a prefix of the second, and then a write of the rest failed
abbrev pub WriteFailsAfter : Over Writer → List ℕ → List ℕ → Type 0
WriteFailsAfter out whole text = (prefix : List ℕ) × (rest : List ℕ) × (text ≡ prefix ++ rest) × (rest ≢ [])
    × Appends out.before.contents out.after.contents (whole ++ prefix)
    × (out.after.failures ≡ after_more out.before.failures 1)

-- the writer took a prefix of the text, and then a write of the rest failed
abbrev pub WriteFailsWithin : Over Writer → List ℕ → Type 0
WriteFailsWithin out text = WriteFailsAfter out [] text

-- the reader gave at most `limit` bytes
abbrev pub TakesAtMost : ℕ → Over Reader → Type 0
TakesAtMost limit file = (given : List ℕ) × Consumes file.before.remaining file.after.remaining given × (length given ≤ limit)

-- what a read into a buffer gave: the bytes at its start, or None if the read failed
abbrev pub bytes_given : {E : Type 0} → Result ℕ E → List ℕ → Option (List ℕ)
bytes_given (Ok n) buffer = Some (take n buffer)
bytes_given (Err _) buffer = None

-- how many bytes a write took, or None if the write failed
abbrev pub count_taken : {E : Type 0} → Result ℕ E → Option ℕ
count_taken (Ok n) = Some n
count_taken (Err _) = None

-- n reads in a row led from one device to the other;
-- each gave at least one byte, and these are all bytes that they gave
pub data AreReads {S : Type 0} (gives : S → Option (List ℕ) → S → Type 0) : ℕ → S → List ℕ → S → Type 0 where
  zero_reads : (s : S) → AreReads gives 0 s [] s
  more_reads : (n : ℕ) (s t u : S) (prefix part : List ℕ) → AreReads gives n s prefix t
      → gives t (Some part) u → 0 < length part → AreReads gives (suc n) s (prefix ++ part) u

-- writes in a row led from one device to the other;
-- each was given all that remained of the bytes, and took at least one
pub data AreWrites {S : Type 0} (takes : S → List ℕ → Option ℕ → S → Type 0)
    (bytes : List ℕ) : S → List ℕ → S → Type 0 where
  no_write : (s : S) → AreWrites takes bytes s bytes s
  more_writes : (s t u : S) (rest : List ℕ) (n : ℕ) → AreWrites takes bytes s rest t
      → takes t rest (Some n) u → 0 < n → AreWrites takes bytes s (drop n rest) u

-- For a reader: a read of the first state may give these bytes, or fail (None), and lead to the second state.
module _ {S : Type 0} (gives : S → Option (List ℕ) → S → Type 0) where
  -- Reads led from one device to the other: all but the last gave these bytes, each at least one,
  -- and the last gave `answer`, or failed if that is None.
  abbrev pub ReadsUntil : ℕ → S → List ℕ → Option (List ℕ) → S → Type 0
  ReadsUntil turns s bytes answer t =
      (n : ℕ) × (last : S) × (turns ≡ suc n) × AreReads gives n s bytes last × gives last answer t

  -- Reads gave these bytes: as many as the buffer takes, or fewer, and one more read found the end.
  abbrev pub FillsBuffer : ℕ → ℕ → S → List ℕ → S → Type 0
  FillsBuffer size turns s bytes t = ((length bytes ≡ size) × AreReads gives turns s bytes t)
      ⊎ ((length bytes < size) × ReadsUntil turns s bytes (Some []) t)

  -- A buffer of that size was not filled within the limits, for this reason, and this is what the reads gave.
  abbrev pub FailsToFill : (S → Reader) → Limits → ℕ → S → S → ReadFault → Type 0
  FailsToFill state limits size s t reads.TooLong =
      (turns : ℕ) × (given : List ℕ) × (last : List ℕ) × (turns ≤ limits.turns) × ReadsUntil turns s given (Some last) t
      × Consumes (state s).remaining (state t).remaining (given ++ last) × (length given ≤ limits.bytes)
      × (limits.bytes < length given + length last) × (length given + length last ≤ size)
  FailsToFill state limits size s t reads.Device =
      (turns : ℕ) × (given : List ℕ) × (turns ≤ limits.turns) × ReadsUntil turns s given None t
      × Consumes (state s).remaining (state t).remaining given × (length given < size) × (length given ≤ limits.bytes)
  FailsToFill state limits size s t reads.TooManyTurns =
      (given : List ℕ) × AreReads gives limits.turns s given t
      × Consumes (state s).remaining (state t).remaining given × (length given < size) × (length given ≤ limits.bytes)
  FailsToFill state limits size s t reads.NoMemory = ⊥

-- the message of an input that was not read to its end
abbrev pub read_words : ReadFault → List ℕ
read_words reads.Device = codes "cannot read"
read_words reads.TooLong = codes "input too long"
read_words reads.TooManyTurns = codes "too many reads"
read_words reads.NoMemory = codes "no memory"
