-- What contracts say of the devices that give bytes: their state, and what a read of bytes in memory gives.
use Rattle.std.specs.Prelude.{◌≡◌, ◌≢◌, ◌≤◌, ◌++◌, ℕ, List, length, Option, Some, MatchOption}
use Rattle.std.specs.Io.Buffered.{reader_buffer, reader_remaining}
use Rattle.bd_io_device.specs.Devices.{Reader, after_more, reader_of}
use Rattle.bd_io_device.specs.declared.input.{BufferedInput.BufferedInput, MemoryInput.MemoryInput, SystemInput.SystemInput}

-- For a reader of the system's that will still give these bytes (None: not known).
module _ {R : Type 0} (remaining : R → Option (List ℕ)) where
  -- the state of a device over it
  abbrev pub system_reader : SystemInput R → Reader
  system_reader input = reader_of (remaining input.reader) input.tally

  -- the state of a device that reads it in blocks
  abbrev pub buffered_reader : BufferedInput R → Reader
  buffered_reader input = reader_of (reader_remaining remaining input.device.reader) input.device.tally

-- the bytes that a device read in blocks and has not given yet
abbrev pub bytes_ahead : {R : Type 0} → BufferedInput R → List ℕ
bytes_ahead input = reader_buffer input.device.reader

-- the bytes in memory that are still to be given
abbrev pub input_bytes : MemoryInput → List ℕ
input_bytes input = input.bytes.now

-- the state of a device over bytes in memory
abbrev pub memory_reader : MemoryInput → Reader
memory_reader input = reader_of (Some (input_bytes input)) input.tally

-- the number that the next read has
abbrev pub next_read : MemoryInput → ℕ
next_read input = after_more input.tally.calls 1

-- A read of bytes in memory gives this part of them, or fails (None), and leaves the second device:
-- it fails at the number that is to fail, and else gives at most as many as a call may.
abbrev pub MemoryGives : MemoryInput → Option (List ℕ) → MemoryInput → Type 0
MemoryGives before answer after = (after.most ≡ before.most) × (after.failing ≡ before.failing)
    × MatchOption answer (before.failing ≡ Some (next_read before)) (λ part.
    (before.failing ≢ Some (next_read before))
    × (length part ≤ before.most) × (input_bytes before ≡ part ++ input_bytes after))
