-- The text of a query in a file of at most 16,777,216 bytes.
use Rattle.std.specs.Prelude.{◌≡◌, ◌≤◌, ◌<◌, ◌+◌, ℕ, List, [], length, Option, Some, None, IfSome}
use Rattle.bd_value.specs.Limits.{longest_command}
use Rattle.bd_io_device.specs.Devices.{AreReads, Reader, ReadsUntil, after_more}
use Rattle.bd_io_device.specs.declared.reading.ReadFault.{ReadFault}
use Rattle.bd_io_device.specs.declared.reading.ReadFault.TheVariants as reads

-- For a reader: what its reads may give, and its state before and after.
module _ {R : Type 0} (state : R → Reader) (gives : R → Option (List ℕ) → R → Type 0) (old new : R) where
  -- The reads gave this text, and the last of them found the end.
  abbrev pub ReadsQuery : List ℕ → Type 0
  ReadsQuery text = (turns : ℕ) × ReadsUntil gives turns old text (Some []) new
      × IfSome (state old).remaining (λ xs. text ≡ xs) × (length text ≤ longest_command)
      × ((state new).failures ≡ (state old).failures)

  -- The text was not read to its end: a read failed, or gave more bytes than a text may have, and none came after it;
  -- or memory ran out after a read.
  abbrev pub FailsToReadQuery : ReadFault → Type 0
  FailsToReadQuery reads.Device =
      (turns : ℕ) × (given : List ℕ) × ReadsUntil gives turns old given None new
      × (length given ≤ longest_command) × ((state new).failures ≡ after_more (state old).failures 1)
  FailsToReadQuery reads.TooLong =
      (turns : ℕ) × (given : List ℕ) × (last : List ℕ) × ReadsUntil gives turns old given (Some last) new
      × (length given ≤ longest_command) × (longest_command < length given + length last)
      × ((state new).failures ≡ (state old).failures)
  FailsToReadQuery reads.TooManyTurns = ⊥
  FailsToReadQuery reads.NoMemory =
      (turns : ℕ) × (given : List ℕ) × (0 < turns) × AreReads gives turns old given new
      × (length given ≤ longest_command) × ((state new).failures ≡ (state old).failures)
