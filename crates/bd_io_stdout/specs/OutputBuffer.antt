-- What was written: what the device has of it, and what is still buffered.
use Rattle.std.specs.Prelude.{◌≡◌, ◌≢◌, ◌+◌, ◌<◌, ◌≤◌, ◌⊎◌, ℕ, List, [], ◌++◌, length, take, Option, None, Some}
use Rattle.bd_io_device.specs.Devices.{WriteFailsWithin, TakesText, over}
use Rattle.bd_io_device.specs.declared.output.Output.{Ghosts as Output}
use Rattle.bd_io_stdout.specs.declared.output_buffer.WriteState.{WriteState}
use Rattle.bd_io_stdout.specs.declared.output_buffer.WriteState.TheVariants.{Intact, Lost}

-- the bytes that are buffered, how many these may be, their device, and what became of the bytes before
pub record BufferState (D : Type 0) : Type 0 where
  pub waiting : List ℕ
  pub capacity : ℕ
  pub device : D
  pub write_state : WriteState

-- These bytes are fewer than 64 KiB, and fit into the buffer.
abbrev pub FitsBuffer : {D : Type 0} → BufferState D → List ℕ → Type 0
FitsBuffer old bytes = (length bytes < 65536) × (length old.waiting + length bytes ≤ old.capacity)

-- writes in a row led from one device to the other; each took some bytes, and joined in this order they are these
pub data AreTaken {S : Type 0} (takes : S → List ℕ → Option ℕ → S → Type 0) : S → List ℕ → S → Type 0 where
  none_taken : (s : S) → AreTaken takes s [] s
  more_taken : (s t u : S) (taken text : List ℕ) (n : ℕ) → AreTaken takes s taken t
      → takes t text (Some n) u → 0 < n → AreTaken takes s (taken ++ take n text) u

-- the device took all of these bytes, in order, and no write failed
pub record TakesAllBytes {D : Type 0} (o : Output D) (old : D) (bytes : List ℕ) (new : D) : Type 0 where
  pub contents : TakesText (over o.state old new) bytes
  pub writes : AreTaken o.write_takes old bytes new

-- the device took a prefix of these bytes; then a write of some of the next bytes failed, and no write was made after
-- it
pub record WriteFails {D : Type 0} (o : Output D) (old : D) (bytes : List ℕ) (new : D) : Type 0 where
  pub contents : WriteFailsWithin (over o.state old new) bytes
  pub writes : (taken : List ℕ) × (text : List ℕ) × (later : List ℕ) × (last : D)
      × (bytes ≡ taken ++ (text ++ later)) × AreTaken o.write_takes old taken last × (text ≢ [])
      × (o.write_takes last text None new ⊎ o.write_takes last text (Some 0) new)

-- These bytes were written, and no write of the device failed: what the device took meanwhile, joined with what is
-- buffered after, is what was buffered before, joined with these bytes.
abbrev pub Buffers : {D : Type 0} (o : Output D) → BufferState D → List ℕ → BufferState D → Type 0
Buffers o old bytes new = (handed : List ℕ) × (old.waiting ++ bytes ≡ handed ++ new.waiting)
    × TakesAllBytes o old.device handed new.device

-- the buffered bytes were passed to the device, or a write of them failed; after a loss there is no write
pub record HandsOn {D : Type 0} (o : Output D) (old new : BufferState D) : Type 0 where
  pub intact : new.write_state ≡ Intact → (old.write_state ≡ Intact) × Buffers o old [] new
  pub write_failed : old.write_state ≡ Intact → new.write_state ≢ Intact → (new.write_state ≡ Lost) × WriteFails o old.device old.waiting new.device
  pub after_loss : old.write_state ≢ Intact → (new.write_state ≡ old.write_state) × (new.device ≡ old.device)
