-- What contracts say of the devices that take bytes: their state, and what a write into memory takes.
use Rattle.std.specs.Prelude.{◌≡◌, ◌≢◌, ◌≤◌, ◌-◌, ℕ, List, length, min, take, Option, Some, MatchOption}
use Rattle.bd_io_device.specs.Devices.{Writer, after_more, writer_of}
use Rattle.bd_io_device.specs.declared.output.{MemoryOutput.MemoryOutput, SystemOutput.SystemOutput}
use Rattle.bd_io_device.specs.declared.output.FailingWrite.TheVariants.{Error, Zero}

-- the state of a device over a writer of the system's that holds these bytes (None: not known)
abbrev pub system_writer : {W : Type 0} → (W → Option (List ℕ)) → SystemOutput W → Writer
system_writer contents output = writer_of (contents output.writer) output.tally

-- how many bytes the memory of a device takes in all
abbrev pub output_size : MemoryOutput → ℕ
output_size output = length output.buffer.now

-- the state of a device that fills memory
abbrev pub memory_writer : MemoryOutput → Writer
memory_writer output = writer_of (Some (take output.filled output.buffer.now)) output.tally

-- how many bytes its memory still takes
abbrev pub output_spare : MemoryOutput → ℕ
output_spare output = output_size output - output.filled

-- the number that the next write has
abbrev pub next_write : MemoryOutput → ℕ
next_write output = after_more output.tally.calls 1

-- A write of these bytes into memory takes this number of them, or fails (None), and leaves the second device:
-- the call that is to fail does so, or takes none; any other takes all that fit, and that a call may take.
abbrev pub MemoryTakes : MemoryOutput → List ℕ → Option ℕ → MemoryOutput → Type 0
MemoryTakes before bytes answer after = (after.most ≡ before.most)
    × (after.failing ≡ before.failing) × (output_size after ≡ output_size before)
    × MatchOption answer (before.failing ≡ Some (Error (next_write before))) (λ n.
    (before.failing ≢ Some (Error (next_write before)))
    × (n ≤ before.most) × (before.failing ≡ Some (Zero (next_write before)) → n ≡ 0)
    × (before.failing ≢ Some (Zero (next_write before)) →
    n ≡ min (min (length bytes) (output_spare before)) before.most))
