-- Why the buffered bytes of a line were not taken.
use Rattle.std.specs.Prelude.{◌≡◌, ◌<◌, ◌≤◌, ◌+◌, ◌⊎◌, ℕ, List, ◌∷◌, ◌++◌, length}
use Rattle.bd_io_device.specs.declared.reading.ReadFault.{ReadFault}
use Rattle.bd_value.specs.Limits.{longest_command}
use Rattle.bd_io_lines.specs.Lines.{IsLine}

-- A line that begins with the bytes `line` was not taken further from the buffered bytes `rest`, for this reason;
-- `turns` reads are still allowed.
abbrev pub StopsLine : List ℕ → List ℕ → ℕ → ReadFault → Type 0
StopsLine line rest turns ReadFault.TooLong =
    (part : List ℕ) × (more : List ℕ) × IsLine part × (rest ≡ part ++ more) × (longest_command < length line + length part)
StopsLine line rest turns ReadFault.TooManyTurns = IsLine rest × (length line + length rest ≤ longest_command) × (turns ≡ 0)
StopsLine line rest turns ReadFault.NoMemory =
    ((part : List ℕ) × (more : List ℕ) × IsLine part × (rest ≡ part ++ 10 ∷ more) × (length line + length part ≤ longest_command))
    ⊎ (IsLine rest × (length line + length rest ≤ longest_command) × (0 < turns))
StopsLine line rest turns ReadFault.Device = ⊥
