-- Bytes counted before they are written.
use Rattle.std.specs.Prelude.{◌≡◌, ◌<◌, ◌+◌, ℕ, Option, Some, None}

-- This number of bytes remains of the limit after these; none if these are more.
abbrev pub IsRemainder : ℕ → ℕ → Option ℕ → Type 0
IsRemainder limit size (Some remaining) = size + remaining ≡ limit
IsRemainder limit size None = limit < size
