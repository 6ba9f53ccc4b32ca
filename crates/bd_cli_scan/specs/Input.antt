-- What a run read of its input: at most 4,294,967,295 bytes.
-- Each read but the last gives at least one byte, so there are never too many.
use Rattle.std.specs.Prelude.{◌≡◌, ◌≤◌, ◌<◌, ◌⊎◌, ◌+◌, ℕ, List, ◌++◌, length, Option, Some, None, IfSome, Result, Ok}
use Rattle.std.specs.Prelude.{Err}
use Rattle.std.specs.Io.KnownBytes.{Consumes, IsAtEnd}
use Rattle.bd_value.specs.Limits.{longest_input}
use Rattle.bd_io_device.specs.{Devices.after_more, declared.reading.ReadFault.ReadFault}
use Rattle.bd_io_device.specs.Devices.{AreReads, Over, Reader, TakesAtMost}
use Rattle.bd_bson_stream.specs.Stream.{AreFrames, EndsWithinOne, IsWithinOne}
use Rattle.bd_io_device.specs.declared.reading.ReadFault.TheVariants as reads

-- ---- the whole input

-- The input was read completely, and is these bytes; or it was not, for this reason.
abbrev pub ReadsInput : Over Reader → Result (List ℕ) ReadFault → Type 0
ReadsInput file (Ok bytes) =
    IfSome file.before.remaining (λ xs. bytes ≡ xs) × IsAtEnd file.after.remaining × (length bytes ≤ longest_input)
    × (file.after.failures ≡ file.before.failures)
ReadsInput file (Err reads.Device) = file.after.failures ≡ after_more file.before.failures 1
ReadsInput file (Err reads.TooLong) =
    IfSome file.before.remaining (λ xs. longest_input < length xs) × (file.after.failures ≡ file.before.failures)
ReadsInput file (Err reads.TooManyTurns) = ⊥
ReadsInput file (Err reads.NoMemory) = TakesAtMost longest_input file × (file.after.failures ≡ file.before.failures)

-- Each read but the last gave at least one byte;
-- the last may have failed or found the end, and none came after it.
abbrev pub ReadsNoFurther : {R : Type 0} → (R → Option (List ℕ) → R → Type 0) → R → R → Type 0
ReadsNoFurther {R} gives old new = (n : ℕ) × (given : List ℕ) × (last : R) × AreReads gives n old given last
    × ((new ≡ last) ⊎ ((part : Option (List ℕ)) × gives last part new))

-- ---- document by document

-- The reader gave these bytes and no more, and no read failed.
abbrev pub GivesOnly : Over Reader → List ℕ → Type 0
GivesOnly file given =
    Consumes file.before.remaining file.after.remaining given × (file.after.failures ≡ file.before.failures)

-- The reader gave these bytes and then this part of a document, no byte after that document,
-- and no more than the limit in all.
abbrev pub StopsInside : List ℕ → List ℕ → Over Reader → Type 0
StopsInside prefix part file =
    Consumes file.before.remaining file.after.remaining (prefix ++ part)
    × (length (prefix ++ part) ≤ longest_input) × IsWithinOne part

-- The reader gave these bytes, and no byte after the end of the next document.
abbrev pub StopsWithinOne : List ℕ → Over Reader → Type 0
StopsWithinOne prefix file = (part : List ℕ) × StopsInside prefix part file

-- The reader gave these bytes, and no byte after the end of the next document, and no read failed.
abbrev pub GivesWithinOne : Over Reader → List ℕ → Type 0
GivesWithinOne file given = StopsWithinOne given file × (file.after.failures ≡ file.before.failures)

-- All bytes of the reader are these, and it gave documents with lengths and no byte after the end of the next one
-- (if there is more, that one has a bad length); or it gave these bytes, and no more were read for this
-- reason: a read that exceeded the limit gave no more than was missing of its document.
abbrev pub StreamsInput : Over Reader → List ℕ → Option ReadFault → Type 0
StreamsInput file bytes None = IfSome file.before.remaining (λ xs. bytes ≡ xs)
    × ((frames : List (List ℕ)) × (prefix : List ℕ) × AreFrames frames prefix × StopsWithinOne prefix file)
    × (file.after.failures ≡ file.before.failures)
StreamsInput file bytes (Some reads.Device) =
    Consumes file.before.remaining file.after.remaining bytes × (length bytes ≤ longest_input)
    × (file.after.failures ≡ after_more file.before.failures 1)
StreamsInput file bytes (Some reads.TooLong) =
    (last : List ℕ) × Consumes file.before.remaining file.after.remaining (bytes ++ last)
    × (length bytes ≤ longest_input) × (longest_input < length bytes + length last) × EndsWithinOne bytes last
    × (file.after.failures ≡ file.before.failures)
StreamsInput file bytes (Some _) = ⊥
