-- The plain text of a value, as a field of CSV has it: mongoexport's, where a value needs no type.
use Rattle.std.specs.Prelude.{◌≡◌, ℕ, ℤ, pos, unsigned_abs, ◌/◌, ◌%◌, ◌==◌, ◌&&◌, List, [], ◌∷◌, ◌++◌, Bool, true, false, if◌then◌else◌, take, drop, length}
use Rattle.jiff_core.specs.declared.civil.date.Date.{Date}
use Rattle.jiff_core.specs.Date.{epoch_day}
use Rattle.bd_value.specs.Tree.{Tree, leaf, date}
use Rattle.bd_value.specs.Tree as trees
use Rattle.bd_bson_view.specs.Spelling.{NumberKind, as_double, as_decimal128}
use Rattle.bd_bson_view.specs.Sizes.{long_of}
use Rattle.bd_extjson_text.specs.Text.{hex_text, scalar_text}
use Rattle.bd_wide_text.specs.{Double.IsDoubleText, Decimal128.decimal128_text}
use Rattle.bd_wide_dump.specs.declared.format.JsonFormat.TheVariants.{Relaxed}
use Rattle.bd_wide_dump.specs.RelaxedDate.{day_length, instant_text, is_dated}
use Rattle.bd_wide_dump.specs.WideText.{IsNumberText, IsRawBy, IsTextOf}

-- RFC 9562, section 4: sixteen bytes as a UUID, 8, 4, 4, 4 and 12 lower-case digits with hyphens between them
abbrev pub uuid_text : List ℕ → List ℕ
uuid_text id = hex_text (take 4 id) ++ 45 ∷ (hex_text (take 2 (drop 4 id)) ++ 45 ∷ (hex_text (take 2 (drop 6 id))
    ++ 45 ∷ (hex_text (take 2 (drop 8 id)) ++ 45 ∷ hex_text (drop 10 id))))

-- BSON 1.1, `subtype`: whether binary data is a UUID, which is sixteen bytes of subtype 04
abbrev pub is_uuid : ℕ → List ℕ → Bool
is_uuid subtype bytes = subtype == 4 && length bytes == 16

-- The text of a number by its type and the bytes of its value: without a wrapper.
abbrev pub IsPlainNumber : NumberKind → List ℕ → List ℕ → Type 0
IsPlainNumber as_double value text = IsDoubleText (long_of value) text
IsPlainNumber as_decimal128 value text = text ≡ decimal128_text (long_of value) (long_of (drop 8 value))
IsPlainNumber kind value text = IsNumberText Relaxed kind value text

-- The text of a time by the milliseconds since 1970 began, a day and the milliseconds of the day.
abbrev pub IsInstantText : ℕ → List ℕ → Type 0
IsInstantText ms text = (day : Date) × (epoch_day day ≡ pos (ms / day_length)) × (text ≡ instant_text day (ms % day_length))

-- The text of a date by whether it is in the years 1970 to 9999.
abbrev pub IsPlainDate : Bool → ℤ → List ℕ → Type 0
IsPlainDate true z text = IsInstantText (unsigned_abs z) text
IsPlainDate false z text = text ≡ scalar_text (date z)

-- The text of a value: nothing for null, a string as it is, an ObjectId in hexadecimal, a number without a wrapper, a date of the
-- years 1970 to 9999 as a date and a time, a UUID as one, and any other value as relaxed Extended JSON.
abbrev pub IsPlainText : Tree → List ℕ → Type 0
IsPlainText (leaf trees.null) text = text ≡ []
IsPlainText (leaf (trees.text s)) text = text ≡ s
IsPlainText (leaf (trees.object_id id)) text = text ≡ hex_text id
IsPlainText (leaf (trees.int64 z)) text = IsRawBy IsPlainNumber z text
IsPlainText (leaf (date z)) text = IsPlainDate (is_dated z) z text
IsPlainText (leaf (trees.binary subtype bytes)) text =
    text ≡ (if is_uuid subtype bytes then uuid_text bytes else scalar_text (trees.binary subtype bytes))
IsPlainText t text = IsTextOf Relaxed t text
