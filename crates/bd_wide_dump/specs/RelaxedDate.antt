-- The text of a date in relaxed Extended JSON v2, as Go's driver writes it: RFC 3339, in UTC.
use Rattle.std.specs.Prelude.{◌≡◌, ℕ, ℤ, pos, negsuc, unsigned_abs, ◌+◌, ◌/◌, ◌%◌, ◌==◌, nat_lt, List, [], ◌∷◌, ◌++◌}
use Rattle.std.specs.Prelude.{Bool, true, false, if◌then◌else◌, codes}
use Rattle.jiff_core.specs.declared.civil.date.Date.{Date}
use Rattle.jiff_core.specs.Date.{epoch_day}
use Rattle.bd_value.specs.Tree.{date}
use Rattle.bd_extjson_text.specs.Text.{scalar_text}

-- two decimal digits
abbrev pub two : ℕ → List ℕ
two n = (48 + n / 10) ∷ (48 + n % 10) ∷ []

-- four decimal digits
abbrev pub four : ℕ → List ℕ
four n = two (n / 100) ++ two (n % 100)

-- RFC 3339, `full-date`: 2012-12-24
abbrev pub day_text : Date → List ℕ
day_text day = four (unsigned_abs day.year) ++ 45 ∷ (two day.month ++ 45 ∷ two day.day)

-- RFC 3339, `time-secfrac`, by the thousandths of a second: without the zeros at its end, and nothing for 0
abbrev pub fraction_text : ℕ → List ℕ
fraction_text m = if m == 0 then []
    else (if m % 100 == 0 then 46 ∷ (48 + m / 100) ∷ []
    else (if m % 10 == 0 then 46 ∷ two (m / 10)
    else 46 ∷ (48 + m / 100) ∷ two (m % 100)))

-- RFC 3339: `T`, `time-hour`, `time-minute` and `time-second`, by the milliseconds of a day: T12:15:30
abbrev pub seconds_text : ℕ → List ℕ
seconds_text ms = 84 ∷ (two (ms / 3_600_000) ++ 58 ∷ (two (ms / 60_000 % 60) ++ 58 ∷ two (ms / 1000 % 60)))

-- the same with the fraction of the second: T12:15:30.501
abbrev pub time_text : ℕ → List ℕ
time_text ms = seconds_text ms ++ fraction_text (ms % 1000)

-- RFC 3339, `date-time`, in UTC: a day and the milliseconds of the day, 2012-12-24T12:15:30.501Z
abbrev pub instant_text : Date → ℕ → List ℕ
instant_text day ms = day_text day ++ (time_text ms ++ 90 ∷ [])

-- the same in its wrapper: {"$date":"2012-12-24T12:15:30.501Z"}
abbrev pub dated_text : Date → ℕ → List ℕ
dated_text day ms = codes "{\"$date\":\"" ++ (instant_text day ms ++ codes "\"}")

-- whether a time is in the years 1970 to 9999, by the milliseconds since 1970 began
abbrev pub is_dated : ℤ → Bool
is_dated (pos n) = nat_lt n 253_402_300_800_000
is_dated (negsuc n) = false

-- the milliseconds of a day
abbrev pub day_length : ℕ
day_length = 86_400_000

-- The text of a time by the milliseconds since 1970 began: the day of the calendar whose number is that of the whole days,
-- and the milliseconds of this day.
abbrev pub IsDatedText : ℕ → List ℕ → Type 0
IsDatedText ms text = (day : Date) × (epoch_day day ≡ pos (ms / day_length)) × (text ≡ dated_text day (ms % day_length))

-- The text of a date by whether it is in these years.
abbrev pub IsDateTextBy : Bool → ℤ → List ℕ → Type 0
IsDateTextBy true z text = IsDatedText (unsigned_abs z) text
IsDateTextBy false z text = text ≡ scalar_text (date z)

-- The text of a date: in the years 1970 to 9999 a date and a time, else as in canonical form.
abbrev pub IsDateText : ℤ → List ℕ → Type 0
IsDateText z text = IsDateTextBy (is_dated z) z text
