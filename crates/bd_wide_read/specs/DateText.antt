-- The date that a text means: the `date-time` of RFC 3339, as 2012-12-24T12:15:30.501+01:00, with thousandths of a second at most.
use Rattle.std.specs.Prelude.{ℕ, ◌+◌, ◌-◌, ◌*◌, ℤ, pos, neg_ℤ, ◌+ℤ◌, ◌-ℤ◌, ◌*ℤ◌, Bool, ◌&&◌, ◌==◌, nat_lt, nat_le, if◌then◌else◌}
use Rattle.std.specs.Prelude.{List, [], ◌∷◌, length, take, drop, get_or, slice_index, Option, Some, None, option_map, option_and_then}
use Rattle.std.specs.{Char.is_ascii_digit, List.list_all}
use Rattle.jiff_core.specs.Calendar.{days_from_civil, days_in_month}
use Rattle.bd_wide_read.specs.JsonNumber.{after_digits}

infixl 10 ◌>>=◌
-- the next step, if there is a value
abbrev pub ◌>>=◌ : {A B : Type 0} → Option A → (A → Option B) → Option B
o >>= f = option_and_then f o

-- the number that two digits write
abbrev pub two_digits : ℕ → ℕ → Option ℕ
two_digits a b = if is_ascii_digit a && is_ascii_digit b then Some ((a - 48) * 10 + (b - 48)) else None

-- the number that the two digits at a place of a text write
abbrev pub two_at : ℕ → List ℕ → Option ℕ
two_at n text = two_digits (slice_index text n) (slice_index text (n + 1))

-- the number of a day of the calendar, where 1970-01-01 is 0; None if there is no such day
abbrev pub day_number : ℕ → ℕ → ℕ → Option ℤ
day_number year month day =
    if nat_le 1 month && nat_le month 12 && nat_le 1 day && nat_le day (days_in_month (pos year) month)
    then Some (days_from_civil (pos year) month day) else None

-- `full-date`: 2012-12-24
abbrev pub day_of : List ℕ → Option ℤ
day_of text = do
  century ← two_at 0 text
  year ← two_at 2 text
  month ← two_at 5 text
  day ← two_at 8 text
  day_number (century * 100 + year) month day

-- the seconds of a time of the day; the minute has 60
abbrev pub time_number : ℕ → ℕ → ℕ → Option ℕ
time_number hour minute second =
    if nat_lt hour 24 && nat_lt minute 60 && nat_lt second 60 then Some (hour * 3600 + minute * 60 + second) else None

-- `time-hour`, `time-minute` and `time-second` after a date: 12:15:30
abbrev pub seconds_of : List ℕ → Option ℕ
seconds_of text = do
  hour ← two_at 11 text
  minute ← two_at 14 text
  second ← two_at 17 text
  time_number hour minute second

-- a date and a time are there, by their length and the separators between their parts
abbrev pub has_separators : List ℕ → Bool
has_separators text = nat_le 19 (length text) && (slice_index text 4 == 45 && (slice_index text 7 == 45
    && (slice_index text 10 == 84 && (slice_index text 13 == 58 && slice_index text 16 == 58))))

-- the value of the digit at a place, 0 after the last
abbrev pub digit_at : ℕ → List ℕ → ℕ
digit_at n digits = get_or digits n 48 - 48

-- the thousandths of a second that digits after the point write; None if they write parts of a thousandth
abbrev pub thousandths_of : List ℕ → Option ℕ
thousandths_of digits = if list_all (λ c. c == 48) (drop 3 digits)
    then Some (digit_at 0 digits * 100 + (digit_at 1 digits * 10 + digit_at 2 digits)) else None

-- the thousandths of the digits before this rest, and the rest
abbrev pub thousandths_before : List ℕ → List ℕ → Option (ℕ × List ℕ)
thousandths_before bytes rest = option_map (λ n. (n, rest)) (thousandths_of (take (length bytes - length rest) bytes))

-- `time-secfrac`, if it is there, in thousandths, and what follows
abbrev pub fraction_of : List ℕ → Option (ℕ × List ℕ)
fraction_of [] = Some (0, [])
fraction_of (c ∷ cs) = if c == 46 then after_digits cs >>= thousandths_before cs else Some (0, c ∷ cs)

-- the minutes of hours and minutes
abbrev pub minutes_number : ℕ → ℕ → Option ℕ
minutes_number hour minute = if nat_lt hour 24 && nat_lt minute 60 then Some (hour * 60 + minute) else None

-- hours and minutes, the minutes at this place
abbrev pub minutes_at : ℕ → List ℕ → Option ℕ
minutes_at n text = do
  hour ← two_at 0 text
  minute ← two_at n text
  minutes_number hour minute

-- hours and minutes: 01:00, or 0100
abbrev pub minutes_of : List ℕ → Option ℕ
minutes_of text = if length text == 4 then minutes_at 2 text
    else (if length text == 5 && slice_index text 2 == 58 then minutes_at 3 text else None)

-- `time-offset`, in minutes: Z, or a sign and hours and minutes
abbrev pub offset_of : List ℕ → Option ℤ
offset_of [] = None
offset_of (c ∷ cs) = if c == 90 then (if length cs == 0 then Some (pos 0) else None)
    else (if c == 43 then option_map (λ n. pos n) (minutes_of cs)
    else (if c == 45 then option_map (λ n. neg_ℤ (pos n)) (minutes_of cs) else None))

-- the milliseconds since 1970 began, by the day, the seconds of the day, thousandths, and the offset of the zone in minutes
abbrev pub milliseconds : ℤ → ℕ → ℕ → ℤ → ℤ
milliseconds day seconds thousandths offset =
    ((day *ℤ pos 86400 +ℤ pos seconds) -ℤ offset *ℤ pos 60) *ℤ pos 1000 +ℤ pos thousandths

-- the date of a text with these separators
abbrev pub marked_date : List ℕ → Option ℤ
marked_date text = do
  day ← day_of text
  seconds ← seconds_of text
  fraction ← fraction_of (drop 19 text)
  offset ← offset_of fraction.1
  Some (milliseconds day seconds fraction.0 offset)

-- the milliseconds since 1970 began that a text means
abbrev pub date_of : List ℕ → Option ℤ
date_of text = if has_separators text then marked_date text else None
