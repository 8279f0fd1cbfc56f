-- Dates and times of day of the Gregorian calendar, and their text.
use Rattle.std.specs.Prelude.{ℕ, ◌/◌, ◌%◌, ℤ, pos, unsigned_abs, List, ◌∷◌, ◌++◌, map, flat_map, Option, option_map}
use Rattle.std.specs.List.{find, range_with_len}
use Rattle.std.specs.Int.{int_div_euclid, int_rem_euclid}
use Rattle.std.specs.Ordering.{int_eq}
use Rattle.jiff_core.specs.declared.civil.date.Date.{Date}
use Rattle.jiff_core.specs.Calendar.{days_in_month, days_from_civil}
use Rattle.cmd_local.specs.Digits.{two_digits, four_digits}

pub record CivilDate : Type 0 where
  pub year : ℕ
  pub month : ℕ
  pub day : ℕ

-- a date of the calendar; its year is at least 0
abbrev pub plain : Date → CivilDate
plain date = record { year = unsigned_abs date.year; month = date.month; day = date.day }

-- the dates of a month
abbrev pub dates_of_month : (year month : ℕ) → List CivilDate
dates_of_month year month =
    map (λ day. record { year = year; month = month; day = day }) (range_with_len 1 (days_in_month (pos year) month))

-- the dates of a year
abbrev pub dates_of_year : (year : ℕ) → List CivilDate
dates_of_year year = flat_map (dates_of_month year) (range_with_len 1 12)

-- the dates from 1900-01-01 to 9999-12-31
unfoldable pub dates : List CivilDate
dates = flat_map dates_of_year (range_with_len 1900 8100)

-- how many days a date is after 1970-01-01
abbrev pub day_number : CivilDate → ℤ
day_number date = days_from_civil (pos date.year) date.month date.day

-- the date of a day number
abbrev pub date_of : ℤ → Option CivilDate
date_of day = find (λ date. int_eq (day_number date) day) dates

-- `2026-11-25`
abbrev pub date_text : CivilDate → List ℕ
date_text date = four_digits date.year ++ 45 ∷ two_digits date.month ++ 45 ∷ two_digits date.day

-- `01:33:02`, of the seconds since midnight
abbrev pub clock_text : ℕ → List ℕ
clock_text second = two_digits (second / 3_600) ++ 58 ∷ two_digits (second / 60 % 60) ++ 58 ∷ two_digits (second % 60)

-- `2026-11-25 01:33:02`
abbrev pub time_text : CivilDate → (second : ℕ) → List ℕ
time_text date second = date_text date ++ 32 ∷ clock_text second

-- the text of this many seconds after 1970-01-01 00:00:00, on a clock whose days have 24 hours, in the years 1900 to
-- 9999
unfoldable pub civil_text : ℤ → Option (List ℕ)
civil_text second =
    option_map (λ date. time_text date (unsigned_abs (int_rem_euclid second (pos 86_400))))
    (date_of (int_div_euclid second (pos 86_400)))
