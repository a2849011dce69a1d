-- Dates with a time of day in UTC, on a clock without leap seconds, and their seconds since the epoch.
use Rattle.std.specs.Prelude.{◌≡◌, ℕ, ◌+◌, ◌*◌, ◌<◌, ℤ, pos, neg_ℤ, ◌+ℤ◌, ◌*ℤ◌, ◌≤ℤ◌}
use Rattle.sz_calendar.specs.Gregorian.{IsDate, unix_day}

-- a date and a time of day
pub record CivilTime : Type 0 where
  pub year : ℤ
  pub month : ℕ
  pub day : ℕ
  pub hour : ℕ
  pub minute : ℕ
  pub second : ℕ

-- the calendar has this date, and the clock this time
pub record IsReal (time : CivilTime) : Type 0 where
  pub date : IsDate time.year time.month time.day
  pub hour : time.hour < 24
  pub minute : time.minute < 60
  pub second : time.second < 60

-- the seconds of the day before this one
abbrev pub second_of_day : CivilTime → ℕ
second_of_day time = time.hour * 3_600 + time.minute * 60 + time.second

-- the seconds since 1970-01-01T00:00:00Z, negative before it
abbrev pub unix_seconds : CivilTime → ℤ
unix_seconds time = unix_day time.year time.month time.day *ℤ pos 86_400 +ℤ pos (second_of_day time)

-- the first and the last second that have a date here: -9999-01-01T00:00:00Z and 9999-12-31T23:59:59Z
abbrev pub first_second : ℤ
first_second = neg_ℤ (pos 377_705_116_800)

abbrev pub last_second : ℤ
last_second = pos 253_402_300_799

-- a second that has a date here
pub record IsDated (seconds : ℤ) : Type 0 where
  pub from_first : first_second ≤ℤ seconds
  pub to_last : seconds ≤ℤ last_second

-- the date and the time of day at that second
pub record IsTimeAt (seconds : ℤ) (time : CivilTime) : Type 0 where
  pub real : IsReal time
  pub at : unix_seconds time ≡ seconds
