-- Seconds and times of day, each from the other.
use Rattle.std.proofs.Common.{◌≡◌, ℕ, ◌+◌, ◌*◌, ◌/◌, ◌%◌, ◌<◌, refl, sym, ◌∙◌, arith, ℤ, pos, ◌+ℤ◌, ◌*ℤ◌}
use Rattle.jiff_core.proofs.SignedLemmas.{signed_arith}
use Rattle.jiff_core.specs.Calendar.{IsEpochDay}
use Rattle.jiff_core.specs.declared.civil.date.Date.{Date}
use Rattle.jiff_core.specs.Date.{epoch_day}
use Rattle.sz_calendar.specs.Gregorian.{unix_day}
use Rattle.sz_calendar.specs.CivilTime.{CivilTime, IsReal, IsDated, IsTimeAt, second_of_day, unix_seconds}
use Rattle.sz_calendar.proofs.Days.{IsDate_from_jiff, epoch_day-is, unix_day-range, unix_day-injective}

second_of_day-bound : (time : CivilTime) → IsReal time → second_of_day time < 86400
second_of_day-bound time real = omega (arith, real.hour, real.minute, real.second)

pub IsDated-unix_seconds : (time : CivilTime) → IsReal time → IsDated (unix_seconds time)
IsDated-unix_seconds time real =
    let range : IsEpochDay (unix_day time.year time.month time.day) = unix_day-range time.year time.month time.day real.date in
    let below : second_of_day time < 86400 = second_of_day-bound time real in
    record { from_first = omega (arith, signed_arith); to_last = omega (arith, signed_arith) }

-- a day that `jiff` numbers lies in these seconds
pub IsDated-day : (seconds day : ℤ) (second : ℕ) → IsEpochDay day → second < 86400 → day *ℤ pos 86400 +ℤ pos second ≡ seconds → IsDated seconds
IsDated-day seconds day second range below sum =
    record { from_first = omega (arith, signed_arith); to_last = omega (arith, signed_arith) }

same_day : (day other : ℤ) (second other_second : ℕ) → second < 86400 → other_second < 86400 →
    day *ℤ pos 86400 +ℤ pos second ≡ other *ℤ pos 86400 +ℤ pos other_second → day ≡ other
same_day day other second other_second below other_below same = omega (arith, signed_arith)

same_second : (day other : ℤ) (second other_second : ℕ) → second < 86400 → other_second < 86400 →
    day *ℤ pos 86400 +ℤ pos second ≡ other *ℤ pos 86400 +ℤ pos other_second → second ≡ other_second
same_second day other second other_second below other_below same = omega (arith, signed_arith)

-- a time goes by its parts
pub same_parts : (time : CivilTime) (year : ℤ) (month day hour minute second : ℕ) → time.year ≡ year → time.month ≡ month → time.day ≡ day →
    time.hour ≡ hour → time.minute ≡ minute → time.second ≡ second →
    time ≡ record { year = year; month = month; day = day; hour = hour; minute = minute; second = second }
same_parts time year month day hour minute second years months days hours minutes seconds =
    rw (← years, ← months, ← days, ← hours, ← minutes, ← seconds) refl

pub one_time : (seconds : ℤ) (time other : CivilTime) → IsTimeAt seconds time → IsTimeAt seconds other → time ≡ other
one_time seconds time other is is_other =
    let below = second_of_day-bound time is.real in
    let other_below = second_of_day-bound other is_other.real in
    let same : unix_seconds time ≡ unix_seconds other = is.at ∙ sym is_other.at in
    let days = same_day (unix_day time.year time.month time.day) (unix_day other.year other.month other.day) (second_of_day time)
    (second_of_day other) below other_below same in
    let clock : second_of_day time ≡ second_of_day other =
    same_second (unix_day time.year time.month time.day) (unix_day other.year other.month other.day) (second_of_day time) (second_of_day other)
    below other_below same in
    let date = unix_day-injective time.year other.year time.month other.month time.day other.day is.real.date is_other.real.date days in
    let r = is.real in
    let s = is_other.real in
    same_parts time other.year other.month other.day other.hour other.minute other.second date.year date.month date.day
    (omega (arith, r.minute, r.second, s.minute, s.second)) (omega (arith, r.minute, r.second, s.minute, s.second))
    (omega (arith, r.minute, r.second, s.minute, s.second))

-- the date and the time of a second of a day
pub time_on_day : (date : Date) (second : ℕ) → second < 86400 →
    IsTimeAt (epoch_day date *ℤ pos 86400 +ℤ pos second)
    (record { year = date.year; month = date.month; day = date.day; hour = second / 3600; minute = second / 60 % 60; second = second % 60 })
time_on_day date second below =
    let clock : second / 3600 * 3600 + second / 60 % 60 * 60 + second % 60 ≡ second = omega arith in
    record {
      real = record { date = IsDate_from_jiff date; hour = omega arith; minute = omega arith; second = omega arith };
      at = rw (clock, epoch_day-is date) refl;
    }
