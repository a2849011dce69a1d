-- The text of a date reads back as its second.
use Rattle.std.proofs.Common.{◌≡◌, ℕ, nat_lt, ◌<◌, ◌≤◌, true, false, List, [], ◌∷◌, ◌++◌, Some, None, Ok, append_assoc, refl, arith, ℤ, pos, negsuc, ◌-ℤ◌}
use Rattle.std.proofs.lemmas.Bool.Decides.{nat_tests}
use Rattle.jiff_core.proofs.SignedLemmas.{signed_arith}
use Rattle.jiff_core.specs.declared.civil.date.Date.{Date}
use Rattle.jiff_core.specs.declared.civil.datetime.DateTime.{DateTime}
use Rattle.jiff_core.specs.declared.civil.time.Time.{Time}
use Rattle.jiff_core.specs.Calendar.{days_in_month}
use Rattle.jiff_fmt.proofs.RoundTrip.{annotations-empty, datetime-text, offset-zulu, Stops, time_spec-text}
use Rattle.jiff_fmt.specs.Temporal.{date_parts, parse_pieces, temporal_datetime, time_parts, zulu}
use Rattle.jiff_fmt.specs.Text as jiff
use Rattle.sz_base.specs.declared.moment.Seconds.{Seconds}
use Rattle.sz_calendar.proofs.Days.{days_in_month-is}
use Rattle.sz_calendar.specs.CivilTime.{CivilTime, IsReal, unix_seconds}
use Rattle.sz_calendar.specs.Gregorian.{IsDate}
use Rattle.sz_json.proofs.Instants.{is_dated-where}
use Rattle.sz_json.specs.Form.{is_dated, IsInstant, seconds_of}
use Rattle.sz_artifacts.specs.WrittenVoucher.{civil_text, IsDateText, year_text}

-- ---- the same date, in the types of `jiff`

last_day : (year : ℤ) (month day : ℕ) → IsDate year month day → day ≤ days_in_month year month
last_day year month day is = rw (days_in_month-is year month is.from_january is.to_december) is.to_last_day

no_fraction : 0 < 1000000000
no_fraction = omega arith

abbrev jiff_date : (time : CivilTime) → IsReal time → Date
jiff_date time real = record {
  year = time.year;
  month = time.month;
  day = time.day;
  year_in = (real.date.from_first_year, real.date.to_last_year);
  month_in = (real.date.from_january, real.date.to_december);
  day_in = (real.date.from_first_day, last_day time.year time.month time.day real.date);
}

abbrev jiff_clock : (time : CivilTime) → IsReal time → Time
jiff_clock time real = record {
  hour = time.hour;
  minute = time.minute;
  second = time.second;
  subsec_nanosecond = 0;
  hour_in = real.hour;
  minute_in = real.minute;
  second_in = real.second;
  subsec_in = no_fraction;
}

abbrev jiff_time : (time : CivilTime) → IsReal time → DateTime
jiff_time time real = record { date = jiff_date time real; time = jiff_clock time real }

year_is : (year : ℤ) → year_text year ≡ jiff.year_text year
year_is (pos n) = let none : nat_lt n 0 ≡ false = grind (arith, nat_tests) in rw none
year_is (negsuc n) = refl

text_is : (time : CivilTime) (real : IsReal time) → civil_text time ≡ jiff.datetime_text false 84 None (jiff_time time real) ++ jiff.zulu_text false
text_is time real = rw (year_is time.year) (simp append_assoc refl)

-- the text reads as its parts
read_parts : (time : CivilTime) (real : IsReal time) → parse_pieces (jiff.datetime_text false 84 None (jiff_time time real) ++ jiff.zulu_text false)
    ≡ Ok (record { date = date_parts (jiff_date time real); time = Some (time_parts (jiff_clock time real)); offset = Some zulu; zone = None })
unfolding temporal_datetime
read_parts time real =
    let stop : Stops (90 ∷ []) = refl in
    let read = datetime-text (jiff_time time real) (90 ∷ []) stop in
    let clock = time_spec-text (jiff_clock time real) (90 ∷ []) stop in
    rw (read, clock, offset-zulu, annotations-empty)

-- the text of a second reads as it
pub seconds_of-text : (seconds : Seconds) (text : List ℕ) → IsInstant seconds → IsDateText seconds text → seconds_of text ≡ Some seconds
unfolding seconds_of
seconds_of-text seconds text instant h =
    let real = h.1.real in
    let second : unix_seconds h.0 -ℤ pos 0 ≡ seconds.0 = omega (arith, signed_arith, h.1.at) in
    let dated : is_dated seconds.0 ≡ true = is_dated-where seconds.0 instant in
    rw (h.2, text_is h.0 real, read_parts h.0 real, second, dated)
