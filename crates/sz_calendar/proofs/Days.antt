-- The calendar of these definitions and that of `jiff` are one.
use Rattle.std.proofs.Common.{◌≡◌, ℕ, zero, suc, ◌+◌, ◌-◌, ◌<◌, ◌≤◌, Bool, true, false, cond, [], ◌∷◌, ◌++◌, length, get_or, add-one, take, sum, refl, sym, ap, ◌∙◌, arith, ℤ, pos, negsuc, ◌+ℤ◌, ◌-ℤ◌, ◌≤ℤ◌, unsigned_abs, subst, to_z, w8}
use Rattle.std.proofs.lemmas.List.{take_more}
use Rattle.std.proofs.lemmas.List.Sums.{sum_by_push}
use Rattle.std.proofs.lemmas.Int.{to_z_pos}
use Rattle.jiff_core.proofs.SignedLemmas.{signed_arith, unsigned_abs-parts, one_part}
use Rattle.jiff_core.proofs.CalendarLemmas.{days_in_month_bounds}
use Rattle.jiff_core.proofs.DateLemmas.{epoch_day_range, epoch_day_injective}
use Rattle.jiff_core.specs.declared.civil.date.Date.{Date}
use Rattle.jiff_core.specs.Calendar.{IsEpochDay, days_in_year, days_in_month, days_of_years as jiff_years, days_of_months, day_count, days_from_civil}
use Rattle.jiff_core.specs.Date.{epoch_day, IsYmd}
use Rattle.sz_calendar.specs.Gregorian.{is_leap, month_lengths, year_length, first_year, start_year, days_of_years, days_before, days_before_year, unix_day, IsDate}

-- the days of a year, as the sum over its months and as a choice
choice_of_length : (leap : Bool) → cond leap 366 365 ≡ sum (31 ∷ cond leap 29 28 ∷ 31 ∷ 30 ∷ 31 ∷ 30 ∷ 31 ∷ 31 ∷ 30 ∷ 31 ∷ 30 ∷ 31 ∷ [])
choice_of_length true = refl
choice_of_length false = refl

days_in_year-is : (year : ℤ) → days_in_year year ≡ year_length year
days_in_year-is year = choice_of_length (is_leap year)

pub days_in_month-is : (year : ℤ) (month : ℕ) → 1 ≤ month → month ≤ 12 → days_in_month year month ≡ get_or (month_lengths year) (month - 1) 0
days_in_month-is year zero low high = absurd (omega arith)
days_in_month-is year (suc zero) low high = refl
days_in_month-is year (suc (suc zero)) low high = refl
days_in_month-is year (suc (suc (suc zero))) low high = refl
days_in_month-is year (suc (suc (suc (suc zero)))) low high = refl
days_in_month-is year (suc (suc (suc (suc (suc zero))))) low high = refl
days_in_month-is year (suc (suc (suc (suc (suc (suc zero)))))) low high = refl
days_in_month-is year (suc (suc (suc (suc (suc (suc (suc zero))))))) low high = refl
days_in_month-is year (suc (suc (suc (suc (suc (suc (suc (suc zero)))))))) low high = refl
days_in_month-is year (suc (suc (suc (suc (suc (suc (suc (suc (suc zero))))))))) low high = refl
days_in_month-is year (suc (suc (suc (suc (suc (suc (suc (suc (suc (suc zero)))))))))) low high = refl
days_in_month-is year (suc (suc (suc (suc (suc (suc (suc (suc (suc (suc (suc zero))))))))))) low high = refl
days_in_month-is year (suc (suc (suc (suc (suc (suc (suc (suc (suc (suc (suc (suc zero)))))))))))) low high = refl
days_in_month-is year (suc (suc (suc (suc (suc (suc (suc (suc (suc (suc (suc (suc (suc month))))))))))))) low high = absurd (omega arith)

-- the days of the first months, one month more
pub sum_of_months-more : (year : ℤ) (n : ℕ) → n < 12 →
    sum (take (suc n) (month_lengths year)) ≡ sum (take n (month_lengths year)) + get_or (month_lengths year) n 0
sum_of_months-more year n below =
    let within : n < length (month_lengths year) = omega arith in
    let next : take (suc n) (month_lengths year) ≡ take n (month_lengths year) ++ get_or (month_lengths year) n 0 ∷ [] =
    rw add-one at (take_more (month_lengths year) n 0 within) in
    ap sum next ∙ sum_by_push (λ x. x) (take n (month_lengths year)) (get_or (month_lengths year) n 0)

days_of_months-is : (year : ℤ) (n : ℕ) → n < 12 → days_of_months year n ≡ sum (take n (month_lengths year))
unfolding days_of_months
days_of_months-is year zero below = refl
days_of_months-is year (suc n) below =
    let here : n < 12 = omega arith in
    let one : suc n - 1 ≡ n = omega arith in
    let more = sum_of_months-more year n here in
    rw (days_of_months-is year n here, days_in_month-is year (suc n) (omega arith) (omega arith), one) (sym more)

jiff_years-is : (n : ℕ) → jiff_years n ≡ days_of_years n
unfolding jiff_years days_of_years
jiff_years-is zero = refl
jiff_years-is (suc n) =
    let start : pos n -ℤ pos 10000 ≡ pos n +ℤ (negsuc 9999) = omega (arith, signed_arith) in
    rw (jiff_years-is n, start, days_in_year-is (pos n +ℤ (negsuc 9999))) refl

day_count-is : (year : ℤ) (month day : ℕ) → 1 ≤ month → month ≤ 12 → 1 ≤ day → day_count year month day ≡ days_before year month day
unfolding day_count
day_count-is year month day low high some =
    rw (jiff_years-is, days_of_months-is year (month - 1) (omega arith)) (omega arith)

pub days_from_civil-is : (year : ℤ) (month day : ℕ) → 1 ≤ month → month ≤ 12 → 1 ≤ day → days_from_civil year month day ≡ unix_day year month day
unfolding days_from_civil
days_from_civil-is year month day low high some =
    rw (day_count-is year month day low high some, day_count-is (pos 1970) 1 1 (omega arith) (omega arith) (omega arith)) (omega (arith, signed_arith))

-- no month has more days
pub day-bound : (year : ℤ) (month day : ℕ) → IsDate year month day → day ≤ 31
day-bound year month day is =
    let last : day ≤ days_in_month year month = rw (days_in_month-is year month is.from_january is.to_december) is.to_last_day in
    omega (arith, days_in_month_bounds year month)

-- ---- dates of `jiff`

-- a date that `jiff` has is a date
pub IsDate_from_jiff : (date : Date) → IsDate date.year date.month date.day
IsDate_from_jiff date = record {
  from_first_year = date.year_in.0;
  to_last_year = date.year_in.1;
  from_january = date.month_in.0;
  to_december = date.month_in.1;
  from_first_day = date.day_in.0;
  to_last_day = rw (days_in_month-is date.year date.month date.month_in.0 date.month_in.1) at date.day_in.1;
}

pub epoch_day-is : (date : Date) → epoch_day date ≡ unix_day date.year date.month date.day
epoch_day-is date = days_from_civil-is date.year date.month date.day date.month_in.0 date.month_in.1 date.day_in.0

-- the date that `jiff` makes of numbers, with the casts that they went through
pub date_read : (year : ℤ) (month day : ℕ) (date : Date) → month ≤ 12 → day ≤ 31 → IsYmd year (to_z w8 month) (to_z w8 day) date →
    IsDate year month day × (epoch_day date ≡ unix_day year month day)
date_read year month day date months days is =
    let parts : IsYmd year (pos month) (pos day) date = rw (to_z_pos w8 month (omega arith), to_z_pos w8 day (omega arith)) at is in
    let month-is : date.month ≡ month = cc in
    let day-is : date.day ≡ day = cc in
    (rw (parts.0, month-is, day-is) at (IsDate_from_jiff date), epoch_day-is date ∙ rw (parts.0, month-is, day-is) refl)

-- and `jiff` has each date
jiff_date : (year : ℤ) (month day : ℕ) → IsDate year month day → Date
jiff_date year month day is =
    let last : day ≤ days_in_month year month = rw (days_in_month-is year month is.from_january is.to_december) is.to_last_day in
    record {
      year = year;
      month = month;
      day = day;
      year_in = (is.from_first_year, is.to_last_year);
      month_in = (is.from_january, is.to_december);
      day_in = (is.from_first_day, last);
    }

pub unix_day-range : (year : ℤ) (month day : ℕ) → IsDate year month day → IsEpochDay (unix_day year month day)
unfolding jiff_date
unix_day-range year month day is =
    let range : ℤ → Type 0 = λ number. IsEpochDay number in
    subst range (epoch_day-is (jiff_date year month day is)) (epoch_day_range (jiff_date year month day is))

-- the parts of one date and of another
pub record SameDate (year_a year_b : ℤ) (month_a month_b day_a day_b : ℕ) : Type 0 where
  pub year : year_a ≡ year_b
  pub month : month_a ≡ month_b
  pub day : day_a ≡ day_b

-- two dates with one number are one
pub unix_day-injective : (year other_year : ℤ) (month other_month day other_day : ℕ) → IsDate year month day →
    IsDate other_year other_month other_day → unix_day year month day ≡ unix_day other_year other_month other_day →
    SameDate year other_year month other_month day other_day
unfolding jiff_date
unix_day-injective year other_year month other_month day other_day is other same =
    let a = jiff_date year month day is in
    let b = jiff_date other_year other_month other_day other in
    let parts = epoch_day_injective (jiff_date year month day is) (jiff_date other_year other_month other_day other)
    (epoch_day-is (jiff_date year month day is) ∙ same ∙ sym (epoch_day-is (jiff_date other_year other_month other_day other))) in
    record { year = parts.0; month = parts.1; day = parts.2 }

-- ---- one after another

-- a year from the start on, by its place from there
year_at : (year : ℤ) → start_year ≤ℤ year → pos (unsigned_abs (year -ℤ start_year)) +ℤ start_year ≡ year
year_at year low = omega (arith, signed_arith, unsigned_abs-parts (year -ℤ start_year), one_part (year -ℤ start_year))

place_of_next : (year : ℤ) → start_year ≤ℤ year → unsigned_abs (year +ℤ pos 1 -ℤ start_year) ≡ suc (unsigned_abs (year -ℤ start_year))
place_of_next year low =
    omega (
      arith,
      signed_arith,
      unsigned_abs-parts (year -ℤ start_year),
      one_part (year -ℤ start_year),
      unsigned_abs-parts (year +ℤ pos 1 -ℤ start_year),
      one_part (year +ℤ pos 1 -ℤ start_year),
    )

days_before_year-next : (year : ℤ) → start_year ≤ℤ year → days_before_year (year +ℤ pos 1) ≡ days_before_year year + year_length year
unfolding days_of_years
days_before_year-next year low =
    rw (place_of_next year low, year_at year low) refl

pub unix_day-next_year : (year : ℤ) → first_year ≤ℤ year → unix_day (year +ℤ pos 1) 1 1 ≡ unix_day year 1 1 +ℤ pos (year_length year)
unix_day-next_year year low =
    let start : start_year ≤ℤ year = omega (arith, signed_arith) in
    rw (days_before_year-next year start) (omega (arith, signed_arith))

pub unix_day-next_month : (year : ℤ) (month : ℕ) → 1 ≤ month → month < 12 →
    unix_day year (month + 1) 1 ≡ unix_day year month 1 +ℤ pos (get_or (month_lengths year) (month - 1) 0)
unix_day-next_month year month low high =
    let place : month + 1 - 1 ≡ suc (month - 1) = omega arith in
    rw (place, sum_of_months-more year (month - 1) (omega arith)) (omega (arith, signed_arith))

pub unix_day-next : (year : ℤ) (month day : ℕ) → 1 ≤ day → unix_day year month (day + 1) ≡ unix_day year month day +ℤ pos 1
unix_day-next year month day low = omega (arith, signed_arith)

pub unix_day-epoch : unix_day (pos 1970) 1 1 ≡ pos 0
unix_day-epoch = omega (arith, signed_arith)
