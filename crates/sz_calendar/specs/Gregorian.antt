-- The proleptic Gregorian calendar (ISO 8601): leap years, the lengths of months, and days counted from the
-- epoch. The year before 1 is 0, and the year before that is -1.
use Rattle.std.specs.Prelude.{ℕ, zero, suc, ◌+◌, ◌-◌, ◌%◌, ◌≤◌, Bool, not, ◌&&◌, ◌||◌, ◌==◌, if◌then◌else◌, List, [], ◌∷◌, take, sum, slice_index, ℤ, pos, neg_ℤ, ◌+ℤ◌, ◌-ℤ◌, ◌≤ℤ◌, unsigned_abs}

-- the year is a whole number of times n
abbrev pub is_multiple : ℕ → ℤ → Bool
is_multiple n year = unsigned_abs year % n == 0

-- every fourth year has a leap day, but of the full centuries only every fourth
abbrev pub is_leap : ℤ → Bool
is_leap year = is_multiple 4 year && (not (is_multiple 100 year) || is_multiple 400 year)

-- the days of the twelve months
abbrev pub month_lengths : ℤ → List ℕ
month_lengths year =
    31 ∷ (if is_leap year then 29 else 28) ∷ 31 ∷ 30 ∷ 31 ∷ 30 ∷ 31 ∷ 31 ∷ 30 ∷ 31 ∷ 30 ∷ 31 ∷ []

-- the days of the year
abbrev pub year_length : ℤ → ℕ
year_length year = sum (month_lengths year)

-- the first and the last year that dates have here
abbrev pub first_year : ℤ
first_year = neg_ℤ (pos 9999)

abbrev pub last_year : ℤ
last_year = pos 9999

-- the calendar has this day, in a year from the first to the last
pub record IsDate (year : ℤ) (month day : ℕ) : Type 0 where
  pub from_first_year : first_year ≤ℤ year
  pub to_last_year : year ≤ℤ last_year
  pub from_january : 1 ≤ month
  pub to_december : month ≤ 12
  pub from_first_day : 1 ≤ day
  pub to_last_day : day ≤ slice_index (month_lengths year) (month - 1)

-- Days are counted from 1 January of a year before all of these; the start cancels out below.
abbrev pub start_year : ℤ
start_year = neg_ℤ (pos 10_000)

-- the days of the first n years from there
unfoldable pub days_of_years : ℕ → ℕ
days_of_years zero = 0
days_of_years (suc n) = days_of_years n + year_length (pos n +ℤ start_year)

-- the days from there to the first of the year
abbrev pub days_before_year : ℤ → ℕ
days_before_year year = days_of_years (unsigned_abs (year -ℤ start_year))

-- the days of the months of the year before this one, which is counted from 1
abbrev pub days_before_month : ℤ → ℕ → ℕ
days_before_month year month = sum (take (month - 1) (month_lengths year))

-- the days from there to this one
abbrev pub days_before : ℤ → ℕ → ℕ → ℕ
days_before year month day = days_before_year year + days_before_month year month + (day - 1)

-- the days since 1 January 1970, negative before it
abbrev pub unix_day : ℤ → ℕ → ℕ → ℤ
unix_day year month day = pos (days_before year month day) -ℤ pos (days_before_year (pos 1970))
