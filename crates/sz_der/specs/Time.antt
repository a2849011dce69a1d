-- The texts of the two time types (X.680 sections 46 and 47, X.690 sections 11.7 and 11.8, RFC 5280
-- section 4.1.2.5).
use Rattle.std.specs.Prelude.{◌≡◌, ℕ, ◌+◌, ◌/◌, ◌%◌, ◌⊎◌, List, [], ◌∷◌, ◌++◌, pos, ◌≤ℤ◌, unsigned_abs}
use Rattle.sz_calendar.specs.CivilTime.{CivilTime, IsReal}
use Rattle.sz_der.specs.Tags.{generalized_time_tag, utc_time_tag}

-- the two decimal digits of a number below 100, in ASCII
unfoldable pub two_digits : ℕ → List ℕ
two_digits n = (48 + n / 10) ∷ (48 + n % 10) ∷ []

-- `MMDDhhmmssZ`
abbrev pub in_year : ℕ → ℕ → ℕ → ℕ → ℕ → List ℕ
in_year month day hour minute second =
    two_digits month ++ (two_digits day ++ (two_digits hour ++ (two_digits minute ++ (two_digits second ++ 90 ∷ []))))

abbrev pub text_in_year : CivilTime → List ℕ
text_in_year time = in_year time.month time.day time.hour time.minute time.second

-- the century and the year in it, of a year from 0 on
abbrev pub century : CivilTime → ℕ
century time = unsigned_abs time.year / 100

abbrev pub year_in_century : CivilTime → ℕ
year_in_century time = unsigned_abs time.year % 100

-- `YYMMDDhhmmssZ`
abbrev pub utc_text : CivilTime → List ℕ
utc_text time = two_digits (year_in_century time) ++ text_in_year time

-- `YYYYMMDDhhmmssZ`
abbrev pub generalized_text : CivilTime → List ℕ
generalized_text time = two_digits (century time) ++ (two_digits (year_in_century time) ++ text_in_year time)

-- A UTCTime names a time of the years 1950 to 2049.
pub record IsUtcTime (time : CivilTime) (content : List ℕ) : Type 0 where
  pub real : IsReal time
  pub from_1950 : pos 1950 ≤ℤ time.year
  pub to_2049 : time.year ≤ℤ pos 2049
  pub text : content ≡ utc_text time

-- A GeneralizedTime names a time of the years 0 to 9999.
pub record IsGeneralizedTime (time : CivilTime) (content : List ℕ) : Type 0 where
  pub real : IsReal time
  pub from_0 : pos 0 ≤ℤ time.year
  pub text : content ≡ generalized_text time

-- an item with this tag and content names the time, by its type
abbrev pub NamesTime : ℕ → List ℕ → CivilTime → Type 0
NamesTime tag content time =
    ((tag ≡ utc_time_tag) × IsUtcTime time content) ⊎ ((tag ≡ generalized_time_tag) × IsGeneralizedTime time content)
