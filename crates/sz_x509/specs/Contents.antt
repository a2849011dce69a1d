-- Whether a content is one of its type, as tests of its octets, and the values that it then has.
use Rattle.std.specs.Prelude.{ℕ, ℤ, ◌+◌, ◌-◌, ◌*◌, ◌%◌, ◌^◌, ◌&&◌, ◌||◌, ◌==◌, nat_lt, nat_le, pos, unsigned_abs, if◌then◌else◌, Bool, false, List, [], ◌∷◌, length, slice_index, bytes_eq}
use Rattle.sz_calendar.specs.CivilTime.{CivilTime, unix_seconds}
use Rattle.sz_calendar.specs.Gregorian.{month_lengths}
use Rattle.sz_der.specs.Der.{number_of}
use Rattle.sz_der.specs.Time.{utc_text, generalized_text}
use Rattle.sz_der.specs.Tags.{generalized_time_tag, utc_time_tag}

-- ---- BOOLEAN, INTEGER of 32 bits and BIT STRING (X.690 sections 8.2, 8.3 and 8.6)

abbrev pub is_true_content : List ℕ → Bool
is_true_content content = bytes_eq content (255 ∷ [])

abbrev pub is_boolean : List ℕ → Bool
is_boolean content = bytes_eq content (0 ∷ []) || is_true_content content

-- the number is from 0 on and has at most 32 bits
abbrev pub is_u32 : List ℕ → Bool
is_u32 octets = nat_lt (slice_index octets 0) 128 && nat_lt (number_of octets) (2 ^ 32)

-- a BIT STRING of whole octets
abbrev pub is_whole_octets : List ℕ → Bool
is_whole_octets [] = false
is_whole_octets (unused ∷ octets) = unused == 0

-- a BIT STRING of any number of bits
abbrev pub is_bits : List ℕ → Bool
is_bits [] = false
is_bits (unused ∷ []) = unused == 0
is_bits (unused ∷ octet ∷ octets) =
    nat_le unused 7 && slice_index (octet ∷ octets) (length (octet ∷ octets) - 1) % 2 ^ unused == 0

-- ---- the two time types (X.690 sections 11.7 and 11.8)

-- the number that two decimal digits at a place write
abbrev pub digits_at : List ℕ → ℕ → ℕ
digits_at text place = (slice_index text place - 48) * 10 + (slice_index text (place + 1) - 48)

-- the time with this year whose month, day, hour, minute and second have two digits each from a place on
abbrev pub time_in_year : ℕ → List ℕ → ℕ → CivilTime
time_in_year year text place = record {
  year = pos year;
  month = digits_at text place;
  day = digits_at text (place + 2);
  hour = digits_at text (place + 4);
  minute = digits_at text (place + 6);
  second = digits_at text (place + 8);
}

-- two digits for a year of 1950 to 2049
abbrev pub year_of_two : ℕ → ℕ
year_of_two year = if nat_lt year 50 then 2000 + year else 1900 + year

-- the time that the text of a UTCTime writes, if it is one
abbrev pub utc_time_in : List ℕ → CivilTime
utc_time_in text = time_in_year (year_of_two (digits_at text 0)) text 2

-- the time that the text of a GeneralizedTime writes, if it is one
abbrev pub generalized_time_in : List ℕ → CivilTime
generalized_time_in text = time_in_year (digits_at text 0 * 100 + digits_at text 2) text 4

-- the calendar has the date, which is of a year from -9999 to 9999
abbrev pub is_date : ℤ → ℕ → ℕ → Bool
is_date year month day =
    nat_le (unsigned_abs year) 9999 && (nat_le 1 month && (nat_le month 12 && (nat_le 1 day
    && nat_le day (slice_index (month_lengths year) (month - 1)))))

-- the calendar has the date, and the clock the time
unfoldable pub is_real : CivilTime → Bool
is_real time =
    is_date time.year time.month time.day && (nat_lt time.hour 24 && (nat_lt time.minute 60 && nat_lt time.second 60))

-- the text is what the time that it writes is written as, and that time is real
unfoldable pub is_utc_time : List ℕ → Bool
is_utc_time text =
    bytes_eq text (utc_text (utc_time_in text)) && (nat_lt (digits_at text 0) 100 && is_real (utc_time_in text))

unfoldable pub is_generalized_time : List ℕ → Bool
is_generalized_time text =
    bytes_eq text (generalized_text (generalized_time_in text)) && is_real (generalized_time_in text)

-- the time that an item of either type names
abbrev pub time_in : ℕ → List ℕ → CivilTime
time_in tag text = if tag == utc_time_tag then utc_time_in text else generalized_time_in text

-- the item is a time
abbrev pub is_time : ℕ → List ℕ → Bool
is_time tag text =
    (tag == utc_time_tag && is_utc_time text) || (tag == generalized_time_tag && is_generalized_time text)

-- in seconds since 1970
abbrev pub seconds_in : ℕ → List ℕ → ℤ
seconds_in tag text = unix_seconds (time_in tag text)
