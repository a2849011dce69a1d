-- The forms of members: what a value stands for in a form, or nothing where it has not the form.
use Rattle.std.specs.Prelude.{ℕ, ◌&&◌, Bool, if◌then◌else◌, List, Option, Some, None, option_map, option_and_then, nat_le, nat_lt, ℤ, ◌-ℤ◌}
use Rattle.std.specs.Int.Signed.{le_z}
use Rattle.std.specs.List.{list_all}
use Rattle.std.specs.Result.{result_ok}
use Rattle.std.specs.Str.{bytes_eq}
use Rattle.base64.specs.Engines.{standard}
use Rattle.base64.specs.GeneralPurpose.{decode_of}
use Rattle.jiff_fmt.specs.Temporal.{DateParts, OffsetPiece, parse_pieces, piece_seconds, TimeParts}
use Rattle.serde_json.specs.Data.{Data, Items}
use Rattle.serde_json.specs.Find.{as_array, as_bool, as_number, as_object, as_str, as_u64}
use Rattle.sz_base.specs.Encoding.{base64_text}
use Rattle.sz_base.specs.declared.moment.Seconds.{Seconds}
use Rattle.sz_calendar.specs.CivilTime.{CivilTime, first_second, IsDated, last_second, unix_seconds}

-- a text
abbrev pub text_of : Data → Option (List ℕ)
text_of = as_str

-- the text is that of these bytes in base64, with its padding and no spare bits (RFC 4648 section 4)
abbrev pub is_base64 : List ℕ → List ℕ → Bool
is_base64 text bytes = list_all (λ byte. nat_lt byte 256) bytes && bytes_eq text (base64_text bytes)

-- the bytes that the text decodes to, where it is theirs
unfoldable pub base64_of : List ℕ → Option (List ℕ)
base64_of text =
    option_and_then (λ bytes. if is_base64 text bytes then Some bytes else None) (result_ok (decode_of standard text))

-- bytes, as their text in base64 (RFC 7951 section 6.6)
abbrev pub binary_of : Data → Option (List ℕ)
binary_of value = option_and_then base64_of (text_of value)

-- true or false
abbrev pub flag_of : Data → Option Bool
flag_of = as_bool

-- a number from the one to the other
abbrev pub if_between : ℕ → ℕ → ℕ → Option ℕ
if_between least most number = if nat_le least number && nat_le number most then Some number else None

-- a number in this range, written without a fraction
abbrev pub number_between : ℕ → ℕ → Data → Option ℕ
number_between least most value =
    option_and_then (if_between least most) (option_and_then as_u64 (as_number value))

-- a number of 32 bits
abbrev pub number_of : Data → Option ℕ
number_of value = number_between 0 4_294_967_295 value

-- a port
abbrev pub port_of : Data → Option ℕ
port_of value = number_between 1 65535 value

-- what a text says of a date and of a time of day, which is all but the fraction of its second
abbrev pub civil_of : DateParts → TimeParts → CivilTime
civil_of date time = record {
  year = date.year;
  month = date.month;
  day = date.day;
  hour = time.hour;
  minute = time.minute;
  second = time.second;
}

-- the second has a date, in the years -9999 to 9999
abbrev pub is_dated : ℤ → Bool
is_dated second = le_z first_second second && le_z second last_second

-- a second that has one
abbrev pub if_dated : ℤ → Option Seconds
if_dated second = if is_dated second then Some (record { 0 = second }) else None

-- the second at a date, a time of day and an offset, which is how far the time of day is ahead of UTC
abbrev pub second_of : DateParts → Option TimeParts → Option OffsetPiece → Option Seconds
second_of date None offset = None
second_of date (Some time) None = None
second_of date (Some time) (Some offset) =
    if_dated (unix_seconds (civil_of date time) -ℤ piece_seconds offset)

-- The second in which the instant of the text lies: the text is a date, a time of day and an offset (RFC 3339), as
-- the parser of `jiff` reads them, with second 60 as 59. A fraction is dropped, which is downwards.
unfoldable pub seconds_of : List ℕ → Option Seconds
seconds_of text =
    option_and_then (λ parts. second_of parts.date parts.time parts.offset) (result_ok (parse_pieces text))

-- the second has a date in the calendar
abbrev pub IsInstant : Seconds → Type 0
IsInstant seconds = IsDated seconds.0

-- a date and a time of day
abbrev pub date_time_of : Data → Option Seconds
date_time_of value = option_and_then seconds_of (text_of value)

-- an object, as it stands
abbrev pub object_of : Data → Option Data
object_of value = option_map (λ _. value) (as_object value)

-- a list
abbrev pub list_of : Data → Option Items
list_of = as_array
