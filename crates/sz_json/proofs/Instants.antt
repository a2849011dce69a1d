-- What is read as a date and a time of day is a second that has a date.
use Rattle.std.proofs.Common.{◌≡◌, ℕ, Bool, true, false, if◌then◌else◌, List, Option, Some, None, IfSome, option_and_then, Result, Ok, Err, refl, subst, arith, ℤ, ◌-ℤ◌}
use Rattle.std.proofs.lemmas.Int.{ints}
use Rattle.std.specs.Result.{result_ok}
use Rattle.jiff_core.specs.declared.civil.date.Date.{Date}
use Rattle.jiff_core.specs.declared.civil.time.Time.{Time}
use Rattle.jiff_core.specs.declared.error.Error.{Error}
use Rattle.jiff_fmt.specs.Temporal.{date_parts, DateParts, OffsetPiece, parse_pieces, piece_seconds, PiecesParts, time_parts, TimeParts}
use Rattle.serde_json.specs.Data.{Data}
use Rattle.sz_base.specs.declared.moment.Seconds.{Seconds}
use Rattle.sz_calendar.proofs.Days.{IsDate_from_jiff}
use Rattle.sz_calendar.proofs.Seconds.{IsDated-unix_seconds}
use Rattle.sz_calendar.specs.CivilTime.{IsDated, IsReal, unix_seconds}
use Rattle.sz_json.proofs.Readings.{form_from_optional, form_from_required}
use Rattle.sz_json.specs.Form.{civil_of, date_time_of, is_dated, IsInstant, second_of, seconds_of, text_of}
use Rattle.sz_json.specs.Member.{optional, required}
use Rattle.sz_json.specs.declared.name.Name.{Name}

-- a date and a time of day of `jiff` are real, and have a second
pub civil_real : (date : Date) (time : Time) → IsReal (civil_of (date_parts date) (time_parts time))
civil_real date time =
    record { date = IsDate_from_jiff date; hour = time.hour_in; minute = time.minute_in; second = time.second_in }

pub civil_dated : (date : Date) (time : Time) → IsDated (unix_seconds (civil_of (date_parts date) (time_parts time)))
civil_dated date time = IsDated-unix_seconds (civil_of (date_parts date) (time_parts time)) (civil_real date time)

pub IsDated-where : (second : ℤ) → is_dated second ≡ true → IsDated second
IsDated-where second e = record { from_first = grind (arith, ints, e); to_last = grind (arith, ints, e) }

-- and the other way round
pub is_dated-where : (second : ℤ) → IsDated second → is_dated second ≡ true
is_dated-where second h = grind (arith, ints, h.from_first, h.to_last)

dated_if : (dated : Bool) (second : ℤ) (seconds : Seconds) → is_dated second ≡ dated
    → (if dated then Some (record { 0 = second }) else None) ≡ Some seconds → IsInstant seconds
dated_if false second seconds e h = cc
dated_if true second seconds e h =
    let here : Seconds = record { 0 = second } in
    let same : here ≡ seconds = cc in
    subst IsInstant same (IsDated-where second e)

of_parts : (date : DateParts) (time : Option TimeParts) (offset : Option OffsetPiece)
    (seconds : Seconds) → second_of date time offset ≡ Some seconds → IsInstant seconds
of_parts date None offset seconds h = cc
of_parts date (Some time) None seconds h = cc
of_parts date (Some time) (Some offset) seconds h =
    dated_if _ (unix_seconds (civil_of date time) -ℤ piece_seconds offset) seconds refl h

of_read : (read : Result PiecesParts Error) (seconds : Seconds)
    → option_and_then (λ parts. second_of parts.date parts.time parts.offset) (result_ok read) ≡ Some seconds → IsInstant seconds
of_read (Err e) seconds h = cc
of_read (Ok parts) seconds h = of_parts parts.date parts.time parts.offset seconds h

pub IsInstant-seconds_of : (text : List ℕ) (seconds : Seconds) → seconds_of text ≡ Some seconds → IsInstant seconds
unfolding seconds_of
IsInstant-seconds_of text seconds h = of_read (parse_pieces text) seconds h

in_text : (text : Option (List ℕ)) (seconds : Seconds) → option_and_then seconds_of text ≡ Some seconds → IsInstant seconds
in_text None seconds h = cc
in_text (Some text) seconds h = IsInstant-seconds_of text seconds h

IsInstant-date_time_of : (value : Data) (seconds : Seconds) → date_time_of value ≡ Some seconds → IsInstant seconds
IsInstant-date_time_of value seconds h = in_text (text_of value) seconds h

-- and so is a member that is read as one
pub instant_where : (name : Name) (value : Data) (found : Option Seconds) → optional date_time_of name value ≡ Ok found → IfSome found IsInstant
instant_where name value None h = tt
instant_where name value (Some seconds) h =
    let read = form_from_optional date_time_of name value seconds h in
    IsInstant-date_time_of read.0 seconds read.1

pub required_instant : (name : Name) (value : Data) (seconds : Seconds) → required date_time_of name value ≡ Ok seconds → IsInstant seconds
required_instant name value seconds h =
    let read = form_from_required date_time_of name value seconds h in
    IsInstant-date_time_of read.0 seconds read.1
