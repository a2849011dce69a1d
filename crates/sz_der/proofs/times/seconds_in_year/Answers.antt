use Rattle.std.proofs.Common.{◌≡◌, ◌∙◌, arith, sym}
use Rattle.sz_calendar.specs.DateTime.{civil_time}
use Rattle.sz_calendar.proofs.Days.{day-bound}
use Rattle.sz_calendar.proofs.Seconds.{same_parts}
use Rattle.sz_der.proofs.Moments.{some_from_SomeIff}
use Rattle.sz_der.proofs.times.seconds_in_year.Goals as goal

pub returns-clause-only : goal.returns-clause-only
returns-clause-only c = λ time years real text.
    let date = c.in_ok-date_in_year.field-0 in
    let known = c.in_ok-date_in_year.ensures in
    let day = day-bound time.year time.month time.day real.date in
    let same = known.only time.month time.day time.hour time.minute time.second (omega (arith, real.date.to_december)) (omega arith)
    (omega (arith, real.hour)) (omega (arith, real.minute)) (omega (arith, real.second)) text in
    let is : time ≡ civil_time c.in_ok-date_in_year.field-0 =
    same_parts time c.in_ok-date_in_year.field-0.year c.in_ok-date_in_year.field-0.month c.in_ok-date_in_year.field-0.day
    c.in_ok-date_in_year.field-0.hour c.in_ok-date_in_year.field-0.minute c.in_ok-date_in_year.field-0.second (years
    ∙ sym known.year) (sym same.0) (sym same.1) (sym same.2) (sym same.3) (sym same.4) in
    some_from_SomeIff c.to_unix_seconds.result time (civil_time c.in_ok-date_in_year.field-0) is real c.to_unix_seconds.ensures
