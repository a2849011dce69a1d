use Rattle.std.proofs.Common.{◌∙◌, arith, FitsSigned, w16, w32}
use Rattle.std.proofs.lemmas.Int.{to_z-of_z}
use Rattle.jiff_core.proofs.SignedLemmas.{signed_arith}
use Rattle.sz_calendar.proofs.Days.{date_read}
use Rattle.sz_calendar.proofs.date_time.unix_day.Goals as goal

pub returns-in-Ok-clause-number : goal.returns-in-Ok-clause-number
returns-in-Ok-clause-number c =
    let fits : FitsSigned w32 c.to_unix_epoch_day.result = omega (arith, signed_arith, c.to_unix_epoch_day.ensures.bound) in
    let parts = rw (to_z-of_z w16 c.args.year c.ranges.year) at c.in-Ok.ensures.value in
    let read = date_read c.args.year c.args.month c.args.day c.in-Ok.date c.if-month-gt12.false c.if-day-gt31.false parts in
    (read.0, to_z-of_z w32 c.to_unix_epoch_day.result fits ∙ c.to_unix_epoch_day.ensures.value ∙ read.1)
