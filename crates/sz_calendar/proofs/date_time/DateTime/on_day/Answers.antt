use Rattle.std.proofs.Common.{FitsSigned, w16, arith}
use Rattle.std.proofs.lemmas.Int.{to_z-of_z}
use Rattle.jiff_core.proofs.SignedLemmas.{signed_arith}
use Rattle.sz_calendar.proofs.Seconds.{time_on_day}
use Rattle.sz_calendar.proofs.date_time.DateTime.on_day.Goals as goal

pub returns : goal.returns
returns c =
    let year : FitsSigned w16 c.args.date.year = omega (arith, signed_arith, c.args.date.year_in) in
    rw (to_z-of_z w16 c.args.date.year year) (time_on_day c.args.date c.args.second c.requires)
