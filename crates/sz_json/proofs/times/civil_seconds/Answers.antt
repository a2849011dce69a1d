use Rattle.std.proofs.Common.{FitsSigned, w16, w64, sym, subst, arith}
use Rattle.std.proofs.lemmas.Int.{to_z-of_z}
use Rattle.jiff_core.proofs.SignedLemmas.{signed_arith}
use Rattle.sz_calendar.specs.CivilTime.{IsDated}
use Rattle.sz_json.proofs.Instants.{civil_dated, civil_real}
use Rattle.sz_json.proofs.times.civil_seconds.Goals as goal

pub unreachable-requires : goal.unreachable-requires
unreachable-requires c =
    let year : FitsSigned w16 c.args.date.year = omega (arith, signed_arith, c.args.date.year_in) in
    let never = rw (to_z-of_z w16 c.args.date.year year) at c.in-None.ensures in
    never (civil_real c.args.date c.args.time)

pub returns-clause-dated : goal.returns-clause-dated
returns-clause-dated c =
    let year : FitsSigned w16 c.args.date.year = omega (arith, signed_arith, c.args.date.year_in) in
    let read = rw (to_z-of_z w16 c.args.date.year year) at c.in-Some.ensures in
    let dated : IsDated c.in-Some.second = subst IsDated (sym read.1) (civil_dated c.args.date c.args.time) in
    let fits : FitsSigned w64 c.in-Some.second = omega (arith, signed_arith, dated.from_first, dated.to_last) in
    rw (to_z-of_z w64 c.in-Some.second fits) dated
