use Rattle.std.proofs.Common.{◌≡◌, true, false, subst, w64, ℤ}
use Rattle.std.proofs.lemmas.Int.{to_z-of_z}
use Rattle.sz_calendar.proofs.Seconds.{IsDated-unix_seconds, one_time}
use Rattle.sz_calendar.specs.CivilTime.{CivilTime, IsDated}
use Rattle.sz_calendar.specs.DateTime.{civil_time}
use Rattle.sz_issue.specs.Parts.{IsFrom1950}
use Rattle.sz_issue.proofs.times.date_at.Goals as goal

pub unreachable-requires : goal.unreachable-requires
unreachable-requires c =
    let exact = rw (to_z-of_z w64 c.args.seconds c.ranges.seconds) at c.in-None.ensures.exact in
    let at = c.requires.1.is_at in
    let dated = subst (λ (s : ℤ). IsDated s) at.at (IsDated-unix_seconds c.requires.0 at.real) in
    let none : false ≡ true = exact.1 dated in
    cc

pub returns : goal.returns
returns c =
    let found = rw (to_z-of_z w64 c.args.seconds c.ranges.seconds) at c.in-Some.ensures.some in
    let same = one_time c.args.seconds c.requires.0 (civil_time c.in-Some.date) c.requires.1.is_at found in
    subst (λ (time : CivilTime). IsFrom1950 c.args.seconds time) same c.requires.1
