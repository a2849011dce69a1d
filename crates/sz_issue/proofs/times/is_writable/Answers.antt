use Rattle.std.proofs.Common.{inl, inr, ℤ, pos, ◌≤ℤ◌, IsTrue, subst, arith, FitsSigned, w16, w64}
use Rattle.std.specs.Prelude.{int_le}
use Rattle.std.proofs.lemmas.Bool.{cases_Bool}
use Rattle.std.proofs.lemmas.Int.{ints, to_z-of_z}
use Rattle.sz_calendar.proofs.Seconds.{IsDated-unix_seconds, one_time}
use Rattle.sz_calendar.specs.CivilTime.{CivilTime, IsDated, IsTimeAt}
use Rattle.sz_calendar.specs.DateTime.{civil_time}
use Rattle.sz_issue.specs.Parts.{IsWritable}
use Rattle.sz_issue.proofs.times.is_writable.Goals as goal

from_test : (seconds : ℤ) (time : CivilTime) → IsTimeAt seconds time → IsTrue (int_le (pos 1950) time.year) → IsWritable seconds
from_test seconds time at holds = (time, record { is_at = at; from_1950 = omega (arith, ints) })

test_from : (seconds : ℤ) (time : CivilTime) → IsTimeAt seconds time → IsWritable seconds → IsTrue (int_le (pos 1950) time.year)
test_from seconds time at writable =
    let same = one_time seconds writable.0 time writable.1.is_at at in
    let from : pos 1950 ≤ℤ time.year = subst (λ (t : CivilTime). pos 1950 ≤ℤ t.year) same writable.1.from_1950 in
    elim (cases_Bool (int_le (pos 1950) time.year)) [
      | inl holds ↦ holds
      | inr fails ↦ absurd (omega (arith, ints))
    ]

pub returns-in-Some : goal.returns-in-Some
returns-in-Some c =
    let fits : FitsSigned w64 c.args.seconds.0 = record { sfits = omega arith } in
    let found = rw (to_z-of_z w64 c.args.seconds.0 fits) at c.in-Some.ensures.some in
    let year : FitsSigned w16 c.in-Some.date.year = record { sfits = omega arith } in
    rw (to_z-of_z w16 c.in-Some.date.year year)
    (from_test c.args.seconds.0 (civil_time c.in-Some.date) found, test_from c.args.seconds.0 (civil_time c.in-Some.date) found)

pub returns-in-None : goal.returns-in-None
returns-in-None c =
    let fits : FitsSigned w64 c.args.seconds.0 = record { sfits = omega arith } in
    let exact = rw (to_z-of_z w64 c.args.seconds.0 fits) at c.in-None.ensures.exact in (
      λ holds. absurd cc,
      λ writable. exact.1 (subst (λ (s : ℤ). IsDated s) writable.1.is_at.at (IsDated-unix_seconds writable.0 writable.1.is_at.real)),
    )
