use Rattle.std.proofs.Common.{refl}
use Rattle.sz_der.proofs.Steps.{exit}
use Rattle.sz_x509.specs.CertFault.{validity_fault}
use Rattle.sz_x509.proofs.tbs.take_validity.Goals as goal

pub returns-in_err-times-clause-fault : goal.returns-in_err-times-clause-fault
unfolding validity_fault
returns-in_err-times-clause-fault c =
    exit _ _ c.in_err-times.field-0.0 c.from_residual.ensures.1 (rw c.in_err-times.ensures.fault refl)

pub returns-in_err-not_before-clause-fault : goal.returns-in_err-not_before-clause-fault
unfolding validity_fault
returns-in_err-not_before-clause-fault c =
    exit _ _ c.in_err-not_before.field-0.0 c.from_residual-in_err-not_before.ensures.1
    (rw (c.in_ok-times.ensures.ok, ← c.in_ok-times.ensures.inside, c.in_err-not_before.ensures.fault) refl)

pub returns-in_err-not_after-clause-fault : goal.returns-in_err-not_after-clause-fault
unfolding validity_fault
returns-in_err-not_after-clause-fault c =
    exit _ _ c.in_err-not_after.field-0.0 c.from_residual-in_err-not_after.ensures.1
    (rw (
      c.in_ok-times.ensures.ok,
      ← c.in_ok-times.ensures.inside,
      c.in_ok-not_before.ensures.ok,
      ← c.in_ok-not_before.ensures.next,
      c.in_err-not_after.ensures.fault,
    ) refl)

pub returns-in_err-expect_end-clause-fault : goal.returns-in_err-expect_end-clause-fault
unfolding validity_fault
returns-in_err-expect_end-clause-fault c =
    exit _ _ c.in_err-expect_end.field-0.0 c.from_residual-in_err-expect_end.ensures.1
    (rw (
      c.in_ok-times.ensures.ok,
      ← c.in_ok-times.ensures.inside,
      c.in_ok-not_before.ensures.ok,
      ← c.in_ok-not_before.ensures.next,
      c.in_ok-not_after.ensures.ok,
      ← c.in_ok-not_after.ensures.next,
      c.in_err-expect_end.ensures.fault,
    ) refl)

pub returns-clause-ok : goal.returns-clause-ok
unfolding validity_fault
returns-clause-ok c =
    rw (
      c.in_ok-times.ensures.ok,
      ← c.in_ok-times.ensures.inside,
      c.in_ok-not_before.ensures.ok,
      ← c.in_ok-not_before.ensures.next,
      c.in_ok-not_after.ensures.ok,
      ← c.in_ok-not_after.ensures.next,
      c.in_ok-expect_end.ensures.ok,
    ) refl
